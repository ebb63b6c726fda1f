-- The sectors of the image that hold nothing are zeros. Assumes nothing.
use mathlib.Core.Path.{◌≡◌, refl, ap, ◌∙◌}
use mathlib.Core.List.{List, [], ◌∷◌, ◌++◌, append_assoc, append-nil}
use Prim.Native.Nat.{ℕ, zero, suc, ◌+◌, ◌-◌, ◌*◌, ◌≤◌, ◌<◌}
use native.Mathlib.Omega.{arith}
use lib.ListN.{length, get_or, take, drop, replicate, length-append, length-replicate, get_or-replicate, replicate-append-replicate, get_or-append}
use lib.Seq.{length-take-le}
use lib.Dec.{lit≤}
use Rattle.disc.specs.Ask.{Disc}
use Rattle.disc.specs.Ask.Held.{holds}
use Rattle.disc.specs.Images.{disc}
use Rattle.writers.specs.Layout.{blocks_of, total, partition_for, directory_size, zeros, joined, blanks, sequence, recognition_part, integrity_part, root_part, front, anchor_at, directory_part, entries, entries_part, files_part, image}
use Rattle.writers.specs.Descriptors.{Span, span, blank_spans, AllBlank}
use Rattle.writers.proofs.PartLaws.{entries-count}
use Rattle.writers.proofs.FileLaws.{files-long}
use Rattle.writers.proofs.SectorLaws.{sector-at, whole-blanks}
use Rattle.writers.proofs.OpeningLaws.{on_disc, at_front, front-count}
use Rattle.writers.proofs.ImageLaws.{disk-front, disk-entries, behind_front, part-whole, part_count, front_long, directory-part-long, entries-part-long, few-files}
use Rattle.writers.proofs.DescriptorLaws.{skipped}
use Rattle.writers.specs.Vaults.{written, Accepted}

-- zeros that stand behind others in a list of sectors
blank-behind : (ahead : List (List ℕ)) (c : ℕ) (rest : List (List ℕ)) (a k : ℕ) → length ahead ≡ a → k < c → get_or (ahead ++ (blanks c ++ rest)) (a + k) [] ≡ zeros 2048
blank-behind ahead c rest a k n l =
    let m : k < length (blanks c) = omega (arith, length-replicate c (zeros 2048)) in
    rw (← n) (skipped ahead (blanks c ++ rest) k ∙ get_or-append (blanks c) rest [] k m ∙ get_or-replicate c k (zeros 2048) [] l)

-- ---- the front

module _ (size files directory : ℕ) (rest : List ℕ) where
  abbrev sectors : List (List ℕ)
  sectors = front size files directory

  span-blank : (a c : ℕ) → sectors ≡ take a sectors ++ (blanks c ++ drop (a + c) sectors) → a + c ≤ 280 → (k : ℕ) → k < c → on_disc size files directory rest (a + k) ≡ holds (replicate 2048 0)
  span-blank a c e h k l =
      let n : length (take a sectors) ≡ a = length-take-le a sectors (omega (arith, front-count size files directory)) in
      at_front size files directory rest (a + k) (omega arith) ∙ ap holds (ap (λ s. get_or s (a + k) []) e ∙ blank-behind (take a sectors) c (drop (a + c) sectors) a k n l)

  front-blank : AllBlank (on_disc size files directory rest) (span 0 16 ∷ span 19 13 ∷ span 38 10 ∷ span 54 10 ∷ span 66 190 ∷ span 257 15 ∷ span 273 1 ∷ span 275 5 ∷ [])
  unfolding AllBlank front recognition_part sequence integrity_part root_part
  front-blank = (
    span-blank 0 16 refl (lit≤ tt),
    (
      span-blank 19 13 refl (lit≤ tt),
      (
        span-blank 38 10 refl (lit≤ tt),
        (
          span-blank 54 10 refl (lit≤ tt),
          (
            span-blank 66 190 refl (lit≤ tt),
            (span-blank 257 15 refl (lit≤ tt), (span-blank 273 1 refl (lit≤ tt), (span-blank 275 5 refl (lit≤ tt), tt))),
          ),
        ),
      ),
    ),
  )

-- ---- behind it

-- zeros as sectors
zeros-joined : (n : ℕ) → joined (blanks n) ≡ zeros (2048 * n)
unfolding joined
zeros-joined zero = refl
zeros-joined (suc n) =
    let z : 2048 * suc n ≡ 2048 + 2048 * n = omega arith in
    rw (zeros-joined n, z) (replicate-append-replicate 2048 (2048 * n) 0)

all_append : (d : Disc) (xs ys : List Span) → AllBlank d xs → AllBlank d ys → AllBlank d (xs ++ ys)
unfolding AllBlank
all_append d [] ys h k = k
all_append d (x ∷ xs) ys h k = (h.0, all_append d xs ys h.1 k)

-- ---- the image, with whatever stands behind it

module _ (names : List (List ℕ)) (lengths staging more : List ℕ) (h : Accepted names lengths staging) where
  abbrev head : List ℕ
  head = joined (front (partition_for (total lengths)) (length names) (directory_size names)) ++ directory_part names

  entries-blank : (k : ℕ) → k < 64 - length lengths → disc (written names lengths staging more) (288 + length lengths + k) ≡ holds (replicate 2048 0)
  unfolding entries_part
  entries-blank k l =
      let few : length lengths ≤ 64 = few-files names lengths staging more h in
      let p : length head ≡ 2048 * 288 = length-append (joined (front (partition_for (total lengths)) (length names) (directory_size names))) (directory_part names) ∙ rw (front_long names lengths staging more h, directory-part-long names lengths staging more h) in
      let w : length lengths + k < length (entries_part lengths) = omega (arith, part_count lengths few) in
      let z : 288 + length lengths + k ≡ 288 + (length lengths + k) = omega arith in
      let blank : get_or (entries_part lengths) (length lengths + k) [] ≡ zeros 2048 = rw append-nil at (blank-behind (entries 0 80 lengths) (64 - length lengths) [] (length lengths) k (entries-count 0 80 lengths) l) in
      rw (z, disk-entries names lengths staging more h) (sector-at head 288 p (entries_part lengths) _ (part-whole lengths few) (length lengths + k) w ∙ ap holds blank)

  abbrev ahead : List ℕ
  ahead = head ++ joined (entries_part lengths) ++ files_part lengths staging

  abbrev left : ℕ
  left = total lengths - 353 - blocks_of lengths

  ahead-long : length ahead ≡ 2048 * (352 + blocks_of lengths)
  ahead-long =
      rw (
        length-append,
        length-append,
        length-append,
        front_long names lengths staging more h,
        directory-part-long names lengths staging more h,
        entries-part-long names lengths staging more h,
        files-long lengths staging h.staged,
      ) (omega arith)

  disk-left : (written names lengths staging more) ≡ ahead ++ (joined (blanks left) ++ (anchor_at (total lengths - 1) ++ more))
  unfolding image
  disk-left = rw (zeros-joined left) (simp append_assoc)

  left-blank : (k : ℕ) → k < left → disc (written names lengths staging more) (352 + blocks_of lengths + k) ≡ holds (replicate 2048 0)
  left-blank k l =
      let w : k < length (blanks left) = omega (arith, length-replicate left (zeros 2048)) in
      rw disk-left (sector-at ahead (352 + blocks_of lengths) ahead-long (blanks left) _ (whole-blanks left) k w ∙ ap holds (get_or-replicate left k (zeros 2048) [] l))

  -- every sector that the layout names nothing for is zeros
  pub vault-blank : AllBlank (disc (image names lengths staging ++ more)) (blank_spans (total lengths) (length lengths) (blocks_of lengths))
  unfolding AllBlank
  vault-blank =
      all_append (disc (written names lengths staging more)) (span 0 16 ∷ span 19 13 ∷ span 38 10 ∷ span 54 10 ∷ span 66 190 ∷ span 257 15 ∷ span 273 1 ∷ span 275 5 ∷ [])
      (span (288 + length lengths) (64 - length lengths) ∷ span (352 + blocks_of lengths) left ∷ [])
      (rw (disk-front names lengths staging more h) (front-blank (partition_for (total lengths)) (length names) (directory_size names) (behind_front names lengths staging more h)))
      (entries-blank, (left-blank, tt))

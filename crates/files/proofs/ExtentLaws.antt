-- What reading an extent comes to on the disc that an image is: its sectors are all there exactly when the last one is.
-- Assumes nothing.
use mathlib.Core.Path.{◌≡◌, refl, ap, sym, ◌∙◌}
use mathlib.Core.List.{List, [], ◌++◌, append-nil}
use mathlib.Core.Logic.{⊎_elim}
use Prim.Native.Nat.{ℕ, zero, suc, ◌+◌, ◌-◌, ◌*◌, ◌≤◌, ◌<◌, min, max}
use native.Mathlib.Omega.{arith}
use lib.ListN.{length, take, drop, length-take, length-drop}
use lib.Seq.{take_all, take-take, take-add, drop-drop}
use lib.Dec.{leb}
use borrow.Author.Tests.{le-leb, lt-leb}
use Rattle.disc.specs.Choice.{pick}
use Rattle.disc.specs.Ask.{Ask, then}
use Rattle.disc.specs.Ask.Ask.{done, ask}
use Rattle.disc.specs.Ask.Outcome.{answered, refused}
use Rattle.disc.specs.Ran.{Ran, ran, after}
use Rattle.disc.specs.Images.{disc, held_from, sectors_for}
use Rattle.disc.specs.declared.refusals.Refusal.TheVariants.{Io}
use Rattle.disc.proofs.RanLaws.{ran-done, ran-there, ran-missing, ran_then}
use Rattle.disc.proofs.ImageLaws.{split, held, missing, same_answer, one-behind}
use Rattle.files.specs.Reads.{joining, extent_bytes}
use Rattle.files.specs.Inner.Pieces.{sectors_read}

abbrev pub extent_runs : List ℕ → ℕ → ℕ → ℕ → Ran (List ℕ)
extent_runs image at size want =
    pick (leb (sectors_read size want) (held_from image at))
    (record { outcome = answered (take (min size want) (drop (2048 * at) image)); count = sectors_read size want })
    (record { outcome = refused Io; count = held_from image at + 1 })

-- a list's first sector and what follows it, both cut
two-parts : (s : List ℕ) (size want : ℕ) → min size 2048 < want → take size (take 2048 s) ++ take (min (size - 2048) (want - min size 2048)) (drop 2048 s) ≡ take (min size want) s
two-parts s size want h = ⊎_elim
    (λ (k : size ≤ 2048). let z : min (size - 2048) (want - min size 2048) ≡ 0 = omega arith in
    let t : min size want ≡ size = omega arith in
    rw (z, t, append-nil) (take-take size 2048 s k))
    (λ (k : 2048 < size). let z : min size want ≡ 2048 + min (size - 2048) (want - min size 2048) = omega arith in
    rw (z, take-add, take_all size (take 2048 s) (rw length-take (omega arith))))
    (split size 2048)

-- how many sectors are read, with the first taken off
only_one : (size want w : ℕ) → size ≤ want → 1 ≤ size → size ≤ 2048 → sectors_read size want ≡ 1 + sectors_read (size - 2048) w
only_one size want w h o k = ap sectors_for (low size want h o) ∙ one-sector size o k ∙ sym (ap (λ n. 1 + sectors_for n) (none size w k))
  where
    low : (a b : ℕ) → a ≤ b → 1 ≤ a → min a (max 1 b) ≡ a
    low a b p q = omega arith

    none : (a b : ℕ) → a ≤ 2048 → min (a - 2048) (max 1 b) ≡ 0
    none a b p = omega arith

    one-sector : (n : ℕ) → 1 ≤ n → n ≤ 2048 → sectors_for n ≡ 1 + sectors_for 0
    one-sector n p q = omega arith

some_more : (size want : ℕ) → 2048 < size → 2048 < want → sectors_read size want ≡ 1 + sectors_read (size - 2048) (want - 2048)
some_more size want h k =
    let e : max 1 want ≡ want = omega arith in
    let f : max 1 (want - 2048) ≡ want - 2048 = omega arith in
    rw (e, f) (less size want h k)
  where
    less : (a b : ℕ) → 2048 < a → 2048 < b → sectors_for (min a b) ≡ 1 + sectors_for (min (a - 2048) (b - 2048))
    less a b p q = omega arith

one_more : (size want l : ℕ) → l ≡ min size 2048 → l < want → 1 ≤ size → sectors_read size want ≡ 1 + sectors_read (size - 2048) (want - l)
one_more size want l e h o = ⊎_elim
    (λ (k : size ≤ 2048). only_one size want (want - l) (omega arith) o k)
    (λ (k : 2048 < size). let f : l ≡ 2048 = omega arith in rw f (some_more size want k (omega arith)))
    (split size 2048)

module _ (image : List ℕ) where
  -- no sector is needed
  runs_none : (at size want : ℕ) → size ≡ 0 → ran (disc image) (done []) ≡ extent_runs image at size want
  runs_none at size want z =
      let m : sectors_read size want ≡ 0 = omega arith in
      let t : min size want ≡ 0 = omega arith in
      rw (m, t, le-leb 0 (held_from image at) (omega arith)) (ran-done (disc image) [])

  -- the first sector isn't there
  runs-gone : (at size want : ℕ) (k : List ℕ → Ask (List ℕ)) → 1 ≤ size → held_from image at ≡ 0 → ran (disc image) (ask at k) ≡ extent_runs image at size want
  runs-gone at size want k s z =
      rw (lt-leb (sectors_read size want) (held_from image at) (omega arith), z) (ran-missing (disc image) at k (missing image at (omega arith)))

  -- the first sector is there
  module _ (at size want : ℕ) (one : 1 ≤ size) (have : 1 ≤ held_from image at) where
    abbrev sector : List ℕ
    sector = take 2048 (drop (2048 * at) image)

    sector-long : length (take size sector) ≡ min size 2048
    sector-long = simp (length-take, length-drop) (omega arith)

    -- and it is enough
    runs-stop : want ≤ length (take size sector) → after 1 (ran (disc image) (done (take want (take size sector)))) ≡ extent_runs image at size want
    runs-stop h =
        let l = sector-long in
        let m : sectors_read size want ≡ 1 = omega arith in
        let t : min size want ≡ want = omega arith in
        rw (m, t, le-leb 1 (held_from image at), ran-done (disc image))
        (same_answer (take-take want size _ (omega arith) ∙ take-take want 2048 _ (omega arith)) refl)

    -- and the sectors behind it are read too
    module _ (h : length (take size sector) < want) where
      rest-bytes : take size sector ++ take (min (size - 2048) (want - length (take size sector))) (drop (2048 * (at + 1)) image) ≡ take (min size want) (drop (2048 * at) image)
      rest-bytes =
          let l = sector-long in
          let e : 2048 * (at + 1) ≡ 2048 * at + 2048 = omega arith in
          rw (l, e, ← drop-drop 2048 (2048 * at) image)
          (two-parts (drop (2048 * at) image) size want (omega arith))

      runs_on : (m : Ask (List ℕ)) → ran (disc image) m ≡ extent_runs image (at + 1) (size - 2048) (want - length (take size sector))
          → after 1 (ran (disc image) (then m (λ rest. done (take size sector ++ rest)))) ≡ extent_runs image at size want
      runs_on m e =
          rw (ran_then, e)
          (one-behind (disc image) (take size sector) _ _ rest-bytes _ _ (one_more size want _ sector-long h one) (held_from image (at + 1)) _ (omega arith))

    runs-there : (m : List ℕ → Ask (List ℕ)) → ran (disc image) (m sector) ≡ extent_runs image (at + 1) (size - 2048) (want - length (take size sector))
        → ran (disc image) (ask at (λ b. joining want (take size b) (m b))) ≡ extent_runs image at size want
    runs-there m e = ran-there (disc image) at _ _ (held image at (omega arith)) ∙ ⊎_elim
        (λ (h : want ≤ length (take size sector)). rw (le-leb want _ h) (runs-stop h))
        (λ (h : length (take size sector) < want). rw (lt-leb want _ h) (runs_on h (m sector) e))
        (split want (length (take size sector)))

  -- reading an extent: n is the number of its sectors
  pub extent-runs : (n at size want : ℕ) → n ≡ sectors_for size → ran (disc image) (extent_bytes n at size want) ≡ extent_runs image at size want
  unfolding extent_bytes
  extent-runs zero at size want e = runs_none at size want (omega arith)
  extent-runs (suc n) at size want e = ⊎_elim
      (λ (h : held_from image at ≤ 0). runs-gone at size want _ (omega arith) (omega arith))
      (λ (h : 0 < held_from image at). runs-there at size want (omega arith) h (λ b. extent_bytes n (at + 1) (size - 2048) (want - length (take size b)))
      (extent-runs n (at + 1) (size - 2048) (want - length (take size (take 2048 (drop (2048 * at) image)))) (omega arith)))
      (split (held_from image at) 0)

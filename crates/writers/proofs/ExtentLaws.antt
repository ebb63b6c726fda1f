-- The extents of the image's files, as the reader lists them: one of each file that has bytes, inside the partition, and none over another. Assumes nothing.
use Rattle.std.specs.Prelude.{None}
use mathlib.Core.Path.{◌≡◌, refl, ◌∙◌}
use mathlib.Core.Bool.{Bool, true, false}
use mathlib.Core.List.{List, [], ◌∷◌, ◌++◌}
use Prim.Native.Nat.{ℕ, zero, suc, ◌+◌, ◌≤◌, ◌<◌, ◌^◌}
use native.Mathlib.Omega.{arith}
use lib.ListN.{length, get_or, take, drop}
use lib.Seq.{split_at, length-take-le}
use lib.Dec.{eqb, lit<}
use borrow.Author.Tests.{eqb-true, eqb-false}
use Rattle.disc.specs.Choice.{pick}
use Rattle.disc.specs.Ask.Held.{holds}
use Rattle.disc.specs.Ask.Ask.{done}
use Rattle.disc.specs.Ask.Outcome.{answered}
use Rattle.disc.specs.Ran.{ran}
use Rattle.disc.specs.Images.{disc, sectors_for}
use Rattle.disc.proofs.RanLaws.{ran-done, ran_then}
use Rattle.areas.specs.Areas.{extent, area_at}
use Rattle.areas.specs.declared.AllocExtent.{AllocExtent}
use Rattle.areas.specs.declared.AdEnding.TheVariants.{End}
use Rattle.files.specs.Files.{file_at, extents_of, file_extents}
use Rattle.volumes.specs.declared.openings.How.{How}
use Rattle.writers.specs.Layout.{summed, blocks_of, total, partition_for, directory_size, sector, sealed, entry_body, root_entry, image}
use Rattle.writers.specs.Descriptors.{block_of, extents_for}
use Rattle.writers.proofs.OpeningLaws.{root-there}
use Rattle.writers.proofs.ReadLaws.{area-one, area-none, file-runs}
use Rattle.writers.proofs.ImageLaws.{behind_front, disk-front, small, few-blocks, blocks, entry-there, short, near}
use Rattle.writers.specs.Vaults.{written, mount_for, icb_at, vault_for, Accepted}

-- ---- an entry, as the layout has it

extents-run : (location type permissions size unique block : ℕ) → location < 2 ^ 32 → (how : How) (image : List ℕ)
    → disc image (272 + location) ≡ holds (sector (sealed 261 location (entry_body type permissions size unique block))) → {es : List AllocExtent}
    → area_at 0 (sector (sealed 261 location (entry_body type permissions size unique block))) 176 8 ≡ record { extents = es; ending = End }
    → ran (disc image) (file_extents (mount_for how) (icb_at location)) ≡ record { outcome = answered (es ++ []); count = 1 }
unfolding file_extents
extents-run location type permissions size unique block l how image there e =
    ran_then (disc image) (file_at (mount_for how) (icb_at location)) (λ f. done (extents_of f))
    ∙ rw (file-runs location type permissions size unique block l how image there e, ran-done)

-- ---- the image, with whatever stands behind it, under every choice of opening

module _ (names : List (List ℕ)) (lengths staging more : List ℕ) (h : Accepted names lengths staging) (how : How) where
  module _ (before : List ℕ) (n : ℕ) (after : List ℕ) (e : lengths ≡ before ++ n ∷ after) where
    abbrev at : ℕ
    at = 80 + blocks_of before

    extents-are : ran (disc (written names lengths staging more)) (file_extents (mount_for how) (icb_at (16 + length before))) ≡ record { outcome = answered (extents_for n at); count = 1 }
    extents-are = by (eqb n 0) refl
      where
        there : disc (written names lengths staging more) (272 + (16 + length before)) ≡ holds (sector (sealed 261 (16 + length before) (entry_body 5 0x1084 n (16 + length before) (pick (eqb n 0) 0 at))))
        there = entry-there names lengths staging more h before n after e

        by : (t : Bool) → eqb n 0 ≡ t → ran (disc (written names lengths staging more)) (file_extents (mount_for how) (icb_at (16 + length before))) ≡ record { outcome = answered (extents_for n at); count = 1 }
        by true f =
            let area = area-none (16 + length before) 5 0x1084 n (16 + length before) (pick (eqb n 0) 0 at) (rw f (lit< tt)) (eqb-true n 0 f) in
            extents-run (16 + length before) 5 0x1084 n (16 + length before) (pick (eqb n 0) 0 at) (near names lengths staging more h before n after e) how (written names lengths staging more) there area ∙ rw f
        by false f =
            let low : pick (eqb n 0) 0 at < 2 ^ 32 = rw f (omega (arith, blocks names lengths staging more h before n after e, few-blocks names lengths staging more h)) in
            let area = area-one (16 + length before) 5 0x1084 n (16 + length before) (pick (eqb n 0) 0 at) (short names lengths staging more h before n after e) low (eqb-false n 0 f) in
            extents-run (16 + length before) 5 0x1084 n (16 + length before) (pick (eqb n 0) 0 at) (near names lengths staging more h before n after e) how (written names lengths staging more) there area ∙ rw f

  -- the extents of the i-th file
  pub vault-extents : (i : ℕ) → i < length lengths
      → ran (disc (written names lengths staging more)) (file_extents (vault_for how).mount (icb_at (16 + i))) ≡ record { outcome = answered (extents_for (get_or lengths i 0) (block_of lengths i)); count = 1 }
  vault-extents i k =
      let l : length (take i lengths) ≡ i = length-take-le i lengths (omega arith) in
      rw l at (extents-are (take i lengths) (get_or lengths i 0) (drop (suc i) lengths) (split_at lengths i 0 k))

  -- the root's: its bytes stand in blocks 8 to 15
  pub vault-root-extents : ran (disc (written names lengths staging more)) (file_extents (vault_for how).mount (vault_for how).root) ≡ record { outcome = answered (extent (directory_size names) 0 8 None ∷ []); count = 1 }
  vault-root-extents =
      let there : disc (written names lengths staging more) 274 ≡ holds (sector (root_entry (directory_size names))) = rw (disk-front names lengths staging more h) (root-there (partition_for (total lengths)) (length names) (directory_size names) (behind_front names lengths staging more h)) in
      let area = area-one 2 4 0x14a5 (directory_size names) 0 8 (omega (arith, small names lengths staging more h)) (lit< tt) (λ z. omega arith) in
      extents-run 2 4 0x14a5 (directory_size names) 0 8 (lit< tt) how (written names lengths staging more) there area

-- ---- where they lie

blocks-apart : (lengths : List ℕ) (i j : ℕ) → i < j → j < length lengths → blocks_of (take i lengths) + sectors_for (get_or lengths i 0) ≤ blocks_of (take j lengths)
unfolding summed
blocks-apart [] i j k l = absurd (omega arith)
blocks-apart (n ∷ ns) i zero k l = absurd (omega arith)
blocks-apart (n ∷ ns) zero (suc j) k l = omega arith
blocks-apart (n ∷ ns) (suc i) (suc j) k l = omega (arith, blocks-apart ns i j (omega arith) (omega arith))

module _ (names : List (List ℕ)) (lengths staging : List ℕ) (h : Accepted names lengths staging) where
  -- inside the partition, behind the directory and the entries of files
  pub extents-inside : (i : ℕ) → i < length lengths → (80 ≤ block_of lengths i) × (block_of lengths i + sectors_for (get_or lengths i 0) ≤ partition_for (total lengths))
  extents-inside i k =
      let b = blocks names lengths staging [] h (take i lengths) (get_or lengths i 0) (drop (suc i) lengths) (split_at lengths i 0 k) in
      (omega arith, omega (arith, b))

  -- and none begins before one that stands ahead of it has ended
  pub extents-apart : (i j : ℕ) → i < j → j < length lengths → block_of lengths i + sectors_for (get_or lengths i 0) ≤ block_of lengths j
  extents-apart i j k l = omega (arith, blocks-apart lengths i j k l)

  pub root-inside : 8 + sectors_for (directory_size names) ≤ 16
  root-inside = omega (arith, small names lengths staging [] h)

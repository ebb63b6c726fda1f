-- RULES 8.29 and 8.32, of the call that reads many files: its count is the sum of what each read by a path counts alone, held at 2^64 - 1. Assumes nothing.
use mathlib.Core.Path.{◌≡◌, sym, ◌∙◌}
use mathlib.Core.List.{List, ◌∷◌, ◌++◌}
use Prim.Native.Nat.{ℕ, ◌+◌, min}
use lib.ListN.{length, drop}
use Rattle.disc.specs.Counts.{reported}
use Rattle.disc.specs.Images.{disc}
use Rattle.disc.specs.Ran.{ran}
use Rattle.disc.specs.declared.refusals.Refusal.TheVariants.{NoRoom}
use Rattle.disc.proofs.ReplyLaws.{reply-counts}
use Rattle.listings.specs.declared.matchings.Matching.{Matching}
use Rattle.volumes.specs.declared.openings.VolumeRecord.{VolumeRecord}
use Rattle.cue_stacks.specs.Stacks.{items}
use Rattle.cue_stacks.specs.Sums.{summed}
use Rattle.cue_stacks.proofs.SumLaws.{all-sums, item-sums}
use Rattle.vault.specs.Calls.{path_reading, reads_path, reads_all}
use Rattle.vault.specs.Stacks.{left}
use Rattle.cue_stacks.specs.Items.{start_of, Enough}

module _ (image : List ℕ) (v : VolumeRecord) (paths : List ℕ) (matching : Matching) (out lengths answers work : List ℕ) where
  -- a read by a path counts the same in any room
  count-alone : (room path : List ℕ) → (reads_path image v path matching room work).reply.count ≡ reported (ran (disc image) (path_reading v (length work) path matching)).count
  count-alone room path =
      reply-counts NoRoom (length room) (reported (ran (disc image) (path_reading v (length work) path matching)).count) (ran (disc image) (path_reading v (length work) path matching)).outcome

  module _ (h : Enough paths lengths answers) (room : List ℕ) where
    -- what each read alone counts, added up: of an item that is refused too
    pub read-all-sums : (reads_all image v paths matching out lengths answers work).reply.count
        ≡ min (summed (λ path. (reads_path image v path matching room work).reply.count) (items paths)) 0xffff_ffff_ffff_ffff
    read-all-sums =
        all-sums (λ path. ran (disc image) (path_reading v (length work) path matching)) paths out lengths answers h
        ∙ (λ i. min (summed (λ path. sym (count-alone room path) i) (items paths)) 0xffff_ffff_ffff_ffff)

    -- an item's own count: that of the read by its path into the output from its start on, as that came
    pub read-all-item-counts : (before : List (List ℕ)) (path : List ℕ) (behind : List (List ℕ)) → items paths ≡ before ++ path ∷ behind
        → (reads_all image v paths matching out lengths answers work).reply.count
        ≡ min (summed (λ p. (reads_path image v p matching room work).reply.count) before
        + (reads_path image v path matching (drop (start_of (left image v paths matching out lengths answers work) (length before)) out) work).reply.count
        + summed (λ p. (reads_path image v p matching room work).reply.count) behind) 0xffff_ffff_ffff_ffff
    read-all-item-counts before path behind e =
        let here : List ℕ = drop (start_of (left image v paths matching out lengths answers work) (length before)) out in
        item-sums (λ p. ran (disc image) (path_reading v (length work) p matching)) paths out lengths answers h before path behind e
        ∙ (λ i. min (summed (λ p. sym (count-alone room p) i) before + sym (count-alone here path) i + summed (λ p. sym (count-alone room p) i) behind) 0xffff_ffff_ffff_ffff)

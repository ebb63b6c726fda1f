-- What is known of a file up to where a read of it would stop: for the contracts of private functions.
use Rattle.std.specs.Prelude.{ℕ, ◌+◌, ◌-◌, ◌*◌, ◌≤◌, ◌^◌, ◌≡◌, List, length}
use Rattle.disc.specs.Ran.{Ran, ran, after}
use Rattle.disc.specs.Images.{disc}
use Rattle.disc.specs.Replies.{measured_of}
use Rattle.disc.specs.declared.places.Mount.{Mount}
use Rattle.disc.specs.declared.replies.Reply.{Reply}
use Rattle.records.specs.declared.allocations.LongAd.{LongAd}
use Rattle.chains.specs.Chains.{most_continuations}
use Rattle.chains.specs.Inner.Walks.{left, hops_at, weight, Counts}
use Rattle.chains.specs.declared.counts.Counted.{Counted}
use Rattle.files.specs.Files.{file_bytes, file_extents, file_hops}
use Rattle.files.specs.Sizes.{length_in, number_in, sizes_by}
use Rattle.files.specs.Inner.Pieces.{rest_at}
use Rattle.files.specs.Inner.Wholes.{front_of}
use Rattle.files.specs.declared.icbs.FilePlace.{FilePlace}
use Rattle.files.specs.declared.sizes.FileSizes.{FileSizes}
use Rattle.files.specs.declared.sizes.Weighing.{Weighing}

-- where there is no chain to count
abbrev pub uncounted_by : Mount → Reply → Weighing
uncounted_by m reply = record { reply = reply; visits = 0; mount = m; kind = 0; behind = record { at = 0; left = 0; hops = most_continuations } }

-- the sizes, once what is left after the cursor is counted
abbrev pub sized_with : Weighing → Counted → FileSizes
sized_with w k = record { reply = w.reply; extents = w.visits + k.extents; hops = most_continuations - k.hops }

-- w weighs a file whose read comes to r, with this many extents and continuations
pub record Weighs (image : List ℕ) (r : Ran (List ℕ)) (extents hops : ℕ) (w : Weighing) : Type 0 where
  pub says : w.reply ≡ measured_of r
  pub rest : (k : Counted) → Counts image w.mount w.kind w.behind k → sized_with w k ≡ sizes_by (measured_of r) r.outcome extents hops
  pub room : w.visits + weight w.behind ≤ most_continuations * 2 ^ 32 + 2048

abbrev pub WeighsChain : List ℕ → Mount → FilePlace → ℕ → Weighing → Type 0
WeighsChain image m p n w =
    Weighs image (after n (rest_at image m p.kind (front_of p) p.information)) (length (left image m p.kind (front_of p))) (hops_at image m p.kind (front_of p)) w

abbrev pub WeighsFile : List ℕ → Mount → LongAd → Weighing → Type 0
WeighsFile image m icb w =
    Weighs image (ran (disc image) (file_bytes m icb)) (length_in (ran (disc image) (file_extents m icb)).outcome) (number_in (ran (disc image) (file_hops m icb)).outcome) w

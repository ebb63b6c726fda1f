-- Which refusals the runs of a file say by themselves: those of the read. Assumes nothing.
use mathlib.Core.Path.{◌≡◌}
use mathlib.Core.Bool.{true}
use mathlib.Core.List.{List, [], ◌∷◌}
use Prim.Native.Nat.{ℕ, ◌-◌, ◌*◌}
use lib.ListN.{length}
use lib.Dec.{eqb, leb}
use Rattle.files.specs.Files.File.{embedded, chained}
use Rattle.disc.specs.declared.places.Mount.{Mount}
use Rattle.disc.specs.Places.{placed, is_checked}
use Rattle.disc.specs.Ask.{Ask}
use Rattle.disc.specs.Images.{sectors_for}
use Rattle.disc.specs.declared.refusals.Refusal.{Refusal}
use Rattle.disc.specs.declared.refusals.Refusal.TheVariants.{Malformed, Unsupported, BadCrc}
use Rattle.disc.proofs.OnlyLaws.{done-only, refuse-only, pick-only, then-only, standing-only}
use Rattle.records.specs.declared.allocations.LongAd.{LongAd}
use Rattle.areas.specs.declared.AllocExtent.{AllocExtent}
use Rattle.files.specs.Files.{entry_mount, File}
use Rattle.layouts.specs.Runs.{running, extents_runs, runs_of, file_runs}
use Rattle.layouts.specs.declared.runs.Run.{Run}
use Rattle.files.proofs.RefusingLaws.{extent-only, file-only}
use Rattle.disc.specs.Refusing.{Refuses, Any}

-- ---- the runs of a file, for any P that has 2 and 4, and 10 where bodies are checked

module _ (P : Refusal → Type 0) (malformed : P Malformed) (unsupported : P Unsupported) where
  running-only : (want at n : ℕ) {more : Ask (List Run)} → Refuses P Any more → Refuses P Any (running want at n more)
  running-only want at n p = pick-only (leb want n) (done-only tt) (then-only p (λ rest q. done-only tt))

  extents-runs-only : (m : Mount) (es : List AllocExtent) (want : ℕ) → Refuses P Any (extents_runs m es want)
  unfolding extents_runs
  extents-runs-only m [] want = done-only tt
  extents-runs-only m (e ∷ es) want =
      pick-only (eqb e.extent_type 0)
      (standing-only P unsupported (placed m e.partition_ref e.block.0) (λ at.
      then-only (extent-only P malformed unsupported (sectors_for e.length) at e.length want) (λ b q.
      running-only want (2048 * at) (length b) (extents-runs-only m es (want - length b)))))
      (refuse-only unsupported)

  pub runs-only : (m : Mount) → (is_checked m ≡ true → P BadCrc) → (icb : LongAd) → Refuses P Any (file_runs m icb)
  unfolding file_runs
  runs-only m crc icb = then-only (file-only P malformed unsupported m crc icb) (λ f q. by f)
    where
      by : (f : File) → Refuses P Any (runs_of (entry_mount m icb) f)
      by (embedded x) = done-only tt
      by (chained x es) = extents-runs-only (entry_mount m icb) es x.entry.information_length

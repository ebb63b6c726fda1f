-- `listings::listing::measure` meets its contract: what is left to measure makes, with what was measured, the whole. Assumes nothing.
use Prim.Native.Nat.{◌+◌, ◌-◌}
use lib.ListN.{length}
use Rattle.listings.proofs.WalkLaws.{Measuring}
use Rattle.listings.proofs.listing.measure.Given as goal

abbrev pub invariant-loop-at : goal.invariant-loop-at
invariant-loop-at l = Measuring l.check l.raw l.n l.at

abbrev pub decreases-loop-at : goal.decreases-loop-at
decreases-loop-at l = length l.raw + 3 - l.at

-- `listings::finds::find` meets its contract: what was found, else what is found in the rest, is what is found in the whole. Assumes nothing.
use Prim.Native.Nat.{◌+◌, ◌-◌}
use lib.ListN.{length}
use Rattle.listings.proofs.WalkLaws.{Finding}
use Rattle.listings.proofs.finds.find.Given as goal

abbrev pub invariant-loop-at : goal.invariant-loop-at
invariant-loop-at l = Finding l.check l.matching l.component l.raw l.found l.at

abbrev pub decreases-loop-at : goal.decreases-loop-at
decreases-loop-at l = length l.raw + 3 - l.at

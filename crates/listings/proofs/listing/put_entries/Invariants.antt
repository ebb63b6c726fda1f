-- `listings::listing::put_entries` meets its contract: what is written has room, and if the bytes are as they were measured, what is left to
-- write makes, with what was written, the whole. Assumes nothing.
use Prim.Native.Nat.{◌+◌, ◌-◌}
use lib.ListN.{length}
use Rattle.listings.proofs.WalkLaws.{Filling}
use Rattle.listings.proofs.listing.put_entries.Given as goal

abbrev pub invariant-loop-at : goal.invariant-loop-at
invariant-loop-at l = Filling l.raw l.initial.out l.out l.n l.at

abbrev pub decreases-loop-at : goal.decreases-loop-at
decreases-loop-at l = length l.raw + 3 - l.at

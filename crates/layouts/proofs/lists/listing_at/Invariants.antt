-- `layouts::lists::listing_at` meets its contract: an area that is passed has no extent left. Assumes nothing.
use Rattle.chains.specs.Inner.Walks.{weight}
use Rattle.layouts.proofs.ListLaws.{Walking}
use Rattle.layouts.proofs.lists.listing_at.Given as goal

abbrev pub invariant-loop-next : goal.invariant-loop-next
invariant-loop-next l = Walking l.image l.mount l.kind l.initial.c l.c

abbrev pub decreases-loop-next : goal.decreases-loop-next
decreases-loop-next l = weight l.c

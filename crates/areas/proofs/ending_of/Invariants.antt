-- `areas::ending_of` meets its contract: what is left of the area ends as the whole does. Assumes nothing.
use Rattle.areas.proofs.AreaLaws.{Ahead}
use Rattle.areas.proofs.ending_of.Given as goal

abbrev pub invariant-loop-next : goal.invariant-loop-next
invariant-loop-next l = Ahead l.kind l.s l.initial.rest l.rest

abbrev pub decreases-loop-next : goal.decreases-loop-next
decreases-loop-next l = l.rest.left

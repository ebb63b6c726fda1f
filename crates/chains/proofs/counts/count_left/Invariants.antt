-- `chains::counts::count_left` meets its contract: what is counted and what is left are all there is. Assumes nothing.
use Rattle.chains.specs.Inner.Walks.{weight}
use Rattle.chains.proofs.CountLaws.{Counting}
use Rattle.chains.proofs.counts.count_left.Given as goal

abbrev pub invariant-loop-next : goal.invariant-loop-next
invariant-loop-next l = Counting l.image l.mount l.kind l.initial.c l.c l.n

abbrev pub decreases-loop-next : goal.decreases-loop-next
decreases-loop-next l = weight l.c

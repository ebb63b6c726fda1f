-- `layouts::runs::further_runs` meets its contract: what is passed gives no run. Assumes nothing.
use Rattle.chains.specs.Inner.Walks.{weight}
use Rattle.layouts.proofs.RunListLaws.{Walking}
use Rattle.layouts.proofs.runs.further_runs.Given as goal

abbrev pub invariant-loop-next : goal.invariant-loop-next
invariant-loop-next l = Walking l.image l.mount l.l.kind l.want l.initial.c l.c

abbrev pub decreases-loop-next : goal.decreases-loop-next
decreases-loop-next l = weight l.c

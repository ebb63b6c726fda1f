-- `layouts::runs::count_runs` meets its contract: what is counted and what the rest comes to are what the whole comes to. Assumes nothing.
use Rattle.chains.specs.Inner.Walks.{weight}
use Rattle.layouts.proofs.RunListLaws.{Counting}
use Rattle.layouts.proofs.runs.count_runs.Given as goal

abbrev pub invariant-loop-why : goal.invariant-loop-why
invariant-loop-why l = Counting l.image l.mount l.kind l.want l.initial.c l.c l.missing l.runs l.count

abbrev pub decreases-loop-why : goal.decreases-loop-why
decreases-loop-why l = weight l.c

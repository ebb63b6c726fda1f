-- `files::extents::measure` meets its contract: what is measured and what the rest comes to are what the whole comes to. Assumes nothing.
use Rattle.chains.specs.Inner.Walks.{weight}
use Rattle.files.proofs.MeasureLaws.{Measuring}
use Rattle.files.proofs.extents.measure.Given as goal

abbrev pub invariant-loop-why : goal.invariant-loop-why
invariant-loop-why l = Measuring l.image l.mount l.kind l.want l.initial.c l.c l.size l.count l.visits

abbrev pub decreases-loop-why : goal.decreases-loop-why
decreases-loop-why l = weight l.c

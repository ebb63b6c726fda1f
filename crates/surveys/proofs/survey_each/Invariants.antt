-- `surveys::survey_each` meets its contract: each image in turn. Assumes nothing.
use Rattle.surveys.proofs.ShelfLaws.{Placing}
use Rattle.surveys.proofs.survey_each.Given as goal

abbrev pub invariant-loop-i : goal.invariant-loop-i
invariant-loop-i l = Placing l.how l.most l.shelf l.lengths l.initial.figures l.figures l.initial.work l.work l.at l.i

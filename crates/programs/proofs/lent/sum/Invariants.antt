-- `programs::lent::sum` meets its contract. Assumes nothing.
use Rattle.programs.proofs.SumLaws.{Summing}
use Rattle.programs.proofs.lent.sum.Given as goal

abbrev pub invariant-loop-x : goal.invariant-loop-x
invariant-loop-x l = Summing l.b l.s l.x-index

-- `programs::lent::is_zero` meets its contract: the bytes before the index are 0. Assumes nothing.
use Rattle.programs.proofs.ZeroLaws.{Zeroed}
use Rattle.programs.proofs.lent.is_zero.Given as goal

abbrev pub invariant-loop-x : goal.invariant-loop-x
invariant-loop-x l = Zeroed l.b l.x-index

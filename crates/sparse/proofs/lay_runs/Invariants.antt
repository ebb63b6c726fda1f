-- `sparse::lay_runs` meets its contract: the laws of the loop. Assumes nothing.
use Rattle.sparse.proofs.RunLaws.{Laying}
use Rattle.sparse.proofs.lay_runs.Given as goal

abbrev pub invariant-loop : goal.invariant-loop
invariant-loop l = Laying l.packed l.initial.image l.image l.n l.i l.counter

-- `crcs::take_bytes` meets its contract: what is left gives what the whole gives. Assumes nothing.
use Rattle.crcs.proofs.LoopLaws.{Taken}
use Rattle.crcs.proofs.take_bytes.Given as goal

abbrev pub invariant-loop-b : goal.invariant-loop-b
invariant-loop-b l = Taken l.t l.from l.s l.c l.b-index

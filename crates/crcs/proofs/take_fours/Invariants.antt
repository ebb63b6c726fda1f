-- `crcs::take_fours` meets its contract: what is left gives what the whole gives. Assumes nothing.
use Rattle.crcs.proofs.LoopLaws.{Fours}
use Rattle.crcs.proofs.take_fours.Given as goal

abbrev pub invariant-loop-b0 : goal.invariant-loop-b0
invariant-loop-b0 l = Fours l.t l.further l.from l.s l.c l.b0-index

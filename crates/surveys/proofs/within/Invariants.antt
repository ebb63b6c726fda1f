-- `surveys::within` meets its contract: each length in turn is taken from the bytes. Assumes nothing.
use Rattle.surveys.proofs.ShelfLaws.{Fitting}
use Rattle.surveys.proofs.within.Given as goal

abbrev pub invariant-loop-n : goal.invariant-loop-n
invariant-loop-n l = Fitting l.lengths l.bytes l.left l.n-index

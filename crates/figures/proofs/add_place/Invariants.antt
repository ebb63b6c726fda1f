-- `figures::add_place` meets its contract: each pair in turn, and the longer chain. Assumes nothing.
use Rattle.figures.proofs.TotalLaws.{Adding}
use Rattle.figures.proofs.add_place.Given as goal

abbrev pub invariant-loop-k : goal.invariant-loop-k
invariant-loop-k l = Adding l.initial.places l.places l.to l.from l.k

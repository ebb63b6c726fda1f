-- `figures::add_places` meets its contract: each place in turn. Assumes nothing.
use Rattle.figures.proofs.TotalLaws.{Totaling}
use Rattle.figures.proofs.add_places.Given as goal

abbrev pub invariant-loop-i : goal.invariant-loop-i
invariant-loop-i l = Totaling l.initial.places l.places l.n l.i

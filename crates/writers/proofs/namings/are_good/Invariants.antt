-- `writers::namings::are_good` meets its contract: the names left say what all say. Assumes nothing.
use lib.ListN.{length}
use Rattle.writers.specs.Refusing.{names_in}
use Rattle.writers.proofs.NameLaws.{Judging}
use Rattle.writers.proofs.namings.are_good.Given as goal

abbrev pub invariant-loop-name : goal.invariant-loop-name
invariant-loop-name l = Judging l.names (names_in l.left.0.now)

abbrev pub decreases-loop-name : goal.decreases-loop-name
decreases-loop-name l = length (names_in l.left.0.now)

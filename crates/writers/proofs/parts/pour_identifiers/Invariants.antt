-- `writers::parts::pour_identifiers` meets its contract: what is left to pour is what the names left are. Assumes nothing.
use lib.ListN.{length}
use Rattle.writers.proofs.PartLaws.{Naming}
use Rattle.writers.proofs.parts.pour_identifiers.Given as goal

abbrev pub invariant-loop-i : goal.invariant-loop-i
invariant-loop-i l = Naming l.names l.initial.image l.at l.image l.place (length l.yielded)

-- `writers::namings::directory_size` meets its contract: the names left add what is left. Assumes nothing.
use lib.ListN.{length}
use Rattle.writers.proofs.PartLaws.{Sizing}
use Rattle.writers.proofs.namings.directory_size.Given as goal

abbrev pub invariant-loop-name : goal.invariant-loop-name
invariant-loop-name l = Sizing l.names l.size (length l.yielded)

-- `writers::parts::pour_entry_row` meets its contract: what is left to pour is what the files left are. Assumes nothing.
use Rattle.writers.proofs.PartLaws.{Entering}
use Rattle.writers.proofs.parts.pour_entry_row.Given as goal

abbrev pub invariant-loop-i : goal.invariant-loop-i
invariant-loop-i l = Entering l.lengths l.initial.image l.at l.image l.place l.block l.i

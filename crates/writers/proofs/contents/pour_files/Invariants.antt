-- `writers::contents::pour_files` meets its contract: what is left to pour is what the files left are. Assumes nothing.
use Rattle.writers.proofs.FileLaws.{Filing}
use Rattle.writers.proofs.contents.pour_files.Given as goal

abbrev pub invariant-loop-length : goal.invariant-loop-length
invariant-loop-length l = Filing l.lengths l.staging l.initial.image l.at l.image l.length-index l.rest l.place

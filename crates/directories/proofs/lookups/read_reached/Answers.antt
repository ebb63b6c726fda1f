-- `directories::lookups::read_reached` meets its contract: a read behind a walk, counts added. Assumes nothing.
use borrow.Author.Rules.{rules}
use Rattle.directories.proofs.LookupLaws.{path-refused, path-read}
use Rattle.directories.proofs.lookups.read_reached.Goals as goal

ruleset reads = (path-refused, path-read, rules)

pub walk-p-requires : goal.walk-p-requires
walk-p-requires c = search reads

pub refusal-requires : goal.refusal-requires
refusal-requires c = search reads

pub shape_of-work-then-p-ne-DONE : goal.shape_of-work-then-p-ne-DONE
shape_of-work-then-p-ne-DONE c = search reads

pub returns-then-p-ne-DONE : goal.returns-then-p-ne-DONE
returns-then-p-ne-DONE c = search reads

pub read_file-read-requires : goal.read_file-read-requires
read_file-read-requires c = search reads

pub add_counts-requires : goal.add_counts-requires
add_counts-requires c = search reads

pub shape_of-out : goal.shape_of-out
shape_of-out c = search reads

pub shape_of-work : goal.shape_of-work
shape_of-work c = search reads

pub returns : goal.returns
returns c = search reads

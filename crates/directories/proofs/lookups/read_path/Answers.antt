-- `directories::lookups::read_path` meets its contract: a read, and the work space cleared behind it. Assumes nothing.
use borrow.Author.Rules.{rules}
use Rattle.disc.proofs.MoveLaws.{zeros_of}
use Rattle.directories.proofs.lookups.read_path.Goals as goal

ruleset reads = (zeros_of, rules)

pub read_reached-reply-requires : goal.read_reached-reply-requires
read_reached-reply-requires c = search reads

pub clear-requires : goal.clear-requires
clear-requires c = search reads

pub shape_of-out : goal.shape_of-out
shape_of-out c = search reads

pub shape_of-work : goal.shape_of-work
shape_of-work c = search reads

pub returns : goal.returns
returns c = record { replied = search reads; work_after = search reads }

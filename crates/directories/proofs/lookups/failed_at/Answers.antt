-- `directories::lookups::failed_at` meets its contract: the end of the walk, and the place at which it is. Assumes nothing.
use borrow.Author.Rules.{rules}
use Rattle.disc.proofs.MoveLaws.{zeros_of}
use Rattle.directories.proofs.LookupLaws.{look_at, look-length}
use Rattle.directories.proofs.lookups.failed_at.Goals as goal

ruleset looks = (zeros_of, look_at, look-length, rules)

pub walk-p-requires : goal.walk-p-requires
walk-p-requires c = search looks

pub clear-requires : goal.clear-requires
clear-requires c = search looks

pub overflow_sub-result : goal.overflow_sub-result
overflow_sub-result c = search looks

pub shape_of-work : goal.shape_of-work
shape_of-work c = search looks

pub returns : goal.returns
returns c = record { value = search looks; at_after = search looks; work_after = search looks }

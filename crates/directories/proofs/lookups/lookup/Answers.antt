-- `directories::lookups::lookup` meets its contract: the end of the walk. Assumes nothing.
use borrow.Author.Rules.{rules}
use Rattle.disc.proofs.MoveLaws.{zeros_of}
use Rattle.directories.proofs.LookupLaws.{look-found}
use Rattle.directories.proofs.lookups.lookup.Goals as goal

ruleset looks = (zeros_of, look-found, rules)

pub walk-p-requires : goal.walk-p-requires
walk-p-requires c = search looks

pub clear-requires : goal.clear-requires
clear-requires c = search looks

pub shape_of-work : goal.shape_of-work
shape_of-work c = search looks

pub returns : goal.returns
returns c = record { value = search looks; work_after = search looks }

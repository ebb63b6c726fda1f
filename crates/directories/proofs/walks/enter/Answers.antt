-- `directories::walks::enter` meets its contract: the entry found in what was read, with the count of the read. Assumes nothing.
use borrow.Author.Rules.{rules}
use Rattle.directories.proofs.SpaceLaws.{reads-room}
use Rattle.directories.proofs.WalkLaws.{enter-refused, enter-found}
use Rattle.directories.proofs.LeftLaws.{reads-into}
use Rattle.directories.proofs.walks.enter.Goals as goal

ruleset enters = (enter-refused, reads-room, enter-found, reads-into, rules)

pub read_directory-read-requires : goal.read_directory-read-requires
read_directory-read-requires c = search enters

pub no_entry-requires : goal.no_entry-requires
no_entry-requires c = search enters

pub shape_of-work-then-read-ne-DONE : goal.shape_of-work-then-read-ne-DONE
shape_of-work-then-read-ne-DONE c = search enters

pub returns-then-read-ne-DONE : goal.returns-then-read-ne-DONE
returns-then-read-ne-DONE c = search enters

pub is_checked-check-requires : goal.is_checked-check-requires
is_checked-check-requires c = search enters

pub slice_bounds-find-count : goal.slice_bounds-find-count
slice_bounds-find-count c = search enters

pub slice_bounds-find-start : goal.slice_bounds-find-start
slice_bounds-find-start c = search enters

pub slice_bounds-find-end : goal.slice_bounds-find-end
slice_bounds-find-end c = search enters

pub find-entry-requires : goal.find-entry-requires
find-entry-requires c = search enters

pub shape_of-work : goal.shape_of-work
shape_of-work c = search enters

pub returns : goal.returns
returns c = search enters

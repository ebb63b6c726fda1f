-- `directories::listed::list_read` meets its contract: the listing of what was read, with the count of the read. Assumes nothing.
use borrow.Author.Rules.{rules}
use Rattle.directories.proofs.SpaceLaws.{reads-room}
use Rattle.directories.proofs.ListLaws.{list-refused, list-listed}
use Rattle.directories.proofs.listed.list_read.Goals as goal

ruleset lists = (list-refused, reads-room, list-listed, rules)

pub read_directory-read-requires : goal.read_directory-read-requires
read_directory-read-requires c = search lists

pub shape_of-work-then-read-ne-DONE : goal.shape_of-work-then-read-ne-DONE
shape_of-work-then-read-ne-DONE c = search lists

pub returns-then-read-ne-DONE : goal.returns-then-read-ne-DONE
returns-then-read-ne-DONE c = search lists

pub is_checked-check-requires : goal.is_checked-check-requires
is_checked-check-requires c = search lists

pub slice_bounds-list-count : goal.slice_bounds-list-count
slice_bounds-list-count c = search lists

pub slice_bounds-list-start : goal.slice_bounds-list-start
slice_bounds-list-start c = search lists

pub slice_bounds-list-end : goal.slice_bounds-list-end
slice_bounds-list-end c = search lists

pub list-listed-requires : goal.list-listed-requires
list-listed-requires c = search lists

pub shape_of-out : goal.shape_of-out
shape_of-out c = search lists

pub shape_of-work : goal.shape_of-work
shape_of-work c = search lists

pub returns : goal.returns
returns c = search lists

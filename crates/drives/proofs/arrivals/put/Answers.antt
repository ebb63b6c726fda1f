use borrow.Author.Rules.{rules}
use Rattle.drives.proofs.ArrivalLaws.{put-none, put_some}
use Rattle.drives.proofs.arrivals.put.Goals as goal

ruleset puts = (put-none, put_some, rules)

pub returns-then-out-filled : goal.returns-then-out-filled
returns-then-out-filled c = search puts

pub overflow_sub-room : goal.overflow_sub-room
overflow_sub-room c = search puts

pub slice_bounds-copy-count : goal.slice_bounds-copy-count
slice_bounds-copy-count c = search puts

pub slice_bounds-copy-start : goal.slice_bounds-copy-start
slice_bounds-copy-start c = search puts

pub slice_bounds-copy-end : goal.slice_bounds-copy-end
slice_bounds-copy-end c = search puts

pub copy-requires : goal.copy-requires
copy-requires c = search puts

pub shape_of-out : goal.shape_of-out
shape_of-out c = search puts

pub returns : goal.returns
returns c = search puts

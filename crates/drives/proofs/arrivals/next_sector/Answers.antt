use borrow.Author.Rules.{rules}
use Rattle.drives.proofs.ArrivalLaws.{next-done, next-extent, next_more}
use Rattle.drives.proofs.arrivals.next_sector.Goals as goal

ruleset nexts = (next-done, next-extent, next_more, rules)

pub over-requires : goal.over-requires
over-requires c = search nexts

pub returns-then-r-here : goal.returns-then-r-here
returns-then-r-here c = search nexts

pub find_extent-requires : goal.find_extent-requires
find_extent-requires c = search nexts

pub returns-then-r-eq0 : goal.returns-then-r-eq0
returns-then-r-eq0 c = search nexts

pub overflow_add-y : goal.overflow_add-y
overflow_add-y c = search nexts

pub overflow_sub-y : goal.overflow_sub-y
overflow_sub-y c = search nexts

pub overflow_cast-y : goal.overflow_cast-y
overflow_cast-y c = search nexts

pub overflow_sub-y-2 : goal.overflow_sub-y-2
overflow_sub-y-2 c = search nexts

pub returns : goal.returns
returns c = search nexts

-- `layouts::lists::list_whole` meets its contract: more extents than slots, or a listing of them all. Assumes nothing.
use borrow.Author.Rules.{rules}
use Rattle.layouts.proofs.ListLaws.{list_full, list_done}
use Rattle.layouts.proofs.lists.list_whole.Goals as goal

ruleset lists = (list_full, list_done, rules)

pub count_left-m-requires : goal.count_left-m-requires
count_left-m-requires c = search lists

pub number-requires : goal.number-requires
number-requires c = search lists

pub refusal-requires : goal.refusal-requires
refusal-requires c = search lists

pub empty-requires : goal.empty-requires
empty-requires c = search lists

pub returns-then-room-m : goal.returns-then-room-m
returns-then-room-m c = search lists

pub listing_at-requires : goal.listing_at-requires
listing_at-requires c = search lists

pub returns : goal.returns
returns c = let good = c.well_formed.1.1 in list_done _ _ _ _ _ (search rules) c.count_left-m.ensures _ c.requires (search rules) (search rules) c.listing_at.ensures

-- `cue_stacks::stacks::read_item` meets its contract: the item stands behind those before it, and the rest goes on. Assumes nothing.
use borrow.Author.Rules.{rules}
use Rattle.cue_stacks.proofs.TurnLaws.{end-within, put-fits, fills, behind-fits, turn}
use Rattle.cue_stacks.proofs.stacks.read_item.Goals as goal

ruleset turns = (end-within, rules)

pub min-rows-requires : goal.min-rows-requires
min-rows-requires c = search turns

pub item_end-end-requires : goal.item_end-end-requires
item_end-end-requires c = search turns

pub slice_bounds-read_reached-count : goal.slice_bounds-read_reached-count
slice_bounds-read_reached-count c = search turns

pub slice_bounds-read_reached-start : goal.slice_bounds-read_reached-start
slice_bounds-read_reached-start c = search turns

pub slice_bounds-read_reached-end : goal.slice_bounds-read_reached-end
slice_bounds-read_reached-end c = search turns

pub slice_bounds-read_reached-count-2 : goal.slice_bounds-read_reached-count-2
slice_bounds-read_reached-count-2 c = search turns

pub slice_bounds-read_reached-start-2 : goal.slice_bounds-read_reached-start-2
slice_bounds-read_reached-start-2 c = search turns

pub slice_bounds-read_reached-end-2 : goal.slice_bounds-read_reached-end-2
slice_bounds-read_reached-end-2 c = search turns

pub read_reached-reply-requires : goal.read_reached-reply-requires
read_reached-reply-requires c = search turns

pub put_reply-requires : goal.put_reply-requires
put_reply-requires c = put-fits _ _ c.requires.0 c.requires.1 c.read_reached-reply.ensures.replied

pub place_behind-requires : goal.place_behind-requires
place_behind-requires c = let lent = c.well_formed.1.1.1.1.1.1 in behind-fits _ _ c.requires.0 c.requires.1 _ (fills c.args.out.now c.args.p.filled c.requires.1.room c.read_reached-reply.ensures.replied) (search rules) (search rules)

pub shape_of-out : goal.shape_of-out
shape_of-out c = search turns

pub shape_of-lengths : goal.shape_of-lengths
shape_of-lengths c = search turns

pub shape_of-answers : goal.shape_of-answers
shape_of-answers c = search turns

pub shape_of-work : goal.shape_of-work
shape_of-work c = search turns

pub returns : goal.returns
returns c = turn _ _ _ _ _ c.requires.0 c.requires.1 c.item_end-end.ensures c.read_reached-reply.ensures.replied c.put_reply.ensures.lengths_after c.put_reply.ensures.answers_after c.min-rows.ensures c.place_behind.ensures

use borrow.Author.Rules.{rules}
use Rattle.drives.proofs.ArrivalLaws.{extent-fits, extent-state, extent-full, extent-arrives}
use Rattle.drives.proofs.arrivals.take_extent.Goals as goal

ruleset extents = (extent-fits, extent-state, extent-full, extent-arrives, rules)

pub overflow_cast-r : goal.overflow_cast-r
overflow_cast-r c = search extents

pub slice_bounds-put-count : goal.slice_bounds-put-count
slice_bounds-put-count c = search extents

pub slice_bounds-put-start : goal.slice_bounds-put-start
slice_bounds-put-start c = search extents

pub slice_bounds-put-end : goal.slice_bounds-put-end
slice_bounds-put-end c = search extents

pub put-k-requires : goal.put-k-requires
put-k-requires c = search extents

pub filled_by-x-requires : goal.filled_by-x-requires
filled_by-x-requires c = (c.put-k.ensures.value.1, (let u = c.put-k.ensures.value.0 in let q = c.min-n.ensures in search extents))

pub over-requires : goal.over-requires
over-requires c = search extents

pub shape_of-out-then-k-n : goal.shape_of-out-then-k-n
shape_of-out-then-k-n c = search extents

pub returns-then-k-n : goal.returns-then-k-n
returns-then-k-n c = extent-full _ _ _ _ c.requires.0 c.min-here.ensures c.min-n.ensures c.put-k.ensures.value.0 _ _ c.filled_by-x.ensures _ c.put-k.ensures.out_after c.if-k-n.true c.over.ensures

pub next_sector-requires : goal.next_sector-requires
next_sector-requires c = (c.requires.1, c.min-here.ensures, (let l = c.requires.0 in let e = c.min-here.ensures in let q = c.min-n.ensures in let u = c.put-k.ensures.value.0 in let h = c.if-k-n.false in let f = c.filled_by-x.ensures in search extents))

pub shape_of-out : goal.shape_of-out
shape_of-out c = search extents

pub returns : goal.returns
returns c = extent-arrives _ _ _ _ c.requires.0 c.min-here.ensures c.min-n.ensures c.put-k.ensures.value.0 _ _ c.filled_by-x.ensures _ c.put-k.ensures.out_after c.if-k-n.false c.next_sector.ensures

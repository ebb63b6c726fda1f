use borrow.Author.Rules.{rules}
use Rattle.drives.proofs.BodyLaws.{part-lands, part_held, scans-carry, part-ready}
use Rattle.drives.proofs.bodies.take_part.Goals as goal

ruleset parts = (part-lands, part_held, scans-carry, rules)

ruleset helds = (part_held)

pub overflow_cast-body : goal.overflow_cast-body
overflow_cast-body c = search parts

pub slice_bounds-take_bytes-count : goal.slice_bounds-take_bytes-count
slice_bounds-take_bytes-count c = search parts

pub slice_bounds-take_bytes-start : goal.slice_bounds-take_bytes-start
slice_bounds-take_bytes-start c = search parts

pub slice_bounds-take_bytes-end : goal.slice_bounds-take_bytes-end
slice_bounds-take_bytes-end c = search parts

pub take_bytes-listed-requires : goal.take_bytes-listed-requires
take_bytes-listed-requires c = search parts

pub body_behind-behind-requires : goal.body_behind-behind-requires
body_behind-behind-requires c = search parts

pub with_parts-x-requires : goal.with_parts-x-requires
with_parts-x-requires c = search parts

pub further-requires : goal.further-requires
further-requires c = part-ready _ _ _ _ c.with_parts-x.ensures c.requires.1 (scans-carry _ _ _ _ _ _ c.take_bytes-listed.ensures) (let e = c.body_behind-behind.ensures in let h = c.requires.3 in search helds)

pub shape_of-row : goal.shape_of-row
shape_of-row c = search parts

pub returns : goal.returns
returns c = part-lands _ _ _ _ _ _ c.requires.0 c.body_behind-behind.ensures c.min-end.ensures c.take_bytes-listed.ensures _ _ c.with_parts-x.ensures.is c.further.ensures

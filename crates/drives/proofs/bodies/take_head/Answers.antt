use borrow.Author.Rules.{rules}
use Rattle.drives.proofs.BodyLaws.{scans-carry, part-ready}
use Rattle.drives.proofs.HeadLaws.{head-lands, head-held, head-begins}
use Rattle.drives.proofs.bodies.take_head.Goals as goal

ruleset heads = (head-begins, scans-carry, rules)

ruleset helds = (head-held)

pub parse-requires : goal.parse-requires
parse-requires c = search heads

pub body_in-body-requires : goal.body_in-body-requires
body_in-body-requires c = search heads

pub le32-requires : goal.le32-requires
le32-requires c = search heads

pub front_of-n-requires : goal.front_of-n-requires
front_of-n-requires c = search heads

pub overflow_add-end : goal.overflow_add-end
overflow_add-end c = search heads

pub begin-requires : goal.begin-requires
begin-requires c = search heads

pub slice_bounds-take_bytes-count : goal.slice_bounds-take_bytes-count
slice_bounds-take_bytes-count c = search heads

pub slice_bounds-take_bytes-start : goal.slice_bounds-take_bytes-start
slice_bounds-take_bytes-start c = search heads

pub slice_bounds-take_bytes-end : goal.slice_bounds-take_bytes-end
slice_bounds-take_bytes-end c = search heads

pub take_bytes-listed-requires : goal.take_bytes-listed-requires
take_bytes-listed-requires c = search heads

pub with_parts-x-requires : goal.with_parts-x-requires
with_parts-x-requires c = search heads

pub further-requires : goal.further-requires
further-requires c = part-ready _ _ _ _ c.with_parts-x.ensures c.requires.1 (scans-carry _ _ _ _ _ _ c.take_bytes-listed.ensures) (let e = c.body_in-body.ensures in let h = c.requires.2 in search helds)

pub shape_of-row : goal.shape_of-row
shape_of-row c = search heads

pub returns : goal.returns
returns c = head-lands _ _ _ _ _ c.requires.0 c.parse.ensures c.body_in-body.ensures c.le32.ensures c.front_of-n.ensures c.begin.ensures c.take_bytes-listed.ensures _ _ c.with_parts-x.ensures.is c.further.ensures

use borrow.Author.Rules.{rules}
use Rattle.drives.proofs.BodyLaws.{part_body}
use Rattle.drives.proofs.bodies.body_behind.Goals as goal

ruleset parts = (part_body, rules)

pub overflow_cast-b : goal.overflow_cast-b
overflow_cast-b c = search parts

pub overflow_cast-b-2 : goal.overflow_cast-b-2
overflow_cast-b-2 c = search parts

pub slice_bounds-crc_behind-count : goal.slice_bounds-crc_behind-count
slice_bounds-crc_behind-count c = search parts

pub slice_bounds-crc_behind-start : goal.slice_bounds-crc_behind-start
slice_bounds-crc_behind-start c = search parts

pub slice_bounds-crc_behind-end : goal.slice_bounds-crc_behind-end
slice_bounds-crc_behind-end c = search parts

pub crc_behind-requires : goal.crc_behind-requires
crc_behind-requires c = search parts

pub overflow_cast-result : goal.overflow_cast-result
overflow_cast-result c = search parts

pub overflow_sub-result : goal.overflow_sub-result
overflow_sub-result c = search parts

pub overflow_cast-result-2 : goal.overflow_cast-result-2
overflow_cast-result-2 c = search parts

pub overflow_sub-result-2 : goal.overflow_sub-result-2
overflow_sub-result-2 c = search parts

pub returns : goal.returns
returns c = search parts

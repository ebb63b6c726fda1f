use borrow.Author.Rules.{rules}
use Rattle.drives.proofs.HeadLaws.{head-body}
use Rattle.drives.proofs.bodies.body_of.Goals as goal

ruleset heads = (head-body, rules)

pub le32-area-requires : goal.le32-area-requires
le32-area-requires c = search heads

pub overflow_cast-length : goal.overflow_cast-length
overflow_cast-length c = search heads

pub overflow_add-end : goal.overflow_add-end
overflow_add-end c = search heads

pub is_header-headed-requires : goal.is_header-headed-requires
is_header-headed-requires c = search heads

pub slice_bounds-crc_behind-count : goal.slice_bounds-crc_behind-count
slice_bounds-crc_behind-count c = search heads

pub slice_bounds-crc_behind-start : goal.slice_bounds-crc_behind-start
slice_bounds-crc_behind-start c = search heads

pub slice_bounds-crc_behind-end : goal.slice_bounds-crc_behind-end
slice_bounds-crc_behind-end c = search heads

pub crc_behind-requires : goal.crc_behind-requires
crc_behind-requires c = search heads

pub overflow_sub-result : goal.overflow_sub-result
overflow_sub-result c = search heads

pub overflow_cast-result : goal.overflow_cast-result
overflow_cast-result c = search heads

pub left_of-requires : goal.left_of-requires
left_of-requires c = search heads

pub returns : goal.returns
returns c = search heads

-- `layouts::parts::file_part` meets its contract: the part of the image at the place. Assumes nothing.
use borrow.Author.Rules.{rules}
use Rattle.layouts.proofs.PartLaws.{file-part-gives, file-part-room, file-part-fits}
use Rattle.layouts.proofs.parts.file_part.Goals as goal

ruleset parts = (file-part-gives, file-part-room, file-part-fits, rules)

pub part_at-reply-requires : goal.part_at-reply-requires
part_at-reply-requires c = search parts

pub overflow_add-end : goal.overflow_add-end
overflow_add-end c = search parts

pub slice_bounds-result-count : goal.slice_bounds-result-count
slice_bounds-result-count c = search parts

pub slice_bounds-result-start : goal.slice_bounds-result-start
slice_bounds-result-start c = search parts

pub slice_bounds-result-end : goal.slice_bounds-result-end
slice_bounds-result-end c = search parts

pub returns : goal.returns
returns c = search parts

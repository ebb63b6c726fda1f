use borrow.Author.Rules.{rules}
use Rattle.drives.proofs.EntryLaws.{file-embedded, file-listed}
use Rattle.drives.proofs.located.take_file.Goals as goal

ruleset files = (file-embedded, file-listed, rules)

pub overflow_add-end : goal.overflow_add-end
overflow_add-end c = search files

pub slice_bounds-take_embedded-count : goal.slice_bounds-take_embedded-count
slice_bounds-take_embedded-count c = search files

pub slice_bounds-take_embedded-start : goal.slice_bounds-take_embedded-start
slice_bounds-take_embedded-start c = search files

pub slice_bounds-take_embedded-end : goal.slice_bounds-take_embedded-end
slice_bounds-take_embedded-end c = search files

pub take_embedded-requires : goal.take_embedded-requires
take_embedded-requires c = search files

pub shape_of-out-then-e-eq-EMBEDDED : goal.shape_of-out-then-e-eq-EMBEDDED
shape_of-out-then-e-eq-EMBEDDED c = search files

pub returns-then-e-eq-EMBEDDED : goal.returns-then-e-eq-EMBEDDED
returns-then-e-eq-EMBEDDED c = search files

pub overflow_add-end-2 : goal.overflow_add-end-2
overflow_add-end-2 c = search files

pub slice_bounds-take_area-count : goal.slice_bounds-take_area-count
slice_bounds-take_area-count c = search files

pub slice_bounds-take_area-start : goal.slice_bounds-take_area-start
slice_bounds-take_area-start c = search files

pub slice_bounds-take_area-end : goal.slice_bounds-take_area-end
slice_bounds-take_area-end c = search files

pub take_area-requires : goal.take_area-requires
take_area-requires c = search files

pub shape_of-row : goal.shape_of-row
shape_of-row c = search files

pub returns : goal.returns
returns c = search files

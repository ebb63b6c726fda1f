-- `directories::lookups::failed` meets its contract: the part of the path at the place. Assumes nothing.
use borrow.Author.Rules.{rules}
use Rattle.directories.proofs.LookupLaws.{failed-answer, failed-count, failed-part, failed-room, failed-fits}
use Rattle.directories.proofs.lookups.failed.Goals as goal

ruleset looks = (failed-answer, failed-count, failed-part, failed-room, failed-fits, rules)

pub failed_at-reply-requires : goal.failed_at-reply-requires
failed_at-reply-requires c = search looks

pub overflow_add-end : goal.overflow_add-end
overflow_add-end c = search looks

pub slice_bounds-result-count : goal.slice_bounds-result-count
slice_bounds-result-count c = search looks

pub slice_bounds-result-start : goal.slice_bounds-result-start
slice_bounds-result-start c = search looks

pub slice_bounds-result-end : goal.slice_bounds-result-end
slice_bounds-result-end c = search looks

pub shape_of-work : goal.shape_of-work
shape_of-work c = search looks

pub returns : goal.returns
returns c = record { result_value = search looks; answer_after = search looks; count_after = search looks; work_after = search looks }

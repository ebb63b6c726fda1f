-- `directories::walks::step` meets its contract: each return leads to the end that the place led to. Assumes nothing.
use borrow.Author.Rules.{rules}
use borrow.Author.Tests.{not-true, not-false}
use Rattle.listings.proofs.PathLaws.{component-within}
use Rattle.directories.proofs.WalkLaws.{step-arrives, step-dead, step-enters}
use Rattle.directories.proofs.LeftLaws.{leaves-arrived, leaves-dead, leaves-entered}
use Rattle.directories.proofs.walks.step.Goals as goal

ruleset steps = (component-within, step-arrives, step-dead, leaves-arrived, leaves-dead, not-true, not-false, rules)

pub component_from-from-requires : goal.component_from-from-requires
component_from-from-requires c = search steps

pub stopped-requires : goal.stopped-requires
stopped-requires c = search steps

pub returns-then-path-from : goal.returns-then-path-from
returns-then-path-from c = search steps

pub component_end-end-requires : goal.component_end-end-requires
component_end-end-requires c = search steps

pub lost-requires : goal.lost-requires
lost-requires c = search steps

pub returns-then-not-p : goal.returns-then-not-p
returns-then-not-p c = search steps

pub slice_bounds-enter-count : goal.slice_bounds-enter-count
slice_bounds-enter-count c = search steps

pub slice_bounds-enter-start : goal.slice_bounds-enter-start
slice_bounds-enter-start c = search steps

pub slice_bounds-enter-end : goal.slice_bounds-enter-end
slice_bounds-enter-end c = search steps

pub enter-e-requires : goal.enter-e-requires
enter-e-requires c = search steps

pub add_counts-requires : goal.add_counts-requires
add_counts-requires c = search steps

pub beyond-requires : goal.beyond-requires
beyond-requires c = search steps

pub shape_of-work : goal.shape_of-work
shape_of-work c = search steps

pub returns : goal.returns
returns c = let from = c.component_from-from.ensures in let read = c.enter-e.ensures in let inside = not-false _ c.if-not-p.false in record { steps = step-enters _ _ _ _ _ c.requires from c.if-path-from.false c.component_end-end.ensures inside read.value c.add_counts.ensures c.beyond.ensures; work_after = leaves-entered _ _ _ _ c.requires from _ c.if-path-from.false c.component_end-end.ensures inside read.value _ c.beyond.ensures read.work_after }

use borrow.Author.Rules.{rules}
use Rattle.drives.proofs.StepLaws.{taken-entry, taken-header, taken-part, taken-extent, want-low, want-header, want-carried, want-area}
use Rattle.drives.proofs.readings.Reading.taken.Goals as goal

ruleset takes = (taken-entry, taken-header, taken-part, taken-extent, want-low, want-header, want-carried, want-area, rules)

pub take_entry-requires : goal.take_entry-requires
take_entry-requires c = search takes

pub shape_of-row-then-self-eq-AT_ENTRY : goal.shape_of-row-then-self-eq-AT_ENTRY
shape_of-row-then-self-eq-AT_ENTRY c = search takes

pub shape_of-out-then-self-eq-AT_ENTRY : goal.shape_of-out-then-self-eq-AT_ENTRY
shape_of-out-then-self-eq-AT_ENTRY c = search takes

pub returns-then-self-eq-AT_ENTRY : goal.returns-then-self-eq-AT_ENTRY
returns-then-self-eq-AT_ENTRY c = search takes

pub take_head-requires : goal.take_head-requires
take_head-requires c = search takes

pub shape_of-row-then-self-eq-AT_HEADER : goal.shape_of-row-then-self-eq-AT_HEADER
shape_of-row-then-self-eq-AT_HEADER c = search takes

pub returns-then-self-eq-AT_HEADER : goal.returns-then-self-eq-AT_HEADER
returns-then-self-eq-AT_HEADER c = search takes

pub take_part-requires : goal.take_part-requires
take_part-requires c = search takes

pub shape_of-row-then-self-eq-IN_CONTINUATION : goal.shape_of-row-then-self-eq-IN_CONTINUATION
shape_of-row-then-self-eq-IN_CONTINUATION c = search takes

pub returns-then-self-eq-IN_CONTINUATION : goal.returns-then-self-eq-IN_CONTINUATION
returns-then-self-eq-IN_CONTINUATION c = search takes

pub take_extent-requires : goal.take_extent-requires
take_extent-requires c = search takes

pub shape_of-row : goal.shape_of-row
shape_of-row c = search takes

pub shape_of-out : goal.shape_of-out
shape_of-out c = search takes

pub returns : goal.returns
returns c = search takes

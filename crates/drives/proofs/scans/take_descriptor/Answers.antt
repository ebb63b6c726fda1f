use borrow.Author.Rules.{rules}
use Rattle.drives.proofs.ScanLaws.{whole-extent, whole-continuation, whole-end, whole-refused}
use Rattle.drives.proofs.scans.take_descriptor.Goals as goal

ruleset wholes = (whole-extent, whole-continuation, whole-end, whole-refused, rules)

pub size_of-requires : goal.size_of-requires
size_of-requires c = search wholes

pub slice_bounds-next_ad-end : goal.slice_bounds-next_ad-end
slice_bounds-next_ad-end c = search wholes

pub next_ad-requires : goal.next_ad-requires
next_ad-requires c = search wholes

pub enum_known-e : goal.enum_known-e
enum_known-e c = search wholes

pub store-requires : goal.store-requires
store-requires c = search wholes

pub enum_known-a : goal.enum_known-a
enum_known-a c = search wholes

pub continues-requires : goal.continues-requires
continues-requires c = search wholes

pub enum_told-1 : goal.enum_told-1
enum_told-1 c = search wholes

pub close-requires : goal.close-requires
close-requires c = search wholes

pub enum_told-in-Refused : goal.enum_told-in-Refused
enum_told-in-Refused c = search wholes

pub close-requires-in-Refused : goal.close-requires-in-Refused
close-requires-in-Refused c = search wholes

pub shape_of-row : goal.shape_of-row
shape_of-row c = search wholes

pub returns-in-Extent : goal.returns-in-Extent
returns-in-Extent c = search wholes

pub returns-in-Continuation : goal.returns-in-Continuation
returns-in-Continuation c = search wholes

pub returns-in-End : goal.returns-in-End
returns-in-End c = search wholes

pub returns-in-Refused : goal.returns-in-Refused
returns-in-Refused c = search wholes

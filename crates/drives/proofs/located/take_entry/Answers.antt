use borrow.Author.Rules.{rules}
use Rattle.drives.proofs.EntryLaws.{entry-inside, entry-refused, entry-arrives}
use Rattle.drives.proofs.located.take_entry.Goals as goal

ruleset entries = (entry-inside, entry-refused, entry-arrives, rules)

pub is_checked-requires : goal.is_checked-requires
is_checked-requires c = search entries

pub parse-requires : goal.parse-requires
parse-requires c = search entries

pub enum_known-why : goal.enum_known-why
enum_known-why c = search entries

pub number-requires : goal.number-requires
number-requires c = search entries

pub over-requires : goal.over-requires
over-requires c = search entries

pub enum_known-e : goal.enum_known-e
enum_known-e c = search entries

pub take_file-requires : goal.take_file-requires
take_file-requires c = search entries

pub returns-in-Err : goal.returns-in-Err
returns-in-Err c = search entries

pub shape_of-row : goal.shape_of-row
shape_of-row c = search entries

pub shape_of-out : goal.shape_of-out
shape_of-out c = search entries

pub returns-in-Ok : goal.returns-in-Ok
returns-in-Ok c = search entries

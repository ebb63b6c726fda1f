-- `entries::file_entries::entry_of` meets its contract: each field is what the call that read it ensures. Assumes nothing.
use borrow.Author.Rules.{rules}
use Rattle.entries.proofs.FieldLaws.{entry-fields}
use Rattle.entries.proofs.file_entries.entry_of.Goals as goal

ruleset fields = (entry-fields, rules)

pub returns : goal.returns
returns c = search fields

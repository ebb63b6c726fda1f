-- `entries::file_entries::extended_tail` meets its contract: each field is what the call that read it ensures. Assumes nothing.
use borrow.Author.Rules.{rules}
use Rattle.entries.proofs.EntryLaws.{extended-is}
use Rattle.entries.proofs.file_entries.extended_tail.Goals as goal

ruleset tails = (extended-is, rules)

pub returns : goal.returns
returns c = search tails

-- `entries::file_entries::plain_tail` meets its contract: each field is what the call that read it ensures. Assumes nothing.
use borrow.Author.Rules.{rules}
use Rattle.entries.proofs.EntryLaws.{plain-is}
use Rattle.entries.proofs.file_entries.plain_tail.Goals as goal

ruleset tails = (plain-is, rules)

pub returns : goal.returns
returns c = search tails

-- `entries::file_entries::entry_behind` meets its contract: each return is a case of `entry_behind`. Assumes nothing.
use borrow.Author.Rules.{rules}
use Rattle.entries.proofs.EntryLaws.{plain-prefix, extended-prefix, behind-short, behind-extended, behind-plain}
use Rattle.entries.proofs.file_entries.entry_behind.Goals as goal

ruleset behinds = (plain-prefix, extended-prefix, behind-short, behind-extended, behind-plain, rules)

pub returns-then-s-lt-EXTENDED_SIZE : goal.returns-then-s-lt-EXTENDED_SIZE
returns-then-s-lt-EXTENDED_SIZE c = search behinds

pub entry_with-requires : goal.entry_with-requires
entry_with-requires c = search behinds

pub returns-then-t-eq-EXTENDED_ID : goal.returns-then-t-eq-EXTENDED_ID
returns-then-t-eq-EXTENDED_ID c = search behinds

pub entry_with-requires-2 : goal.entry_with-requires-2
entry_with-requires-2 c = search behinds

pub returns : goal.returns
returns c = search behinds

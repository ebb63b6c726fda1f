-- `entries::file_entries::entry_with` meets its contract: each return is a case of `entry_with`. Assumes nothing.
use borrow.Author.Rules.{rules}
use Rattle.entries.proofs.EntryLaws.{with-kind, with-over, with_read}
use Rattle.entries.proofs.file_entries.entry_with.Goals as goal

ruleset withs = (with-kind, with-over, with_read, rules)

pub returns-then-icb-gt3 : goal.returns-then-icb-gt3
returns-then-icb-gt3 c = search withs

pub returns-then-s-area_start : goal.returns-then-s-area_start
returns-then-s-area_start c = search withs

pub returns : goal.returns
returns c = search withs

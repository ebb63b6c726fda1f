-- `listings::directory_entries::answers_to` meets its contract: the part that is compared is the recorded name. Assumes nothing.
use borrow.Author.Rules.{rules}
use Rattle.listings.proofs.EntryLaws.{skipped-unnamed, part-named}
use Rattle.listings.proofs.directory_entries.answers_to.Goals as goal

ruleset names = (skipped-unnamed, part-named, rules)

pub returns-then-is_skipped : goal.returns-then-is_skipped
returns-then-is_skipped c = search names

pub returns : goal.returns
returns c = search names

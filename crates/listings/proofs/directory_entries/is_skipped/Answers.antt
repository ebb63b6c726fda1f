-- `listings::directory_entries::is_skipped` meets its contract: either of two bits. Assumes nothing.
use borrow.Author.Rules.{rules}
use Rattle.listings.proofs.EntryLaws.{skipped-is}
use Rattle.listings.proofs.directory_entries.is_skipped.Goals as goal

ruleset skips = (skipped-is, rules)

pub returns : goal.returns
returns c = search skips

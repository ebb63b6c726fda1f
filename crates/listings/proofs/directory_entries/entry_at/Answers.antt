-- `listings::directory_entries::entry_at` meets its contract: what reading an identifier says, said of the entries from there on. Assumes nothing.
use borrow.Author.Rules.{rules}
use Rattle.listings.proofs.WalkLaws.{comes}
use Rattle.listings.proofs.directory_entries.entry_at.Goals as goal

ruleset reads = (comes, rules)

pub returns : goal.returns
returns c = search reads

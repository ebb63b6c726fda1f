-- `listings::directory_entries::look` meets its contract: a name that ends past the bytes, or what each field says. Assumes nothing.
use borrow.Author.Rules.{rules}
use Rattle.listings.proofs.EntryLaws.{look-past, look-whole}
use Rattle.listings.proofs.directory_entries.look.Goals as goal

ruleset looks = (look-past, look-whole, rules)

pub returns-then-s-end : goal.returns-then-s-end
returns-then-s-end c = search looks

pub returns : goal.returns
returns c = search looks

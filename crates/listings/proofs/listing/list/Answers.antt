-- `listings::listing::list` meets its contract: by the two refusals in their order, and then the records. Assumes nothing.
use borrow.Author.Rules.{rules}
use Rattle.listings.proofs.WalkLaws.{list-bad, list_full, list_done}
use Rattle.listings.proofs.listing.list.Goals as goal

ruleset lists = (list-bad, list_full, list_done, rules)

pub returns-in-Err : goal.returns-in-Err
returns-in-Err c = search lists

pub returns-then-out-size : goal.returns-then-out-size
returns-then-out-size c = search lists

pub returns-else-out-size : goal.returns-else-out-size
returns-else-out-size c = search lists

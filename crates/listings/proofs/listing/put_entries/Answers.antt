-- `listings::listing::put_entries` meets its contract: what is written has room, and if the bytes are as they were measured, what is left to
-- write makes, with what was written, the whole. Assumes nothing.
use borrow.Author.Rules.{rules}
use Rattle.listings.proofs.WalkLaws.{fill-starts, fill-fits, on_fits, on-less, fill-next, fill-ends}
use Rattle.listings.proofs.listing.put_entries.Goals as goal

ruleset fills = (fill-starts, fill-fits, on_fits, on-less, fill-next, fill-ends, rules)

pub loop-at-preserved : goal.loop-at-preserved
loop-at-preserved c = search fills

pub returns : goal.returns
returns c = search fills

-- `layouts::lists::listing_at` meets its contract: an area that is passed has no extent left. Assumes nothing.
use borrow.Author.Rules.{rules}
use Rattle.chains.proofs.WalkLaws.{hop-less}
use Rattle.layouts.proofs.ListLaws.{walk-starts, walk-hop, walk_ends, walk-takes}
use Rattle.layouts.proofs.lists.listing_at.Goals as goal

ruleset walks = (walk-starts, walk-hop, hop-less, walk_ends, walk-takes, rules)

pub returns-in-Ends : goal.returns-in-Ends
returns-in-Ends c = search walks

pub loop-next-smaller : goal.loop-next-smaller
loop-next-smaller c = search walks

pub loop-next-preserved : goal.loop-next-preserved
loop-next-preserved c = search walks

pub returns-in-Takes : goal.returns-in-Takes
returns-in-Takes c = search walks

-- `listings::finds::find` meets its contract: what was found, else what is found in the rest, is what is found in the whole. Assumes nothing.
use borrow.Author.Rules.{rules}
use Rattle.listings.proofs.WalkLaws.{name-inside, at_less, find-starts, find-bad, find-fits, find-next, find-ends}
use Rattle.listings.proofs.finds.find.Goals as goal

ruleset finds = (find-starts, find-bad, name-inside, find-fits, at_less, find-next, find-ends, rules)

pub loop-at-init : goal.loop-at-init
loop-at-init c = search finds

pub loop-at-preserved : goal.loop-at-preserved
loop-at-preserved c = search finds

pub returns : goal.returns
returns c = search finds

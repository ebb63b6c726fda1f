-- `listings::listing::measure` meets its contract: what is left to measure makes, with what was measured, the whole. Assumes nothing.
use borrow.Author.Rules.{rules}
use Rattle.listings.proofs.WalkLaws.{next_fits, at_less, measure-starts, measure-bad, name-fits, size_fits, measure-next, measure-ends}
use Rattle.listings.proofs.listing.measure.Goals as goal

ruleset measures = (measure-starts, measure-bad, name-fits, size_fits, next_fits, at_less, measure-next, measure-ends, rules)

pub loop-at-preserved : goal.loop-at-preserved
loop-at-preserved c = search measures

pub returns : goal.returns
returns c = search measures

-- `figures::add_places` meets its contract: each place in turn. Assumes nothing.
use borrow.Author.Rules.{rules}
use Rattle.figures.proofs.TotalLaws.{totaling-next, totaling-ends}
use Rattle.figures.proofs.add_places.Goals as goal

ruleset totals = (totaling-next, totaling-ends, rules)

pub loop-i-preserved : goal.loop-i-preserved
loop-i-preserved c = search totals

pub returns : goal.returns
returns c = search totals

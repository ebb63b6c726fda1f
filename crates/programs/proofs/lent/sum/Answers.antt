-- `programs::lent::sum` meets its contract. Assumes nothing.
use borrow.Author.Rules.{rules}
use Rattle.programs.proofs.SumLaws.{sum-next, sum-ends}
use Rattle.programs.proofs.lent.sum.Goals as goal

ruleset sums = (sum-next, sum-ends, rules)

pub loop-x-preserved : goal.loop-x-preserved
loop-x-preserved c = search sums

pub returns : goal.returns
returns c = search sums

-- `programs::lent::is_zero` meets its contract: the bytes before the index are 0. Assumes nothing.
use borrow.Author.Rules.{rules}
use Rattle.programs.proofs.ZeroLaws.{zero-next, zero-not, zero-ends}
use Rattle.programs.proofs.lent.is_zero.Goals as goal

ruleset zeros = (zero-next, zero-not, zero-ends, rules)

pub returns-then-x-ne0 : goal.returns-then-x-ne0
returns-then-x-ne0 c = search zeros

pub loop-x-preserved : goal.loop-x-preserved
loop-x-preserved c = search zeros

pub returns : goal.returns
returns c = search zeros

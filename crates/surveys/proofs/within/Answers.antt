-- `surveys::within` meets its contract: each length in turn is taken from the bytes. Assumes nothing.
use borrow.Author.Rules.{rules}
use Rattle.surveys.proofs.ShelfLaws.{fitting-next, fitting-stops, fitting-ends}
use Rattle.surveys.proofs.within.Goals as goal

ruleset fits = (fitting-next, fitting-stops, fitting-ends, rules)

pub returns-then-left-n : goal.returns-then-left-n
returns-then-left-n c = search fits

pub loop-n-preserved : goal.loop-n-preserved
loop-n-preserved c = search fits

pub returns : goal.returns
returns c = search fits

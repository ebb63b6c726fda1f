-- `figures::add_place` meets its contract: each pair in turn, and the longer chain. Assumes nothing.
use borrow.Author.Rules.{rules}
use Rattle.figures.proofs.TotalLaws.{adding-next, adding-ends}
use Rattle.figures.proofs.add_place.Goals as goal

pub loop-k-preserved : goal.loop-k-preserved
loop-k-preserved c = adding-next c.loop-k.invariant (search rules) c.add_sum.ensures

pub returns : goal.returns
returns c = search adding-ends

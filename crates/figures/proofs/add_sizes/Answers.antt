-- `figures::add_sizes` meets its contract: six figures, one behind another. Assumes nothing.
use borrow.Author.Rules.{rules}
use Rattle.figures.proofs.AddLaws.{file-placed}
use Rattle.figures.proofs.add_sizes.Goals as goal

pub returns : goal.returns
returns c = file-placed _ _ _ _ _ _ c.requires.0 (search rules) (search rules) (search rules) (search rules) c.add_sum.ensures c.add_sum-2.ensures c.add_sum-3.ensures c.add_sum-4.ensures c.add_sum-5.ensures c.add_longer.ensures

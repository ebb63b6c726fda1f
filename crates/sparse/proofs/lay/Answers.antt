-- `sparse::lay` meets its contract: by the two laws of a run. Assumes nothing.
use borrow.Author.Rules.{rules}
use Rattle.sparse.proofs.RunLaws.{lay-none, lay-tail}
use Rattle.sparse.proofs.lay.Goals as goal

ruleset lays = (lay-none, lay-tail, rules)

pub returns-then-image-from : goal.returns-then-image-from
returns-then-image-from c = search lays

pub returns : goal.returns
returns c = search lays

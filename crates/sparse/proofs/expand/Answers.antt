-- `sparse::expand` meets its contract: from what its callees ensure. Assumes nothing.
use borrow.Author.Rules.{rules}
use Rattle.sparse.proofs.RunLaws.{expanded}
use Rattle.sparse.proofs.expand.Goals as goal

ruleset expands = (expanded, rules)

pub returns : goal.returns
returns c = search expands

-- `identifiers::name_at` meets its contract: the number behind the head is what its callee ensures. Assumes nothing.
use borrow.Author.Rules.{rules}
use Rattle.identifiers.proofs.IdentifierLaws.{at-is}
use Rattle.identifiers.proofs.name_at.Goals as goal

ruleset ats = (at-is, rules)

pub returns : goal.returns
returns c = search ats

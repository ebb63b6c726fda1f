-- `identifiers::identifier_named` meets its contract: each return is a case of `identifier_named`. Assumes nothing.
use borrow.Author.Rules.{rules}
use Rattle.identifiers.proofs.IdentifierLaws.{named-over, named-sized}
use Rattle.identifiers.proofs.identifier_named.Goals as goal

ruleset named = (named-over, named-sized, rules)

pub returns-then-s-end : goal.returns-then-s-end
returns-then-s-end c = search named

pub returns : goal.returns
returns c = search named

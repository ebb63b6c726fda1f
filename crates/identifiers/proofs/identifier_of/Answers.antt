-- `identifiers::identifier_of` meets its contract: each field is what the call that read it ensures. Assumes nothing.
use borrow.Author.Rules.{rules}
use Rattle.identifiers.proofs.IdentifierLaws.{fields-are}
use Rattle.identifiers.proofs.identifier_of.Goals as goal

ruleset fields = (fields-are, rules)

pub returns : goal.returns
returns c = search fields

-- `drives_c::vault_match` meets its contract: the entry by the choice that has the number. Assumes nothing.
use borrow.Author.Rules.{rules}
use Rattle.drives_c.proofs.MatchingLaws.{named_by}
use Rattle.drives_c.proofs.vault_match.Goals as goal

pub returns : goal.returns
returns c = search (named_by, rules)

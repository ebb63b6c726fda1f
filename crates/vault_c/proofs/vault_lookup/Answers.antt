-- `vault_c::vault_lookup` meets its contract: the lookup by the choice that has the number. Assumes nothing.
use borrow.Author.Rules.{rules}
use Rattle.vault_c.proofs.MatchingLaws.{found-by}
use Rattle.vault_c.proofs.vault_lookup.Goals as goal

pub returns : goal.returns
returns c = search (found-by, rules)

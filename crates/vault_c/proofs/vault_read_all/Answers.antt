-- `vault_c::vault_read_all` meets its contract: the reads by the choice that has the number. Assumes nothing.
use borrow.Author.Rules.{rules}
use Rattle.vault_c.proofs.MatchingLaws.{all-by}
use Rattle.vault_c.proofs.vault_read_all.Goals as goal

pub returns : goal.returns
returns c = search (all-by, rules)

-- `vault_c::vault_read_path` meets its contract: the read by the choice that has the number. Assumes nothing.
use borrow.Author.Rules.{rules}
use Rattle.vault_c.proofs.MatchingLaws.{read_by}
use Rattle.vault_c.proofs.vault_read_path.Goals as goal

pub returns : goal.returns
returns c = search (read_by, rules)

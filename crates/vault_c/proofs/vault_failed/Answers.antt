-- `vault_c::vault_failed` meets its contract: the component that failed by the choice that has the number. Assumes nothing.
use borrow.Author.Rules.{rules}
use Rattle.vault_c.proofs.MatchingLaws.{failed-by}
use Rattle.vault_c.proofs.vault_failed.Goals as goal

pub returns : goal.returns
returns c = search (failed-by, rules)

-- `vault_c::vault_label` meets its contract: the number is known, or not. Assumes nothing.
use borrow.Author.Rules.{rules}
use Rattle.vault_c.proofs.ChoiceLaws.{label-unknown, label-known}
use Rattle.vault_c.proofs.vault_label.Goals as goal

ruleset choices = (label-unknown, label-known, rules)

pub returns-in-None : goal.returns-in-None
returns-in-None c = search choices

pub returns-in-Some : goal.returns-in-Some
returns-in-Some c = search choices

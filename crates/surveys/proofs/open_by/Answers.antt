-- `surveys::open_by` meets its contract: the choices are known, or not. Assumes nothing.
use borrow.Author.Rules.{rules}
use Rattle.surveys.proofs.ImageLaws.{open_unknown, open-known}
use Rattle.surveys.proofs.open_by.Goals as goal

ruleset choices = (open_unknown, open-known, rules)

pub returns-in-None : goal.returns-in-None
returns-in-None c = search choices

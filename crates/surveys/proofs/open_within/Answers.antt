-- `surveys::open_within` meets its contract: the opening wants more sectors than are lent, or not. Assumes nothing.
use borrow.Author.Rules.{rules}
use Rattle.surveys.proofs.ImageLaws.{open-over, open-enough}
use Rattle.surveys.proofs.open_within.Goals as goal

ruleset opens = (open-over, open-enough, rules)

pub returns-then-most-opened : goal.returns-then-most-opened
returns-then-most-opened c = search opens

pub returns : goal.returns
returns c = search opens

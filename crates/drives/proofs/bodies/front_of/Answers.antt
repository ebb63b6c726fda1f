use borrow.Author.Rules.{rules}
use borrow.Author.Tests.{not-true, not-false}
use Rattle.drives.proofs.HeadLaws.{front-none, front-some}
use Rattle.drives.proofs.bodies.front_of.Goals as goal

ruleset fronts = (front-none, front-some, not-true, not-false, rules)

pub returns-then-not-headed : goal.returns-then-not-headed
returns-then-not-headed c = search fronts

pub returns : goal.returns
returns c = search fronts

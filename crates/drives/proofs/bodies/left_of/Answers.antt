use borrow.Author.Rules.{rules}
use borrow.Author.Tests.{not-true, not-false}
use Rattle.drives.proofs.HeadLaws.{left-none, left-short, left-some}
use Rattle.drives.proofs.bodies.left_of.Goals as goal

ruleset lefts = (left-none, left-short, left-some, not-true, not-false, rules)

pub returns-then-not-headed : goal.returns-then-not-headed
returns-then-not-headed c = search lefts

pub returns-then-area-lt2024 : goal.returns-then-area-lt2024
returns-then-area-lt2024 c = search lefts

pub returns : goal.returns
returns c = search lefts

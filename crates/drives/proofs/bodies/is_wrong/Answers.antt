use borrow.Author.Rules.{rules}
use borrow.Author.Tests.{not-true, not-false}
use Rattle.drives.proofs.BodyLaws.{wrong-unchecked, wrong-short, wrong-sum}
use Rattle.drives.proofs.bodies.is_wrong.Goals as goal

ruleset wrongs = (wrong-unchecked, wrong-short, wrong-sum, not-true, not-false, rules)

pub returns-then-not-check : goal.returns-then-not-check
returns-then-not-check c = search wrongs

pub returns-then-b-ne0 : goal.returns-then-b-ne0
returns-then-b-ne0 c = search wrongs

pub returns : goal.returns
returns c = search wrongs

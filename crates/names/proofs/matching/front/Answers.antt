-- `names::matching::front` meets its contract: what is left to compare says what the whole says. Assumes nothing.
use borrow.Author.Rules.{rules}
use borrow.Author.Tests.{not-true, not-false}
use Rattle.names.proofs.MatchLaws.{front-next}
use Rattle.names.proofs.matching.front.Goals as goal

ruleset fronts = (front-next, not-true, not-false, rules)

pub loop-at-preserved : goal.loop-at-preserved
loop-at-preserved c = search fronts

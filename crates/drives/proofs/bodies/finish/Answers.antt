use borrow.Author.Rules.{rules}
use Rattle.drives.proofs.BodyLaws.{finish-not, finish-good}
use Rattle.drives.proofs.bodies.finish.Goals as goal

ruleset finishes = (finish-not, finish-good, rules)

pub returns-in-Err : goal.returns-in-Err
returns-in-Err c = search finishes

pub returns : goal.returns
returns c = search finishes

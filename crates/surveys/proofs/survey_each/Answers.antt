-- `surveys::survey_each` meets its contract: each image in turn. Assumes nothing.
use borrow.Author.Rules.{rules}
use Rattle.surveys.proofs.ShelfLaws.{placing-ends, placing-next}
use Rattle.surveys.proofs.survey_each.Goals as goal

ruleset places = (placing-ends, placing-next, rules)

pub loop-i-preserved : goal.loop-i-preserved
loop-i-preserved c = search places

pub returns : goal.returns
returns c = search places

-- `surveys::survey_all` meets its contract: the lengths, the places, each image, and the total. Assumes nothing.
use borrow.Author.Rules.{rules}
use borrow.Author.Tests.{not-true, not-false}
use Rattle.surveys.proofs.ShelfLaws.{shelf-passed, shelf-kept, places-few, places-kept, room-each, done-answer, done-figures}
use Rattle.surveys.proofs.survey_all.Goals as goal

ruleset surveys = (shelf-passed, shelf-kept, places-few, places-kept, room-each, done-answer, done-figures, not-true, not-false, rules)

pub returns : goal.returns
returns c = (search surveys, search surveys)

-- `surveys::survey` meets its contract: the survey, and then the work space is cleared. Assumes nothing.
use borrow.Author.Rules.{rules}
use Rattle.surveys.proofs.ShelfLaws.{survey-done, survey-bad}
use Rattle.surveys.proofs.survey.Goals as goal

ruleset clears = (survey-done, survey-bad, rules)

pub returns-in-Err : goal.returns-in-Err
returns-in-Err c = search clears

pub returns-in-Ok : goal.returns-in-Ok
returns-in-Ok c = search clears

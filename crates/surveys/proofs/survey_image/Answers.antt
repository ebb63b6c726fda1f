-- `surveys::survey_image` meets its contract: the opening is refused, or the tree, or neither. Assumes nothing.
use borrow.Author.Rules.{rules}
use Rattle.surveys.proofs.ImageLaws.{opening-refused, tree-counted}
use Rattle.surveys.proofs.survey_image.Goals as goal

ruleset images = (opening-refused, tree-counted, rules)

pub returns-then-opened-ne-DONE : goal.returns-then-opened-ne-DONE
returns-then-opened-ne-DONE c = search images

pub returns : goal.returns
returns c = search images

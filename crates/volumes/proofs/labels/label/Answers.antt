-- `volumes::labels::label` meets its contract: the image was opened, or wasn't. Assumes nothing.
use borrow.Author.Rules.{rules}
use Rattle.volumes.proofs.LabelLaws.{label-refused, label-written}
use Rattle.volumes.proofs.labels.label.Goals as goal

ruleset labels = (label-refused, label-written, rules)

pub returns-then-opened-ne-DONE : goal.returns-then-opened-ne-DONE
returns-then-opened-ne-DONE c = search labels

pub returns : goal.returns
returns c = search labels

-- `files::sizes::weigh_file` meets its contract: refused, embedded, or in extents. Assumes nothing.
use borrow.Author.Rules.{rules}
use Rattle.std.proofs.Common.{Ok, ◌∙◌, ap}
use Rattle.files.proofs.MeasuredLaws.{file-refused, file-in, file-little, file-out}
use Rattle.files.proofs.sizes.weigh_file.Goals as goal

ruleset weighs = (file-refused, file-in, file-little, file-out, rules)

pub returns-in-Err : goal.returns-in-Err
returns-in-Err c = search weighs

pub returns-in-Ok-Embedded : goal.returns-in-Ok-Embedded
returns-in-Ok-Embedded c = let e = c.in-Ok-Embedded.is ∙ ap Ok c.in-Ok-Embedded.field-0-is in search weighs

pub returns-in-Ok-Chained : goal.returns-in-Ok-Chained
returns-in-Ok-Chained c = let e = c.in-Ok-Chained.is ∙ ap Ok c.in-Ok-Chained.field-0-is in search weighs

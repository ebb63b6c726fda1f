-- `files::reads::read_file` meets its contract: refused, embedded, or in extents. Assumes nothing.
use borrow.Author.Rules.{rules}
use Rattle.std.proofs.Common.{Ok, ◌∙◌, ap}
use Rattle.files.proofs.ReadLaws.{read-refused, place_inside, chain-little, read-in, read_out}
use Rattle.files.proofs.reads.read_file.Goals as goal

ruleset reads = (read-refused, place_inside, chain-little, read-in, read_out, rules)

pub returns-in-Err : goal.returns-in-Err
returns-in-Err c = search reads

pub returns-in-Ok-Embedded : goal.returns-in-Ok-Embedded
returns-in-Ok-Embedded c = let e = c.in-Ok-Embedded.is ∙ ap Ok c.in-Ok-Embedded.field-0-is in search reads

pub returns-in-Ok-Chained : goal.returns-in-Ok-Chained
returns-in-Ok-Chained c = let e = c.in-Ok-Chained.is ∙ ap Ok c.in-Ok-Chained.field-0-is in search reads

-- `files::reads::read_whole` meets its contract: refused, too many bytes, or copied. Assumes nothing.
use borrow.Author.Rules.{rules}
use Rattle.files.proofs.ReadLaws.{whole-refused, whole-full, whole-done}
use Rattle.files.proofs.reads.read_whole.Goals as goal

ruleset wholes = (whole-refused, whole-full, whole-done, rules)

pub returns-then-out-size : goal.returns-then-out-size
returns-then-out-size c = search wholes

pub returns-in-Err : goal.returns-in-Err
returns-in-Err c = search wholes

pub returns-else-out-size : goal.returns-else-out-size
returns-else-out-size c = search wholes

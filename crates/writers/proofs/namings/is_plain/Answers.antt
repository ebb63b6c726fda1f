-- `writers::namings::is_plain` meets its contract: a byte from 21 to 7E but 2F. Assumes nothing.
use Rattle.std.proofs.Common.{arith}
use Rattle.std.proofs.lemmas.Grind.{common_steps}
use Rattle.writers.specs.Refusing.{is_plain}
use Rattle.writers.proofs.namings.is_plain.Goals as goal

pub returns-then-is_ascii_graphic : goal.returns-then-is_ascii_graphic
unfolding is_plain
returns-then-is_ascii_graphic c = grind (arith, common_steps)

pub returns-else-is_ascii_graphic : goal.returns-else-is_ascii_graphic
unfolding is_plain
returns-else-is_ascii_graphic c = grind (arith, common_steps)

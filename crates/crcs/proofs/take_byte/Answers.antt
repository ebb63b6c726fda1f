-- `crcs::take_byte` meets its contract: the table is looked at inside, where the definition looks. Assumes nothing.
use borrow.Author.Rules.{rules}
use Rattle.crcs.proofs.TableLaws.{out-byte, out-fits, byte-by}
use Rattle.crcs.proofs.take_byte.Goals as goal

ruleset steps = (out-byte, out-fits, byte-by, rules)

pub returns : goal.returns
returns c = search steps

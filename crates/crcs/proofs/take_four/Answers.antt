-- `crcs::take_four` meets its contract: the tables are looked at inside, where the definition looks. Assumes nothing.
use borrow.Author.Rules.{rules}
use Rattle.crcs.proofs.TableLaws.{high_fits, high-inside, high-scaled, low_fits, low-inside, low-scaled, four-by}
use Rattle.crcs.proofs.take_four.Goals as goal

ruleset steps = (high_fits, high-inside, high-scaled, low_fits, low-inside, low-scaled, four-by, rules)

pub returns : goal.returns
returns c = search steps

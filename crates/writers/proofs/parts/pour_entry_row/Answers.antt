-- `writers::parts::pour_entry_row` meets its contract: what is left to pour is what the files left are. Assumes nothing.
use Rattle.std.proofs.Common.{rules}
use Rattle.writers.proofs.PartLaws.{enter-next, enter-ends}
use Rattle.writers.proofs.parts.pour_entry_row.Goals as goal

ruleset own = (enter-next, enter-ends, rules)

pub loop-i-preserved : goal.loop-i-preserved
loop-i-preserved c = search own

pub returns : goal.returns
returns c = search own

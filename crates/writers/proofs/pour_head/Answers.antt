-- `writers::pour_head` meets its contract: front, directory and entries, one behind another. Assumes nothing.
use Rattle.std.proofs.Common.{rules}
use Rattle.writers.proofs.CallLaws.{head-poured}
use Rattle.writers.proofs.pour_head.Goals as goal

ruleset own = (head-poured, rules)

pub returns : goal.returns
returns c = search own

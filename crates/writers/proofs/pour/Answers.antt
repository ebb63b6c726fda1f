-- `writers::pour` meets its contract: the parts poured are the image, where nothing was to be refused. Assumes nothing.
use Rattle.std.proofs.Common.{rules}
use Rattle.writers.proofs.CallLaws.{pour-done}
use Rattle.writers.proofs.pour.Goals as goal

ruleset own = (pour-done, rules)

pub returns : goal.returns
returns c = search own

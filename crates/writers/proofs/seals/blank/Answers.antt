-- `writers::seals::blank` meets its contract: zeros stand in the part that was lent. Assumes nothing.
use Rattle.std.proofs.Common.{rules}
use Rattle.writers.proofs.PourLaws.{blank-ends}
use Rattle.writers.proofs.seals.blank.Goals as goal

ruleset pours = (blank-ends, rules)

pub returns : goal.returns
returns c = search pours

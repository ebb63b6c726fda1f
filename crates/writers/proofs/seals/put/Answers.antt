-- `writers::seals::put` meets its contract: the text stands in the part that was lent. Assumes nothing.
use Rattle.std.proofs.Common.{rules}
use Rattle.writers.proofs.PourLaws.{put-ends}
use Rattle.writers.proofs.seals.put.Goals as goal

ruleset pours = (put-ends, rules)

pub returns : goal.returns
returns c = search pours

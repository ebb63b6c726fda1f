-- `writers::seals::seal` meets its contract: the tag, and the body behind it. Assumes nothing.
use Rattle.std.proofs.Common.{rules}
use Rattle.writers.proofs.PourLaws.{seal-ends}
use Rattle.writers.proofs.seals.seal.Goals as goal

ruleset pours = (seal-ends, rules)

pub returns : goal.returns
returns c = search pours

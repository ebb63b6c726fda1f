-- `writers::seals::seal_sector` meets its contract: zeros up to the sector's end. Assumes nothing.
use Rattle.std.proofs.Common.{rules}
use Rattle.writers.proofs.PourLaws.{sealed-laid}
use Rattle.writers.proofs.seals.seal_sector.Goals as goal

ruleset own = (sealed-laid, rules)

pub returns : goal.returns
returns c = search own

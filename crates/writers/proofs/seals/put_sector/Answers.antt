-- `writers::seals::put_sector` meets its contract: zeros up to the sector's end. Assumes nothing.
use Rattle.std.proofs.Common.{rules}
use Rattle.writers.proofs.PourLaws.{text-laid}
use Rattle.writers.proofs.seals.put_sector.Goals as goal

ruleset own = (text-laid, rules)

pub returns : goal.returns
returns c = search own

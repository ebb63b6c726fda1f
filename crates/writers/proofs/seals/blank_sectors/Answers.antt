-- `writers::seals::blank_sectors` meets its contract: sectors of zeros are zeros. Assumes nothing.
use Rattle.std.proofs.Common.{rules}
use Rattle.writers.proofs.PourLaws.{blanks-laid}
use Rattle.writers.proofs.seals.blank_sectors.Goals as goal

ruleset pours = (blanks-laid, rules)

pub returns : goal.returns
returns c = search pours

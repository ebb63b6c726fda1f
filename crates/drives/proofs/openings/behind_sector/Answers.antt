use borrow.Author.Rules.{rules}
use Rattle.drives.proofs.OpeningLaws.{sector-last, sector-next, sector-fails, sector-over}
use Rattle.drives.proofs.openings.behind_sector.Goals as goal

ruleset sectors = (sector-last, sector-next, sector-fails, sector-over, rules)

pub returns-then-left-eq0 : goal.returns-then-left-eq0
returns-then-left-eq0 c = search sectors

pub returns-else-left-eq0 : goal.returns-else-left-eq0
returns-else-left-eq0 c = search sectors

pub returns-in-Over : goal.returns-in-Over
returns-in-Over c = search sectors

pub returns-in-Fails : goal.returns-in-Fails
returns-in-Fails c = search sectors

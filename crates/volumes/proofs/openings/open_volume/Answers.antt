-- `volumes::openings::open_volume` meets its contract: sector 256 is there, or isn't. Assumes nothing.
use borrow.Author.Rules.{rules}
use Rattle.volumes.proofs.OpeningLaws.{opening-gone, opening-there}
use Rattle.volumes.proofs.openings.open_volume.Goals as goal

ruleset opens = (opening-gone, opening-there, rules)

pub returns-then-held_from-eq0 : goal.returns-then-held_from-eq0
returns-then-held_from-eq0 c = search opens

pub returns : goal.returns
returns c = search opens

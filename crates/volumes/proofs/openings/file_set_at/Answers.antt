-- `volumes::openings::file_set_at` meets its contract: the sector is there, or not. Assumes nothing.
use borrow.Author.Rules.{rules}
use Rattle.volumes.proofs.OpeningLaws.{set-gone, set_there}
use Rattle.volumes.proofs.openings.file_set_at.Goals as goal

ruleset sets = (set-gone, set_there, rules)

pub returns-then-held_from-eq0 : goal.returns-then-held_from-eq0
returns-then-held_from-eq0 c = search sets

pub returns : goal.returns
returns c = search sets

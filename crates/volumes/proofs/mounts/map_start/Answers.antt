-- `volumes::mounts::map_start` meets its contract: whether the map is of type 1, and what the scan kept, say which case of the definition holds. Assumes nothing.
use borrow.Author.Rules.{rules}
use Rattle.volumes.proofs.MapLaws.{map-refused, map-unnumbered, map-numbered}
use Rattle.volumes.proofs.mounts.map_start.Goals as goal

ruleset starts = (map-refused, map-unnumbered, map-numbered, rules)

pub returns-in-Ok : goal.returns-in-Ok
returns-in-Ok c = search starts

pub returns-in_default : goal.returns-in_default
returns-in_default c = search starts

pub returns-in_default-2 : goal.returns-in_default-2
returns-in_default-2 c = search starts

-- `disc::places::Mount::mapped` meets its contract: by how many maps there are. Assumes nothing.
use borrow.Author.Rules.{rules}
use Rattle.disc.proofs.PlaceLaws.{map-over, map-past, map-in}
use Rattle.disc.proofs.places.Mount.mapped.Goals as goal

ruleset starts = (map-over, map-past, map-in, rules)

pub returns-then-self-i : goal.returns-then-self-i
returns-then-self-i c = search starts

pub returns-then-i-ge4 : goal.returns-then-i-ge4
returns-then-i-ge4 c = search starts

pub returns : goal.returns
returns c = search starts

-- `disc::places::Mount::placed` meets its contract: by the reference. Assumes nothing.
use borrow.Author.Rules.{rules}
use Rattle.disc.proofs.PlaceLaws.{place-unnamed, place-named}
use Rattle.disc.proofs.places.Mount.placed.Goals as goal

ruleset places = (place-unnamed, place-named, rules)

pub returns-in-None : goal.returns-in-None
returns-in-None c = search places

pub returns-in-Some : goal.returns-in-Some
returns-in-Some c = search places

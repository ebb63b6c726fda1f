-- `disc::places::Mount::icb_placed` meets its contract: by the ICB's partition. Assumes nothing.
use borrow.Author.Rules.{rules}
use Rattle.disc.proofs.PlaceLaws.{place-icb}
use Rattle.disc.proofs.places.Mount.icb_placed.Goals as goal

ruleset places = (place-icb, rules)

pub returns : goal.returns
returns c = search places

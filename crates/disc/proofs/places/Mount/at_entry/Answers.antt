-- `disc::places::Mount::at_entry` meets its contract: by the partition of the ICB. Assumes nothing.
use borrow.Author.Rules.{rules}
use Rattle.disc.proofs.PlaceLaws.{at-foreign, at_in}
use Rattle.disc.proofs.places.Mount.at_entry.Goals as goal

ruleset starts = (at-foreign, at_in, rules)

pub returns-in-None : goal.returns-in-None
returns-in-None c = search starts

pub returns-in-Some : goal.returns-in-Some
returns-in-Some c = search starts

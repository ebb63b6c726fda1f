-- `disc::places::Mount::start_for` meets its contract: through the maps, or by the partition's number. Assumes nothing.
use borrow.Author.Rules.{rules}
use Rattle.disc.proofs.PlaceLaws.{start-mapped, start-foreign, start-own}
use Rattle.disc.proofs.places.Mount.start_for.Goals as goal

ruleset starts = (start-mapped, start-foreign, start-own, rules)

pub returns-then-is_mapped : goal.returns-then-is_mapped
returns-then-is_mapped c = search starts

pub returns-then-reference-self : goal.returns-then-reference-self
returns-then-reference-self c = search starts

pub returns : goal.returns
returns c = search starts

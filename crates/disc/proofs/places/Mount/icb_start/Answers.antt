-- `disc::places::Mount::icb_start` meets its contract: through the maps, or the volume's own. Assumes nothing.
use borrow.Author.Rules.{rules}
use Rattle.disc.proofs.PlaceLaws.{icb-mapped, icb-own}
use Rattle.disc.proofs.places.Mount.icb_start.Goals as goal

ruleset starts = (icb-mapped, icb-own, rules)

pub returns-then-is_mapped : goal.returns-then-is_mapped
returns-then-is_mapped c = search starts

pub returns : goal.returns
returns c = search starts

-- `names::matching::lower` meets its contract: its tests are the definition's. Assumes nothing.
use Rattle.disc.proofs.PickLaws.{picks}
use Rattle.names.specs.Names.{lower}
use Rattle.names.proofs.matching.lower.Goals as goal

pub returns-then-b-lt65 : goal.returns-then-b-lt65
unfolding lower
returns-then-b-lt65 c = search picks

pub returns-then-b-lt91 : goal.returns-then-b-lt91
unfolding lower
returns-then-b-lt91 c = search picks

pub returns : goal.returns
unfolding lower
returns c = search picks

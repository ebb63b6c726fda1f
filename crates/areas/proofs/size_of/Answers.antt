-- `areas::size_of` meets its contract: each test says which case of the definition holds. Assumes nothing.
use Rattle.disc.proofs.PickLaws.{picks}
use Rattle.areas.specs.Areas.{size_of}
use Rattle.areas.proofs.size_of.Goals as goal

pub returns-then-kind-eq0 : goal.returns-then-kind-eq0
unfolding size_of
returns-then-kind-eq0 c = search picks

pub returns-then-kind-eq1 : goal.returns-then-kind-eq1
unfolding size_of
returns-then-kind-eq1 c = search picks

pub returns : goal.returns
unfolding size_of
returns c = search picks

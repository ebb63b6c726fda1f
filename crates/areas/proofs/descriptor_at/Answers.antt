-- `areas::descriptor_at` meets its contract: each test says which case of the definition holds. Assumes nothing.
use Rattle.disc.proofs.PickLaws.{picks}
use Rattle.areas.specs.Areas.{descriptor_at}
use Rattle.areas.proofs.descriptor_at.Goals as goal

pub returns-then-kind-eq0 : goal.returns-then-kind-eq0
unfolding descriptor_at
returns-then-kind-eq0 c = search picks

pub returns-then-kind-eq1 : goal.returns-then-kind-eq1
unfolding descriptor_at
returns-then-kind-eq1 c = search picks

pub returns : goal.returns
unfolding descriptor_at
returns c = search picks

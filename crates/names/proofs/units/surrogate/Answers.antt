-- `names::units::surrogate` meets its contract: its tests are the definition's. Assumes nothing.
use Rattle.disc.proofs.PickLaws.{picks}
use Rattle.names.specs.Names.{surrogate}
use Rattle.names.proofs.units.surrogate.Goals as goal

pub returns-then-u-lt55296 : goal.returns-then-u-lt55296
unfolding surrogate
returns-then-u-lt55296 c = search picks

pub returns : goal.returns
unfolding surrogate
returns c = search picks

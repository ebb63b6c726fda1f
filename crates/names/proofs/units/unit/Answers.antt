-- `names::units::unit` meets its contract: its test is the definition's. Assumes nothing.
use Rattle.disc.proofs.PickLaws.{picks}
use Rattle.names.specs.Inner.Units.{unit_at}
use Rattle.names.proofs.UnitLaws.{pair_is}
use Rattle.names.proofs.units.unit.Goals as goal

pub returns-then-step-eq2 : goal.returns-then-step-eq2
unfolding unit_at
returns-then-step-eq2 c = search (pair_is, picks)

pub returns : goal.returns
unfolding unit_at
returns c = search picks

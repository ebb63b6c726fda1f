-- `names::units::unit_size` meets its contract: ASCII is no surrogate, and behind that its tests are the definition's. Assumes nothing.
use borrow.Author.Rules.{rules}
use Rattle.disc.proofs.PickLaws.{picks}
use Rattle.names.specs.Names.{encode}
use Rattle.names.specs.Inner.Units.{unit_bytes}
use Rattle.names.proofs.UnitLaws.{one-long}
use Rattle.names.proofs.units.unit_size.Goals as goal

pub returns-then-u-lt128 : goal.returns-then-u-lt128
unfolding unit_bytes encode
returns-then-u-lt128 c = search (one-long, rules)

pub returns-then-surrogate : goal.returns-then-surrogate
unfolding unit_bytes encode
returns-then-surrogate c = search picks depth 9

pub returns-then-u-lt2048 : goal.returns-then-u-lt2048
unfolding unit_bytes encode
returns-then-u-lt2048 c = search picks depth 9

pub returns : goal.returns
unfolding unit_bytes encode
returns c = search picks depth 9

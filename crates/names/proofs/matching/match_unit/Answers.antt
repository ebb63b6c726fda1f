-- `names::matching::match_unit` meets its contract: a law for each number of bytes. Assumes nothing.
use borrow.Author.Rules.{rules}
use Rattle.names.proofs.MatchLaws.{unit-one, unit-none, unit-long}
use Rattle.names.proofs.matching.match_unit.Goals as goal

ruleset units = (unit-one, unit-none, unit-long, rules)

pub returns-then-u-lt128 : goal.returns-then-u-lt128
returns-then-u-lt128 c = search units

pub returns-then-surrogate : goal.returns-then-surrogate
returns-then-surrogate c = search units

pub returns : goal.returns
returns c = search units

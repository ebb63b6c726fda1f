-- `names::units::put` meets its contract: a law for each number of bytes. Assumes nothing.
use borrow.Author.Rules.{rules}
use Rattle.names.proofs.UnitLaws.{put-none, put_one, put_two, put_three}
use Rattle.names.proofs.units.put.Goals as goal

ruleset puts = (put-none, put_one, put_two, put_three, rules)

pub returns-then-surrogate : goal.returns-then-surrogate
returns-then-surrogate c = search puts

pub returns-then-u-lt128 : goal.returns-then-u-lt128
returns-then-u-lt128 c = search puts

pub returns-then-u-lt2048 : goal.returns-then-u-lt2048
returns-then-u-lt2048 c = search puts

pub returns : goal.returns
returns c = search puts

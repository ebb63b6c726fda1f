-- `files::sizes::weigh_whole` meets its contract: refused, or measured to where a read would stop. Assumes nothing.
use borrow.Author.Rules.{rules}
use Rattle.files.proofs.MeasuredLaws.{weigh-little, weigh-refused, weigh-sized}
use Rattle.files.proofs.sizes.weigh_whole.Goals as goal

ruleset weighs = (weigh-little, weigh-refused, weigh-sized, rules)

pub returns-in-Err : goal.returns-in-Err
returns-in-Err c = search weighs

pub returns-in-Ok : goal.returns-in-Ok
returns-in-Ok c = search weighs

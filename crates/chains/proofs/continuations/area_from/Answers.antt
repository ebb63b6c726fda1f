-- `chains::continuations::area_from` meets its contract: a law for each check, in the order of the checks. Assumes nothing.
use borrow.Author.Rules.{rules}
use Rattle.chains.proofs.FollowLaws.{next-short, next-long, next-missing, next-none, next-over, next-found}
use Rattle.chains.proofs.continuations.area_from.Goals as goal

ruleset nexts = (next-short, next-long, next-missing, next-none, next-over, next-found, rules)

pub returns-then-length-lt-HEADER : goal.returns-then-length-lt-HEADER
returns-then-length-lt-HEADER c = search nexts

pub returns-then-length-gt-LONGEST : goal.returns-then-length-gt-LONGEST
returns-then-length-gt-LONGEST c = search nexts

pub returns-then-held-n : goal.returns-then-held-n
returns-then-held-n c = search nexts

pub returns-then-length-size : goal.returns-then-length-size
returns-then-length-size c = search nexts

pub returns-in-Err : goal.returns-in-Err
returns-in-Err c = search nexts

pub returns-else-length-size : goal.returns-else-length-size
returns-else-length-size c = search nexts

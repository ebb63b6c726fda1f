-- `chains::follows::follow` meets its contract: what the rest of the chain comes to says what the whole comes to. Assumes nothing.
use borrow.Author.Rules.{rules}
use Rattle.chains.proofs.FollowLaws.{follow-starts, follow-end, follow-broken, follow-cut, follow-none, follow-none-fits, follow-adds, follow-next}
use Rattle.chains.proofs.follows.follow.Goals as goal

ruleset follows = (follow-starts, follow-end, follow-broken, follow-cut, follow-none, follow-none-fits, follow-adds, follow-next, rules)

pub returns-in-End : goal.returns-in-End
returns-in-End c = search follows

pub returns-in-Refused : goal.returns-in-Refused
returns-in-Refused c = search follows

pub returns-then-hops-eq0 : goal.returns-then-hops-eq0
returns-then-hops-eq0 c = search follows

pub returns-in-Err : goal.returns-in-Err
returns-in-Err c = search follows

pub loop-why-preserved : goal.loop-why-preserved
loop-why-preserved c = search follows

-- `chains::follows::follow` meets its contract: what the rest of the chain comes to says what the whole comes to. Assumes nothing.
use Rattle.chains.proofs.FollowLaws.{Following}
use Rattle.chains.proofs.follows.follow.Given as goal

abbrev pub invariant-loop-why : goal.invariant-loop-why
invariant-loop-why l = Following l.image l.mount l.kind l.initial.c l.c l.count

abbrev pub decreases-loop-why : goal.decreases-loop-why
decreases-loop-why l = l.c.hops

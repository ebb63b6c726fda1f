-- `chains::counts::count_left` meets its contract: what is counted and what is left are all there is. Assumes nothing.
use borrow.Author.Rules.{rules}
use Rattle.chains.proofs.WalkLaws.{hop-less, take_less}
use Rattle.chains.proofs.CountLaws.{count-starts, count-ends, count-hop, count_next}
use Rattle.chains.proofs.counts.count_left.Goals as goal

ruleset counts = (count-starts, count-ends, count-hop, hop-less, take_less, count_next, rules)

pub returns-in-Ends : goal.returns-in-Ends
returns-in-Ends c = search counts

pub loop-next-smaller-in-Hops : goal.loop-next-smaller-in-Hops
loop-next-smaller-in-Hops c = search counts

pub loop-next-preserved-in-Hops : goal.loop-next-preserved-in-Hops
loop-next-preserved-in-Hops c = search counts

pub loop-next-smaller : goal.loop-next-smaller
loop-next-smaller c = search counts

pub loop-next-preserved : goal.loop-next-preserved
loop-next-preserved c = search counts

-- `areas::ending_of` meets its contract: what is left of the area ends as the whole does. Assumes nothing.
use borrow.Author.Rules.{rules}
use Rattle.areas.proofs.AreaLaws.{ahead-starts, ahead-next, ahead-less, ahead-end, ahead-continuation, ahead-refused}
use Rattle.areas.proofs.ending_of.Goals as goal

ruleset aheads = (ahead-starts, ahead-next, ahead-less, ahead-end, ahead-continuation, ahead-refused, rules)

pub loop-next-smaller : goal.loop-next-smaller
loop-next-smaller c = search aheads

pub loop-next-preserved : goal.loop-next-preserved
loop-next-preserved c = search aheads

pub returns-in-Continuation : goal.returns-in-Continuation
returns-in-Continuation c = search aheads

pub returns-in-End : goal.returns-in-End
returns-in-End c = search aheads

pub returns-in-Refused : goal.returns-in-Refused
returns-in-Refused c = search aheads

-- `chains::cursors::advance` meets its contract: each step of the area's cursor is a case of `step_of`. Assumes nothing.
use borrow.Author.Rules.{rules}
use Rattle.chains.proofs.WalkLaws.{advance-end, advance-refused, advance-takes, advance-hops}
use Rattle.chains.proofs.cursors.advance.Goals as goal

ruleset advances = (advance-end, advance-refused, advance-takes, advance-hops, rules)

pub returns-in-End : goal.returns-in-End
returns-in-End c = search advances

pub returns-in-Refused : goal.returns-in-Refused
returns-in-Refused c = search advances

pub returns-in-Extent : goal.returns-in-Extent
returns-in-Extent c = search advances

pub returns-in-Continuation : goal.returns-in-Continuation
returns-in-Continuation c = search advances

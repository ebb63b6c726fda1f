-- `layouts::runs::further_runs` meets its contract: what is passed gives no run. Assumes nothing.
use borrow.Author.Rules.{rules}
use Rattle.layouts.proofs.RunListLaws.{walk-starts, walk_end, walk_refused, walk-hop, walk-hop-less, walk-less, walk-cut, walk_none, walk-next, walk-found}
use Rattle.layouts.proofs.runs.further_runs.Goals as goal

ruleset walks = (walk-starts, walk_end, walk_refused, walk-hop, walk-hop-less, walk-less, walk-cut, walk_none, walk-next, walk-found, rules)

pub returns-in-End : goal.returns-in-End
returns-in-End c = search walks

pub returns-in-Refused : goal.returns-in-Refused
returns-in-Refused c = search walks

pub loop-next-smaller-in-Hop : goal.loop-next-smaller-in-Hop
loop-next-smaller-in-Hop c = search walks

pub loop-next-preserved-in-Hop : goal.loop-next-preserved-in-Hop
loop-next-preserved-in-Hop c = search walks

pub overflow_sub-result : goal.overflow_sub-result
overflow_sub-result c = search walks

pub returns-then-bytes-ne0 : goal.returns-then-bytes-ne0
returns-then-bytes-ne0 c = search walks

pub returns-then-want-eq0 : goal.returns-then-want-eq0
returns-then-want-eq0 c = search walks

pub loop-next-smaller : goal.loop-next-smaller
loop-next-smaller c = search walks

pub loop-next-preserved : goal.loop-next-preserved
loop-next-preserved c = search walks

-- `layouts::runs::count_runs` meets its contract: what is counted and what the rest comes to are what the whole comes to. Assumes nothing.
use borrow.Author.Rules.{rules}
use Rattle.layouts.proofs.RunListLaws.{count-starts, count-end, count-refused, count-hop, count-hop-less, count-adds, count_less, count-enough, count_next}
use Rattle.layouts.proofs.runs.count_runs.Goals as goal

ruleset counts = (count-starts, count-end, count-refused, count-hop, count-hop-less, count-adds, count_less, count-enough, count_next, rules)

pub returns-in-End : goal.returns-in-End
returns-in-End c = search counts

pub returns-in-Refused : goal.returns-in-Refused
returns-in-Refused c = search counts

pub loop-why-smaller-in-Hop : goal.loop-why-smaller-in-Hop
loop-why-smaller-in-Hop c = search counts

pub loop-why-preserved-in-Hop : goal.loop-why-preserved-in-Hop
loop-why-preserved-in-Hop c = search counts

pub returns-then-missing-bytes : goal.returns-then-missing-bytes
returns-then-missing-bytes c = search counts

pub loop-why-smaller : goal.loop-why-smaller
loop-why-smaller c = search counts

pub loop-why-preserved : goal.loop-why-preserved
loop-why-preserved c = count_next _ _ _ _ _ _ _ _ _ c.loop-why.invariant c.next_piece.ensures c.in-Piece.is c.min-runs.ensures c.add_counts-count.ensures (search rules)

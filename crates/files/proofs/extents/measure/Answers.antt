-- `files::extents::measure` meets its contract: what is measured and what the rest comes to are what the whole comes to. Assumes nothing.
use borrow.Author.Rules.{rules}
use Rattle.files.proofs.MeasureLaws.{measure-starts, measure-end, measure-refused, measure-hop, measure-hop-less, measure-adds, measure-counts, measure-less, measure-enough, measure-next}
use Rattle.files.proofs.extents.measure.Goals as goal

ruleset measures = (measure-starts, measure-end, measure-refused, measure-hop, measure-hop-less, measure-adds, measure-counts, measure-less, measure-enough, measure-next, rules)

pub returns-in-End : goal.returns-in-End
returns-in-End c = search measures

pub returns-in-Refused : goal.returns-in-Refused
returns-in-Refused c = search measures

pub loop-why-smaller-in-Hop : goal.loop-why-smaller-in-Hop
loop-why-smaller-in-Hop c = search measures

pub loop-why-preserved-in-Hop : goal.loop-why-preserved-in-Hop
loop-why-preserved-in-Hop c = search measures

pub overflow_add-size : goal.overflow_add-size
overflow_add-size c = search measures

pub returns-then-want-size : goal.returns-then-want-size
returns-then-want-size c = search measures

pub loop-why-smaller : goal.loop-why-smaller
loop-why-smaller c = search measures

pub loop-why-preserved : goal.loop-why-preserved
loop-why-preserved c = measure-next _ _ _ _ _ _ _ _ _ c.loop-why.invariant c.next_piece.ensures c.in-Piece.is c.add_counts-count.ensures (search rules)

-- `sparse::lay_runs` meets its contract: the laws of the loop. Assumes nothing.
use borrow.Author.Rules.{rules}
use Rattle.sparse.proofs.RunLaws.{run_fits, run-headed, run-within, lay-next, lay-stops, lay-ends}
use Rattle.sparse.proofs.lay_runs.Goals as goal

ruleset runs = (run_fits, run-headed, run-within, lay-next, lay-stops, lay-ends, rules)

pub returns-then-end-eq0 : goal.returns-then-end-eq0
returns-then-end-eq0 c = search runs

pub overflow_add-from : goal.overflow_add-from
overflow_add-from c = search runs

pub slice_bounds-lay-count : goal.slice_bounds-lay-count
slice_bounds-lay-count c = search runs

pub slice_bounds-lay-start : goal.slice_bounds-lay-start
slice_bounds-lay-start c = search runs

pub slice_bounds-lay-end : goal.slice_bounds-lay-end
slice_bounds-lay-end c = search runs

pub loop-preserved : goal.loop-preserved
loop-preserved c = search runs

pub returns : goal.returns
returns c = search runs

-- `shows::nodes::put_node` meets its contract: nothing where the entry is skipped, else its record. Assumes nothing.
use borrow.Author.Rules.{rules}
use Rattle.listings.proofs.EntryLaws.{seen-order, seen-ends}
use Rattle.shows.proofs.NodeLaws.{node-skipped, node-put}
use Rattle.shows.proofs.nodes.put_node.Goals as goal

ruleset puts = (seen-order, seen-ends, node-skipped, node-put, rules)

pub returns-then-e : goal.returns-then-e
returns-then-e c = search puts

pub slice_bounds-put_record-count : goal.slice_bounds-put_record-count
slice_bounds-put_record-count c = search puts

pub slice_bounds-put_record-start : goal.slice_bounds-put_record-start
slice_bounds-put_record-start c = search puts

pub slice_bounds-put_record-end : goal.slice_bounds-put_record-end
slice_bounds-put_record-end c = search puts

pub returns : goal.returns
returns c = search puts

-- `listings::directory_entries::put_entry` meets its contract: nothing where it is skipped, else its record. Assumes nothing.
use borrow.Author.Rules.{rules}
use Rattle.listings.proofs.EntryLaws.{seen-order, seen-ends, put-left-out, put-recorded}
use Rattle.listings.proofs.directory_entries.put_entry.Goals as goal

ruleset writes = (seen-order, seen-ends, put-left-out, put-recorded, rules)

pub returns-then-e : goal.returns-then-e
returns-then-e c = search writes

pub slice_bounds-put_record-count : goal.slice_bounds-put_record-count
slice_bounds-put_record-count c = search writes

pub slice_bounds-put_record-start : goal.slice_bounds-put_record-start
slice_bounds-put_record-start c = search writes

pub slice_bounds-put_record-end : goal.slice_bounds-put_record-end
slice_bounds-put_record-end c = search writes

pub returns : goal.returns
returns c = search writes

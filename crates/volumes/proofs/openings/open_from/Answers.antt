-- `volumes::openings::open_from` meets its contract: the anchor and the scan say which case of the definition holds. Assumes nothing.
use borrow.Author.Rules.{rules}
use Rattle.volumes.proofs.OpeningLaws.{scan-few, scan-fits, anchor-not, anchor-stops, anchor-leads}
use Rattle.volumes.proofs.openings.open_from.Goals as goal

ruleset opens = (scan-few, scan-fits, anchor-not, anchor-stops, anchor-leads, rules)

pub overflow_add-count : goal.overflow_add-count
overflow_add-count c = search opens

pub open_kept-requires : goal.open_kept-requires
open_kept-requires c = search opens

pub returns-in-Err : goal.returns-in-Err
returns-in-Err c = search opens

pub returns-in-Err-kept : goal.returns-in-Err-kept
returns-in-Err-kept c = search opens

pub returns-in-Ok-kept : goal.returns-in-Ok-kept
returns-in-Ok-kept c = search opens

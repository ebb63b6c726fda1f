-- `listings::directory_entries::record_size` meets its contract: nothing for an entry that is skipped. Assumes nothing.
use Rattle.disc.proofs.PickLaws.{picks}
use Rattle.listings.proofs.directory_entries.record_size.Goals as goal

ruleset sizes = (picks)

pub is_skipped-requires : goal.is_skipped-requires
is_skipped-requires c = search sizes

pub returns-then-is_skipped : goal.returns-then-is_skipped
returns-then-is_skipped c = search sizes

pub overflow_add-result : goal.overflow_add-result
overflow_add-result c = search sizes

pub returns : goal.returns
returns c = search sizes

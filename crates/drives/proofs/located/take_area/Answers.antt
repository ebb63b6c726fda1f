use borrow.Author.Rules.{rules}
use Rattle.drives.proofs.EntryLaws.{area-lands}
use Rattle.drives.proofs.HeadLaws.{head-begins}
use Rattle.drives.proofs.located.take_area.Goals as goal

ruleset areas = (area-lands, head-begins, rules)

pub begin-requires : goal.begin-requires
begin-requires c = search areas

pub take_bytes-listed-requires : goal.take_bytes-listed-requires
take_bytes-listed-requires c = search areas

pub of_entry-x-requires : goal.of_entry-x-requires
of_entry-x-requires c = search areas

pub accept-requires : goal.accept-requires
accept-requires c = search areas

pub shape_of-row : goal.shape_of-row
shape_of-row c = search areas

pub returns : goal.returns
returns c = search areas

-- `records_c::file_records::no_fields` meets its contract: all zeros. Assumes nothing.
use Rattle.records_c.proofs.file_records.no_fields.Goals as goal

pub returns : goal.returns
returns c = rw (c.no_tag.ensures, c.no_icb_tag.ensures)

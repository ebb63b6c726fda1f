-- `records_c::dstrings::records_decode_dstring_field` meets its contract: the name is written. Assumes nothing.
use borrow.Author.Rules.{rules}
use Rattle.records_c.proofs.DecodeLaws.{decode_is}
use Rattle.records_c.proofs.dstrings.records_decode_dstring_field.Goals as goal

pub returns : goal.returns
returns c = search (decode_is, rules)

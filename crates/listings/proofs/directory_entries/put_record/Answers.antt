-- `listings::directory_entries::put_record` meets its contract: the name behind 21 bytes, and over these the head. Assumes nothing.
use borrow.Author.Rules.{rules}
use Rattle.listings.proofs.EntryLaws.{record-short, record-cut, record-put}
use Rattle.listings.proofs.directory_entries.put_record.Goals as goal

ruleset records = (record-short, record-cut, record-put, rules)

pub returns : goal.returns
returns c = record-put _ _ _ _ c.put_name-n.ensures (search rules) c.if-out-lt-HEAD.false c.if-out-n.false c.directory_bit.ensures c.record_head-h.ensures c.copy.ensures

-- `entries::file_entries::FileEntry::parse` meets its contract: the gate's answer says which case of `read_entry` holds. Assumes nothing.
use borrow.Author.Rules.{rules}
use Rattle.disc.proofs.PassLaws.{passed}
use Rattle.tags.proofs.HeadLaws.{head-long}
use Rattle.entries.proofs.EntryLaws.{entry-no, entry-yes}
use Rattle.entries.proofs.file_entries.FileEntry.parse.Goals as goal

ruleset reads = (head-long, entry-no, entry-yes, rules)

pub entry_behind-requires : goal.entry_behind-requires
entry_behind-requires c = search reads

pub returns-in_err-t : goal.returns-in_err-t
returns-in_err-t c = passed c.from_residual.ensures.1 (entry-no _ _ c.entry_id.ensures c.read_head.ensures c.in_err-t.was)

pub returns : goal.returns
returns c = search reads

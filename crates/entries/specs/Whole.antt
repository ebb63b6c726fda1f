-- What is known of an accepted file entry.
use Rattle.std.specs.Prelude.{Bool, List, ◌≡◌, ℕ, ◌+◌, ◌≤◌, eqb, length}
use Rattle.disc.specs.Choice.{pick}
use Rattle.tags.specs.Heads.{Passed}
use Rattle.tags.specs.declared.DescriptorTag.{DescriptorTag}
use Rattle.entries.specs.FileEntries.{plain_tail, extended_tail, entry_of, entry_id}
use Rattle.entries.specs.IcbTags.{icb_tag_of}
use Rattle.entries.specs.declared.file_entries.EntryTail.{EntryTail}
use Rattle.entries.specs.declared.file_entries.FileEntry.{FileEntry}

-- the fields from 64 on, by the tag's id
abbrev pub tail_of : List ℕ → DescriptorTag → EntryTail
tail_of s t = pick (eqb t.id 266) (extended_tail s) (plain_tail s)

-- e is the entry at the front of s: it passed the gate, its fields are those of the bytes, its kind is known, and its area lies within s
pub record WholeEntry (check : Bool) (s : List ℕ) (e : FileEntry) : Type 0 where
  pub head : Passed check s (entry_id s) 176 e.tag
  pub fields : e ≡ entry_of s e.tag (icb_tag_of s 16) (tail_of s e.tag)
  pub known : e.kind ≤ 3
  pub inside : e.area_at + e.area_length ≤ length s

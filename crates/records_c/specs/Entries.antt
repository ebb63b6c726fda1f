-- The entry of a file as it crosses to C, which an enum can't.
use Rattle.std.specs.Prelude.{ℕ, Bool, true, false, Option, Some, None}
use Rattle.disc.specs.Replies.{Answer}
use Rattle.entries.specs.Answers.{no_entry}
use Rattle.entries.specs.declared.file_entries.FileEntry.{FileEntry}
use Rattle.records_c.specs.declared.file_records.EntryFields.{EntryFields}
use Rattle.records_c.specs.declared.file_records.EntryAnswer.{EntryAnswer}

-- Whether there is an object size, and which: 0 where there is none.
abbrev pub has_size : Option ℕ → Bool
has_size (Some n) = true
has_size None = false

abbrev pub size_in : Option ℕ → ℕ
size_in (Some n) = n
size_in None = 0

-- Every field of an entry.
abbrev pub fields_of : FileEntry → EntryFields
fields_of e = record {
  tag = e.tag;
  icb_tag = e.icb_tag;
  uid = e.uid;
  gid = e.gid;
  permissions = e.permissions;
  file_link_count = e.file_link_count;
  record_format = e.record_format;
  record_display_attributes = e.record_display_attributes;
  record_length = e.record_length;
  information_length = e.information_length;
  logical_blocks_recorded = e.logical_blocks_recorded;
  has_object_size = has_size e.object_size;
  object_size = size_in e.object_size;
  length_of_extended_attributes = e.length_of_extended_attributes;
  length_of_allocation_descriptors = e.length_of_allocation_descriptors;
  kind = e.kind;
  area_at = e.area_at;
  area_length = e.area_length;
}

-- All zeros.
abbrev pub no_fields : EntryFields
no_fields = fields_of no_entry

-- The answer with the entry's fields.
abbrev pub fields_answer : Answer FileEntry → EntryAnswer
fields_answer a = record { answer = a.number; value = fields_of a.value }

-- The entry of a file, plain (ECMA-167 4/14.9) or extended (4/14.17): RULES 6.3 to 6.8.
use Rattle.std.specs.Prelude.{ℕ, ◌+◌, ◌%◌, Bool, List, length, eqb, ltb, Some, None, Result, Ok, Err}
use Rattle.disc.specs.Choice.{pick}
use Rattle.disc.specs.declared.refusals.Refusal.TheVariants.{Malformed}
use Rattle.records.specs.Bytes.{byte, u16at, u32at, u64at}
use Rattle.tags.specs.Tags.{read_head}
use Rattle.tags.specs.declared.DescriptorTag.{DescriptorTag}
use Rattle.entries.specs.IcbTags.{icb_tag_of}
use Rattle.entries.specs.declared.icb_tags.IcbTag.{IcbTag}
use Rattle.entries.specs.declared.file_entries.EntryTail.{EntryTail}
use Rattle.entries.specs.declared.file_entries.FileEntry.{FileEntry}
use Rattle.disc.specs.declared.refusals.Refusal.{Refusal}

-- the fields from 64 on of a plain entry (4/14.9.11 to 14.9.20) and of an extended one (4/14.17.11 to 14.17.24)
unfoldable pub plain_tail : List ℕ → EntryTail
plain_tail s = record {
  prefix = 176;
  logical_blocks_recorded = u64at s 64;
  object_size = None;
  attributes = u32at s 168;
  descriptors = u32at s 172;
}

unfoldable pub extended_tail : List ℕ → EntryTail
extended_tail s = record {
  prefix = 216;
  logical_blocks_recorded = u64at s 72;
  object_size = Some (u64at s 64);
  attributes = u32at s 208;
  descriptors = u32at s 212;
}

-- the kind of descriptors, the low three bits of the ICB tag's flags (4/14.6.8): 0 short, 1 long, 2 ext, 3 embedded
abbrev pub kind_of : IcbTag → ℕ
kind_of i = i.flags % 8

-- every field at its offset (4/14.9.1 to 14.9.10 and 14.17.1 to 14.17.10 are alike); the area follows the attributes
unfoldable pub entry_of : List ℕ → DescriptorTag → IcbTag → EntryTail → FileEntry
entry_of s t i d = record {
  tag = t;
  icb_tag = i;
  uid = u32at s 36;
  gid = u32at s 40;
  permissions = u32at s 44;
  file_link_count = u16at s 48;
  record_format = byte s 50;
  record_display_attributes = byte s 51;
  record_length = u32at s 52;
  information_length = u64at s 56;
  logical_blocks_recorded = d.logical_blocks_recorded;
  object_size = d.object_size;
  length_of_extended_attributes = d.attributes;
  length_of_allocation_descriptors = d.descriptors;
  kind = kind_of i;
  area_at = d.prefix + d.attributes;
  area_length = d.descriptors;
}

-- the kind must be at most 3, and attributes and area must lie within the bytes given
unfoldable pub entry_with : List ℕ → DescriptorTag → IcbTag → EntryTail → Result FileEntry Refusal
entry_with s t i d =
    pick (ltb 3 (kind_of i)) (Err Malformed)
    (pick (ltb (length s) (d.prefix + d.attributes + d.descriptors)) (Err Malformed)
    (Ok (entry_of s t i d)))

-- the id that an entry must have: 266 (extended) if that is recorded, otherwise 261 (plain)
abbrev pub entry_id : List ℕ → ℕ
entry_id s = pick (eqb (u16at s 0) 266) 266 261

-- an extended entry has at least 216 bytes
unfoldable pub entry_behind : List ℕ → DescriptorTag → Result FileEntry Refusal
entry_behind s t =
    pick (eqb t.id 266)
    (pick (ltb (length s) 216) (Err Malformed) (entry_with s t (icb_tag_of s 16) (extended_tail s)))
    (entry_with s t (icb_tag_of s 16) (plain_tail s))

-- after the gate: its refusal, or the entry
abbrev pub entry_after : List ℕ → Result DescriptorTag Refusal → Result FileEntry Refusal
entry_after s (Err r) = Err r
entry_after s (Ok t) = entry_behind s t

-- reading an entry at the front of s: at least 176 bytes
unfoldable pub read_entry : Bool → List ℕ → Result FileEntry Refusal
read_entry check s = entry_after s (read_head check s (entry_id s) 176)

-- file type 4 is a directory (4/14.6.6)
abbrev pub is_directory : FileEntry → Bool
is_directory e = eqb e.icb_tag.file_type 4

abbrev pub is_extended : FileEntry → Bool
is_extended e = eqb e.tag.id 266

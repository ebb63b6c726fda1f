-- The file identifier, one entry of a directory (ECMA-167 4/14.4): RULES 8.3 to 8.6.
use Rattle.std.specs.Prelude.{ℕ, ◌+◌, ◌*◌, ◌/◌, ◌%◌, Bool, List, length, take, drop, eqb, ltb, Result, Ok, Err}
use Rattle.disc.specs.Choice.{pick}
use Rattle.disc.specs.Ask.{Outcome}
use Rattle.disc.specs.Ask.Outcome.{answered, refused}
use Rattle.disc.specs.declared.refusals.Refusal.TheVariants.{Malformed}
use Rattle.records.specs.Bytes.{byte, u16at}
use Rattle.tags.specs.Tags.{read_head, gated}
use Rattle.records.specs.Allocations.{long_of}
use Rattle.tags.specs.declared.DescriptorTag.{DescriptorTag}
use Rattle.names.specs.Names.{name_of, size_of}
use Rattle.identifiers.specs.declared.FileIdentifierDescriptor.{FileIdentifierDescriptor}
use Rattle.disc.specs.declared.refusals.Refusal.{Refusal}

-- ---- the name

-- where it starts: after the implementation use, whose length is at 36 (4/14.4.6 to 14.4.8); its own length is at 19 (4/14.4.4)
unfoldable pub name_at : List ℕ → ℕ
name_at s = 38 + u16at s 36

unfoldable pub name_end : List ℕ → ℕ
name_end s = name_at s + byte s 19

-- the d-string as it is recorded
unfoldable pub recorded_name : List ℕ → List ℕ
recorded_name s = take (byte s 19) (drop (name_at s) s)

-- the next identifier starts at the end of this one, rounded up to 4 (4/14.4.9)
abbrev pub rounded : ℕ → ℕ
rounded end = (end + 3) / 4 * 4

unfoldable pub next_at : List ℕ → ℕ
next_at s = rounded (name_end s)

-- ---- the record

-- every field at its offset (4/14.4.1 to 14.4.6); the name's n bytes stand at `at`, and it has `size` bytes of UTF-8
unfoldable pub identifier_of : List ℕ → DescriptorTag → ℕ → ℕ → ℕ → FileIdentifierDescriptor
identifier_of s t at n size = record {
  tag = t;
  file_version_number = u16at s 16;
  file_characteristics = byte s 18;
  icb = long_of s 20;
  name_at = at;
  name_length = n;
  name_size = size;
  total_size = rounded (at + n);
}

-- a bad d-string refuses the identifier
unfoldable pub identifier_sized : List ℕ → DescriptorTag → ℕ → ℕ → Result ℕ Refusal → Outcome FileIdentifierDescriptor
identifier_sized s t at n (Err why) = refused why
identifier_sized s t at n (Ok size) = answered (identifier_of s t at n size)

-- before that, a name that ends past the bytes given is refused
unfoldable pub identifier_named : List ℕ → DescriptorTag → Outcome FileIdentifierDescriptor
identifier_named s t =
    pick (ltb (length s) (name_end s)) (refused Malformed)
    (identifier_sized s t (name_at s) (byte s 19) (size_of (name_of (recorded_name s))))

-- reading an identifier at the front of s: id 257, at least 38 bytes; its body is checked in all of s, the directory's bytes from this entry on
unfoldable pub read_identifier : Bool → List ℕ → Outcome FileIdentifierDescriptor
read_identifier check s = gated (read_head check s 257 38) (identifier_named s)

-- ---- the characteristics (4/14.4.3)

-- a bit by its weight
abbrev pub bit : ℕ → ℕ → Bool
bit weight b = eqb (b / weight % 2) 1

abbrev pub is_directory : FileIdentifierDescriptor → Bool
is_directory f = bit 2 f.file_characteristics

abbrev pub is_deleted : FileIdentifierDescriptor → Bool
is_deleted f = bit 4 f.file_characteristics

abbrev pub is_parent : FileIdentifierDescriptor → Bool
is_parent f = bit 8 f.file_characteristics

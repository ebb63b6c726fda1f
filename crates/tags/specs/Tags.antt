-- The descriptor tag, 16 bytes (ECMA-167 3/7.2), and the header of an allocation extent, 24 (4/14.5): RULES 3.4 to 3.7, 3.14, 3.15, 3.23, 3.24 and 9.7.
use Rattle.std.specs.Prelude.{ℕ, ◌+◌, ◌%◌, Bool, ◌&&◌, ◌||◌, List, ◌∷◌, ◌++◌, length, take, drop, leb, eqb, Result, Ok, Err}
use Rattle.disc.specs.Choice.{pick}
use Rattle.disc.specs.Ask.{Outcome}
use Rattle.disc.specs.Ask.Outcome.{refused}
use Rattle.disc.specs.declared.refusals.Refusal.TheVariants.{Malformed, BadCrc}
use Rattle.crcs.specs.Crcs.{crc_of}
use Rattle.records.specs.Bytes.{byte, u16at, u32at, le16, le32, sum4}
use Rattle.tags.specs.declared.DescriptorTag.{DescriptorTag}
use Rattle.tags.specs.declared.AllocationExtentDescriptor.{AllocationExtentDescriptor}
use Rattle.disc.specs.declared.refusals.Refusal.{Refusal}

-- ---- the tag

-- every field at its offset (3/7.2.1 to 7.2.8); the checksum and the reserved byte, at 4 and 5, are checked and not kept
abbrev pub tag_of : List ℕ → DescriptorTag
tag_of s = record {
  id = u16at s 0;
  descriptor_version = u16at s 2;
  serial_number = u16at s 6;
  crc = u16at s 8;
  crc_length = u16at s 10;
  location = u32at s 12;
}

-- the ids that are known: of the volume structure (3/7.2.1), and of what is recorded in a partition (4/7.2.1)
abbrev pub of_volume : ℕ → Bool
of_volume id = leb 1 id && leb id 9

abbrev pub of_partition : ℕ → Bool
of_partition id = leb 256 id && leb id 266

abbrev pub listed : ℕ → Bool
listed id = of_volume id || of_partition id

-- the sum, modulo 256, of the first 16 bytes except the fifth (3/7.2.3)
abbrev pub checksum : List ℕ → ℕ
checksum s = (sum4 s 0 + byte s 5 + byte s 6 + byte s 7 + sum4 s 8 + sum4 s 12) % 256

-- id, reserved byte and checksum, in the order of the checks
abbrev pub accepted : List ℕ → Bool
accepted s = listed (u16at s 0) && eqb (byte s 5) 0 && eqb (byte s 4) (checksum s)

-- reading a tag at the front of s
abbrev pub read_tag : List ℕ → Result DescriptorTag Refusal
read_tag s = pick (leb 16 (length s) && accepted s) (Ok (tag_of s)) (Err Malformed)

-- a tag's bytes with the checksum k, and with the right one
abbrev pub tag_bytes : DescriptorTag → ℕ → List ℕ
tag_bytes t k =
    le16 t.id ++ le16 t.descriptor_version ++ k ∷ 0 ∷ le16 t.serial_number ++ le16 t.crc ++ le16 t.crc_length ++
    le32 t.location

abbrev pub encode_tag : DescriptorTag → List ℕ
encode_tag t = tag_bytes t (checksum (tag_bytes t 0))

-- ---- the place check

-- what a tag's location must be: for an id recorded in a partition, the number of the logical block there (4/7.2.8); for any other id, the sector's
-- (3/7.2.8)
unfoldable pub place_of : ℕ → ℕ → ℕ → ℕ
place_of id sector block = pick (of_partition id) block sector

-- a tag is in place if its location is that number; `sector` and `block` are those that hold its first byte
unfoldable pub in_place : DescriptorTag → ℕ → ℕ → Bool
in_place t sector block = eqb t.location (place_of t.id sector block)

-- ---- the body

-- a descriptor's body is right if as many bytes as its CRC length follow the tag, and have the tag's CRC (3/7.2.6, 3/7.2.7)
unfoldable pub body_right : List ℕ → DescriptorTag → Bool
body_right s t = leb (16 + t.crc_length) (length s) && eqb (crc_of (take t.crc_length (drop 16 s))) t.crc

-- ---- the gate that every descriptor goes through

-- the tag, unless bodies are checked and its body in s is wrong
unfoldable pub with_body : Bool → List ℕ → Result DescriptorTag Refusal → Result DescriptorTag Refusal
with_body check s (Err r) = Err r
with_body check s (Ok t) = pick check (pick (body_right s t) (Ok t) (Err BadCrc)) (Ok t)

-- the tag, unless it has another id than the descriptor's (3/7.2.1, 4/7.2.1)
unfoldable pub with_id : ℕ → Result DescriptorTag Refusal → Result DescriptorTag Refusal
with_id id (Err r) = Err r
with_id id (Ok t) = pick (eqb t.id id) (Ok t) (Err Malformed)

-- the tag of the descriptor at the front of s, with this id and at least `size` bytes; refused, in this order, for too few bytes, a bad tag, a wrong
-- body where bodies are checked, or another id
unfoldable pub read_head : Bool → List ℕ → ℕ → ℕ → Result DescriptorTag Refusal
read_head check s id size = pick (leb size (length s)) (with_id id (with_body check s (read_tag s))) (Err Malformed)

-- what comes after the gate: its refusal passes through
abbrev pub gated : {A : Type 0} → Result DescriptorTag Refusal → (DescriptorTag → Outcome A) → Outcome A
gated (Err r) f = refused r
gated (Ok t) f = f t

-- ---- the header of an allocation extent: id 258, 24 bytes

-- after the gate: its refusal, or the header
unfoldable pub aed_after : List ℕ → Result DescriptorTag Refusal → Result AllocationExtentDescriptor Refusal
aed_after s (Err r) = Err r
aed_after s (Ok t) = Ok (record { tag = t; previous_allocation_extent_location = u32at s 16; length_of_allocation_descriptors = u32at s 20 })

unfoldable pub read_aed : Bool → List ℕ → Result AllocationExtentDescriptor Refusal
read_aed check s = aed_after s (read_head check s 258 24)

abbrev pub encode_aed : AllocationExtentDescriptor → List ℕ
encode_aed a = encode_tag a.tag ++ le32 a.previous_allocation_extent_location ++ le32 a.length_of_allocation_descriptors

-- Which descriptors an image has that was written, and what each is to a reader: RULES 15.11 and 15.12, from the tables of docs/LAYOUT.md, with no word of
-- how `Layout` puts the image together.
use Rattle.std.specs.Prelude.{ℕ, zero, suc, ◌+◌, ◌-◌, ◌*◌, ◌/◌, ◌<◌, ◌≡◌, true, List, [], ◌∷◌, ◌++◌, length, take, drop, replicate, eqb, None, Ok}
use Rattle.disc.specs.Choice.{pick}
use Rattle.disc.specs.Ask.{Disc}
use Rattle.disc.specs.Ask.Held.{holds}
use Rattle.records.specs.Bytes.{u32at}
use Rattle.tags.specs.Tags.{read_tag, body_right, in_place}
use Rattle.tags.specs.declared.DescriptorTag.{DescriptorTag}
use Rattle.areas.specs.Areas.{extent}
use Rattle.areas.specs.declared.AllocExtent.{AllocExtent}
use Rattle.writers.specs.Layout.{blocks_of}

-- ---- the table: docs/LAYOUT.md 2

-- a descriptor by the sector that it stands in, and by its id
pub record Slot : Type 0 where
  pub sector : ℕ
  pub id : ℕ

abbrev pub slot : ℕ → ℕ → Slot
slot sector id = record { sector = sector; id = id }

-- a volume descriptor sequence from a sector on: primary volume, implementation use volume, partition, logical volume, unallocated space, terminating
abbrev pub sequence_slots : ℕ → List Slot
sequence_slots at = slot at 1 ∷ slot (at + 1) 4 ∷ slot (at + 2) 5 ∷ slot (at + 3) 6 ∷ slot (at + 4) 7 ∷ slot (at + 5) 8 ∷ []

-- so many file entries, one a sector
unfoldable pub entry_slots : ℕ → ℕ → List Slot
entry_slots at zero = []
entry_slots at (suc n) = slot at 261 ∷ entry_slots (at + 1) n

-- the descriptors of an image of so many sectors and files: the main sequence and the reserve; integrity, and its terminating descriptor; the first anchor;
-- the file set; the root's entry; the files'; the second anchor, last
abbrev pub slots : ℕ → ℕ → List Slot
slots total files =
    sequence_slots 32 ++ sequence_slots 48 ++ slot 64 9 ∷ slot 65 8 ∷ slot 256 2 ∷ slot 272 256 ∷ slot 274 261 ∷ (entry_slots 288 files ++ slot (total - 1) 2 ∷ [])

-- ---- what each is to a reader

-- the bytes s begin with a descriptor of this id, whose first byte stands in sector n: its tag is read; its body is right by the reader's own check; the tag is
-- in place by the reader's own, block 0 being sector 272
pub record Sound (id n : ℕ) (s : List ℕ) (t : DescriptorTag) : Type 0 where
  pub read : read_tag s ≡ Ok t
  pub named : t.id ≡ id
  pub right : body_right s t ≡ true
  pub placed : in_place t n (n - 272) ≡ true

-- the sector of a slot is there, holds such a descriptor, and nothing but zeros behind the body that the CRC is of
pub record Standing (d : Disc) (x : Slot) : Type 0 where
  pub bytes : List ℕ
  pub tag : DescriptorTag
  pub there : d x.sector ≡ holds bytes
  pub sound : Sound x.id x.sector bytes tag
  pub whole : drop (16 + tag.crc_length) bytes ≡ replicate (2032 - tag.crc_length) 0

-- every slot of a table
unfoldable pub AllStanding : Disc → List Slot → Type 0
AllStanding d [] = Unit {0}
AllStanding d (x ∷ xs) = Standing d x × AllStanding d xs

-- ---- the sectors that hold nothing

-- so many sectors from one on
pub record Span : Type 0 where
  pub first : ℕ
  pub count : ℕ

abbrev pub span : ℕ → ℕ → Span
span first count = record { first = first; count = count }

-- of an image of so many sectors and files, whose bytes take so many: all that hold neither a slot, the recognition sequence (16 to 18), the directory (280 to
-- 287) nor a file's bytes (from 352 on)
abbrev pub blank_spans : ℕ → ℕ → ℕ → List Span
blank_spans total files blocks =
    span 0 16 ∷ span 19 13 ∷ span 38 10 ∷ span 54 10 ∷ span 66 190 ∷ span 257 15 ∷ span 273 1 ∷ span 275 5 ∷ span (288 + files) (64 - files) ∷
    span (352 + blocks) (total - 353 - blocks) ∷ []

-- every sector of every span is there, and is zeros
unfoldable pub AllBlank : Disc → List Span → Type 0
AllBlank d [] = Unit {0}
AllBlank d (x ∷ xs) = ((k : ℕ) → k < x.count → d (x.first + k) ≡ holds (replicate 2048 0)) × AllBlank d xs

-- ---- the file identifiers: docs/LAYOUT.md 1, the directory's bytes begin in sector 280

-- the identifier of so many bytes at place o of the directory: id 257, and its body, padding too, is all of it that stands behind its tag
pub record Identifying (image : List ℕ) (o size : ℕ) : Type 0 where
  pub tag : DescriptorTag
  pub sound : Sound 257 (280 + o / 2048) (drop (2048 * 280 + o) image) tag
  pub whole : 16 + tag.crc_length ≡ size

-- one for each name from place o on, each behind the one before it: a name of n bytes takes (n + 42) div 4 × 4
unfoldable pub AllIdentifying : List ℕ → ℕ → List (List ℕ) → Type 0
AllIdentifying image o [] = Unit {0}
AllIdentifying image o (n ∷ ns) = Identifying image o ((length n + 42) / 4 * 4) × AllIdentifying image (o + (length n + 42) / 4 * 4) ns

-- ---- two sectors of which one is the other but for the tag

pub record Alike (d : Disc) (a b : ℕ) : Type 0 where
  pub first : List ℕ
  pub second : List ℕ
  pub first-there : d a ≡ holds first
  pub second-there : d b ≡ holds second
  pub same : drop 16 first ≡ drop 16 second

-- ---- the logical volume integrity descriptor in sector 64 (3/10.10, UDF 2.2.6.4), of one partition of so many blocks and of so many files, by its own bytes

pub record Closed (d : Disc) (blocks files : ℕ) : Type 0 where
  pub bytes : List ℕ
  pub there : d 64 ≡ holds bytes
  pub type : u32at bytes 28 ≡ 1
  pub partitions : u32at bytes 72 ≡ 1
  pub free : u32at bytes 80 ≡ 0
  pub size : u32at bytes 84 ≡ blocks
  pub file-count : u32at bytes 120 ≡ files
  pub directory-count : u32at bytes 124 ≡ 1

-- ---- extents

-- A_i, the block where the i-th file begins: behind the 80 of the file structure and the files before it
abbrev pub block_of : List ℕ → ℕ → ℕ
block_of lengths i = 80 + blocks_of (take i lengths)

-- a file of so many bytes from a block on: one recorded extent of no partition's name, and none of an empty file
abbrev pub extents_for : ℕ → ℕ → List AllocExtent
extents_for size block = pick (eqb size 0) [] (extent size 0 block None ∷ [])

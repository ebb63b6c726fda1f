-- The layout of a vault that is written, sector by sector and field by field: UDF 1.02 (ECMA-167 as OSTA UDF narrows it), sectors of 2,048 bytes,
-- one partition that starts in sector 272: RULES 15.11, 15.12, and docs/LAYOUT.md in words. Clauses are of ECMA-167 unless they say UDF.
use Rattle.std.specs.Prelude.{ℕ, ◌+◌, ◌-◌, ◌*◌, ◌/◌, List, [], ◌∷◌, ◌++◌, eqb, length, take, drop, replicate}
use Rattle.disc.specs.Choice.{pick}
use Rattle.disc.specs.Images.{sectors_for}
use Rattle.records.specs.Bytes.{le16, le32}
use Rattle.crcs.specs.Crcs.{crc_of}
use Rattle.tags.specs.Tags.{encode_tag}
use Rattle.tags.specs.declared.DescriptorTag.{DescriptorTag}

-- ---- quantities

-- a sum over a list
unfoldable pub summed : {A : Type 0} → (A → ℕ) → List A → ℕ
summed f [] = 0
summed f (x ∷ xs) = f x + summed f xs

-- S, the sectors of all files, each of which starts in a sector of its own
abbrev pub blocks_of : List ℕ → ℕ
blocks_of lengths = summed sectors_for lengths

-- T, the sectors of the layout: 352 before the files, the files, and an anchor last, up to a multiple of 32, the block of a burner
abbrev pub total_for : ℕ → ℕ
total_for blocks = (384 + blocks) / 32 * 32

abbrev pub total : List ℕ → ℕ
total lengths = total_for (blocks_of lengths)

-- P, the blocks of the partition, which ends before the last anchor
abbrev pub partition_for : ℕ → ℕ
partition_for sectors = sectors - 273

-- the bytes of an identifier, of a name of n bytes
abbrev pub identifier_size : ℕ → ℕ
identifier_size n = (n + 42) / 4 * 4

-- D, the bytes of the directory: the parent's identifier, and one for each name
abbrev pub names_size : List (List ℕ) → ℕ
names_size names = summed (λ n. identifier_size (length n)) names

abbrev pub directory_size : List (List ℕ) → ℕ
directory_size names = 40 + names_size names

-- ---- bytes

abbrev pub zeros : ℕ → List ℕ
zeros n = replicate n 0

abbrev pub le64 : ℕ → List ℕ
le64 n = le32 n ++ le32 (n / 0x1_0000_0000)

-- sectors joined, sectors of zeros, and bytes with zeros up to the end of their sector
unfoldable pub joined : List (List ℕ) → List ℕ
joined [] = []
joined (s ∷ ss) = s ++ joined ss

abbrev pub blanks : ℕ → List (List ℕ)
blanks n = replicate n (zeros 2048)

unfoldable pub sector : List ℕ → List ℕ
sector s = s ++ zeros (2048 - length s)

-- ---- what makes a descriptor

-- its tag: version 2, no serial number, the CRC of the whole body (3/7.2, 4/7.2)
abbrev pub tag_for : ℕ → ℕ → List ℕ → DescriptorTag
tag_for id location body = record {
  id = id;
  descriptor_version = 2;
  serial_number = 0;
  crc = crc_of body;
  crc_length = length body;
  location = location;
}

unfoldable pub sealed : ℕ → ℕ → List ℕ → List ℕ
sealed id location body = encode_tag (tag_for id location body) ++ body

-- ---- records that recur

-- 2000-01-01 00:00:00, local time with offset 0 (1/7.3): there is no clock
abbrev pub stamp : List ℕ
stamp = 0x00 ∷ 0x10 ∷ 0xd0 ∷ 0x07 ∷ 1 ∷ 1 ∷ 0 ∷ 0 ∷ 0 ∷ 0 ∷ 0 ∷ 0 ∷ []

-- "OSTA Compressed Unicode" (1/7.2.1, UDF 2.1.2)
abbrev pub charspec : List ℕ
charspec =
    0 ∷ 0x4f ∷ 0x53 ∷ 0x54 ∷ 0x41 ∷ 0x20 ∷ 0x43 ∷ 0x6f ∷ 0x6d ∷ 0x70 ∷ 0x72 ∷ 0x65 ∷ 0x73 ∷ 0x73 ∷ 0x65 ∷ 0x64 ∷ 0x20 ∷ 0x55 ∷ 0x6e ∷ 0x69 ∷ 0x63 ∷ 0x6f ∷ 0x64 ∷ 0x65 ∷
    zeros 40

-- a d-string of 8-bit characters in a field of n bytes (1/7.2.12, UDF 2.1.3)
abbrev pub dstring : List ℕ → ℕ → List ℕ
dstring t n = 8 ∷ (t ++ zeros (n - 2 - length t) ++ (1 + length t) ∷ [])

-- "VAULT"
abbrev pub label : List ℕ
label = 0x56 ∷ 0x41 ∷ 0x55 ∷ 0x4c ∷ 0x54 ∷ []

-- "386D438000000000VAULT": the stamp's seconds, eight more digits; the same on every disc, where UDF 2.2.2.5 wants a value that isn't fixed
abbrev pub set_name : List ℕ
set_name = 0x33 ∷ 0x38 ∷ 0x36 ∷ 0x44 ∷ 0x34 ∷ 0x33 ∷ 0x38 ∷ 0x30 ∷ 0x30 ∷ 0x30 ∷ 0x30 ∷ 0x30 ∷ 0x30 ∷ 0x30 ∷ 0x30 ∷ 0x30 ∷ label

-- an entity identifier (1/7.4)
abbrev pub entity : List ℕ → List ℕ → List ℕ
entity name suffix = 0 ∷ (name ++ zeros (23 - length name) ++ suffix ++ zeros (8 - length suffix))

-- "*Strandlodge Vault"
abbrev pub implementation : List ℕ
implementation = entity (0x2a ∷ 0x53 ∷ 0x74 ∷ 0x72 ∷ 0x61 ∷ 0x6e ∷ 0x64 ∷ 0x6c ∷ 0x6f ∷ 0x64 ∷ 0x67 ∷ 0x65 ∷ 0x20 ∷ 0x56 ∷ 0x61 ∷ 0x75 ∷ 0x6c ∷ 0x74 ∷ []) []

-- "*OSTA UDF Compliant", revision 1.02, hard and soft write protect (UDF 2.1.4.3)
abbrev pub domain : List ℕ
domain = entity (0x2a ∷ 0x4f ∷ 0x53 ∷ 0x54 ∷ 0x41 ∷ 0x20 ∷ 0x55 ∷ 0x44 ∷ 0x46 ∷ 0x20 ∷ 0x43 ∷ 0x6f ∷ 0x6d ∷ 0x70 ∷ 0x6c ∷ 0x69 ∷ 0x61 ∷ 0x6e ∷ 0x74 ∷ []) (2 ∷ 1 ∷ 3 ∷ [])

-- "*UDF LV Info", revision 1.02 (UDF 2.2.7.1)
abbrev pub volume_info : List ℕ
volume_info = entity (0x2a ∷ 0x55 ∷ 0x44 ∷ 0x46 ∷ 0x20 ∷ 0x4c ∷ 0x56 ∷ 0x20 ∷ 0x49 ∷ 0x6e ∷ 0x66 ∷ 0x6f ∷ []) (2 ∷ 1 ∷ [])

-- "+NSR02" (3/10.5.5)
abbrev pub contents : List ℕ
contents = entity (0x2b ∷ 0x4e ∷ 0x53 ∷ 0x52 ∷ 0x30 ∷ 0x32 ∷ []) []

abbrev pub extent : ℕ → ℕ → List ℕ
extent size at = le32 size ++ le32 at

-- one block of partition 0
abbrev pub long_at : ℕ → List ℕ
long_at block = le32 2048 ++ le32 block ++ le16 0 ++ zeros 6

-- ---- recognition (2/9.1): structure type 0, the five letters, version 1

abbrev pub recognition : ℕ → ℕ → ℕ → ℕ → ℕ → List ℕ
recognition a b c d e = sector (0 ∷ a ∷ b ∷ c ∷ d ∷ e ∷ 1 ∷ [])

-- BEA01, NSR02, TEA01
abbrev pub recognitions : List (List ℕ)
recognitions = recognition 0x42 0x45 0x41 0x30 0x31 ∷ recognition 0x4e 0x53 0x52 0x30 0x32 ∷ recognition 0x54 0x45 0x41 0x30 0x31 ∷ []

-- ---- the volume's descriptors (3/10): what stands behind the tag

-- primary volume, id 1 (3/10.1)
unfoldable pub primary_body : List ℕ
primary_body =
    le32 0 ++  -- volume descriptor sequence number
    le32 0 ++  -- primary volume descriptor number
    dstring label 32 ++  -- volume identifier
    le16 1 ++ le16 1 ++  -- volume sequence number, and the highest
    le16 2 ++ le16 2 ++  -- interchange level, and the highest
    le32 1 ++ le32 1 ++  -- character set list, and the largest
    dstring set_name 128 ++  -- volume set identifier
    charspec ++  -- descriptor character set
    charspec ++  -- explanatory character set
    zeros 8 ++ zeros 8 ++  -- abstract, copyright notice
    zeros 32 ++  -- application identifier
    stamp ++  -- recording date and time
    implementation ++  -- implementation identifier
    zeros 64 ++  -- implementation use
    le32 0 ++  -- predecessor sequence location
    le16 0 ++  -- flags
    zeros 22  -- reserved

-- implementation use volume, id 4 (3/10.4, UDF 2.2.7)
unfoldable pub info_body : List ℕ
info_body =
    le32 1 ++  -- volume descriptor sequence number
    volume_info ++  -- implementation identifier
    charspec ++  -- LVI character set
    dstring label 128 ++  -- logical volume identifier
    zeros 108 ++  -- LV info 1, 2, 3
    implementation ++  -- implementation id
    zeros 128  -- implementation use

-- partition, id 5 (3/10.5)
unfoldable pub partition_body : ℕ → List ℕ
partition_body size =
    le32 2 ++  -- volume descriptor sequence number
    le16 1 ++  -- flags: allocated
    le16 0 ++  -- partition number
    contents ++  -- partition contents
    zeros 128 ++  -- contents use: no space tables
    le32 1 ++  -- access type: read only
    le32 272 ++  -- starting location
    le32 size ++  -- length
    implementation ++  -- implementation identifier
    zeros 128 ++  -- implementation use
    zeros 156  -- reserved

-- logical volume, id 6 (3/10.6)
unfoldable pub logical_body : List ℕ
logical_body =
    le32 3 ++  -- volume descriptor sequence number
    charspec ++  -- descriptor character set
    dstring label 128 ++  -- logical volume identifier
    le32 2048 ++  -- logical block size
    domain ++  -- domain identifier
    long_at 0 ++  -- contents use: the file set, block 0
    le32 6 ++  -- map table length
    le32 1 ++  -- number of partition maps
    implementation ++  -- implementation identifier
    zeros 128 ++  -- implementation use
    extent 8192 64 ++  -- integrity sequence extent
    1 ∷ 6 ∷ le16 1 ++ le16 0  -- a map of type 1: volume 1, partition 0 (3/10.7.2)

-- unallocated space, id 7 (3/10.8): none
unfoldable pub unallocated_body : List ℕ
unallocated_body =
    le32 4 ++  -- volume descriptor sequence number
    le32 0  -- number of allocation descriptors

-- terminating, id 8 (3/10.9)
unfoldable pub terminating_body : List ℕ
terminating_body = zeros 496

-- logical volume integrity, id 9 (3/10.10, UDF 2.2.6), of so many blocks and files
unfoldable pub integrity_body : ℕ → ℕ → List ℕ
integrity_body size files =
    stamp ++  -- recording date and time
    le32 1 ++  -- integrity type: close
    zeros 8 ++  -- next integrity extent
    le64 (16 + files) ++  -- contents use: the next unique id
    zeros 24 ++  -- contents use, rest
    le32 1 ++  -- number of partitions
    le32 46 ++  -- length of implementation use
    le32 0 ++  -- free space table
    le32 size ++  -- size table
    implementation ++  -- implementation id
    le32 files ++  -- number of files
    le32 1 ++  -- number of directories
    le16 0x0102 ++ le16 0x0102 ++ le16 0x0102  -- UDF revisions to read and to write with

-- anchor, id 2 (3/10.2)
unfoldable pub anchor_body : List ℕ
anchor_body =
    extent 32768 32 ++  -- main sequence
    extent 32768 48 ++  -- reserve sequence
    zeros 480  -- reserved

-- ---- the file structure's (4/14)

-- file set, id 256 (4/14.1)
unfoldable pub file_set_body : List ℕ
file_set_body =
    stamp ++  -- recording date and time
    le16 3 ++ le16 3 ++  -- interchange level, and the highest
    le32 1 ++ le32 1 ++  -- character set list, and the largest
    le32 0 ++  -- file set number
    le32 0 ++  -- file set descriptor number
    charspec ++  -- logical volume identifier character set
    dstring label 128 ++  -- logical volume identifier
    charspec ++  -- file set character set
    dstring label 32 ++  -- file set identifier
    zeros 32 ++ zeros 32 ++  -- copyright file, abstract file
    long_at 2 ++  -- root directory ICB: block 2
    domain ++  -- domain identifier
    zeros 16 ++  -- next extent
    zeros 48  -- reserved

-- file entry, id 261 (4/14.9): a file type and permissions, the bytes of the file, its unique id, and the block where it begins
unfoldable pub entry_body : ℕ → ℕ → ℕ → ℕ → ℕ → List ℕ
entry_body type permissions size unique block =
    le32 0 ++ le16 4 ++ le16 0 ++ le16 1 ++ 0 ∷ type ∷ zeros 6 ++ le16 0 ++  -- ICB tag (4/14.6): strategy 4, one entry; short descriptors
    le32 0xffff_ffff ++  -- uid
    le32 0xffff_ffff ++  -- gid
    le32 permissions ++  -- permissions
    le16 1 ++  -- file link count
    0 ∷ 0 ∷ le32 0 ++  -- record format, display attributes, length
    le64 size ++  -- information length
    le64 (sectors_for size) ++  -- logical blocks recorded
    stamp ++ stamp ++ stamp ++  -- access, modification, attributes
    le32 1 ++  -- checkpoint
    zeros 16 ++  -- extended attribute ICB
    implementation ++  -- implementation identifier
    le64 unique ++  -- unique id
    le32 0 ++  -- length of extended attributes
    le32 8 ++  -- length of allocation descriptors
    le32 size ++ le32 block  -- the short_ad: the whole file, recorded (4/14.14.1)

-- the root: type 4, read and search for all; its bytes stand in block 8
abbrev pub root_entry : ℕ → List ℕ
root_entry size = sealed 261 2 (entry_body 4 0x14a5 size 0 8)

-- a file in an entry of its own: type 5, read for all; an empty one has no block (4/14.14.1.2)
abbrev pub file_entry : ℕ → ℕ → ℕ → List ℕ
file_entry i size block = sealed 261 (16 + i) (entry_body 5 0x1084 size (16 + i) (pick (eqb size 0) 0 block))

-- file identifier, id 257 (4/14.4): characteristics, the block of its entry, and the name as it is recorded
unfoldable pub identifier_body : ℕ → ℕ → List ℕ → List ℕ
identifier_body characteristics block recorded =
    le16 1 ++  -- file version number
    characteristics ∷  -- file characteristics
    length recorded ∷  -- length of file identifier
    long_at block ++  -- ICB
    le16 0 ++  -- length of implementation use
    recorded ++  -- file identifier
    zeros ((38 + length recorded + 3) / 4 * 4 - (38 + length recorded))  -- padding

-- at place o of the directory, which stands in block 8
abbrev pub identifier_at : ℕ → ℕ → ℕ → List ℕ → List ℕ
identifier_at o characteristics block recorded = sealed 257 (8 + o / 2048) (identifier_body characteristics block recorded)

-- ---- the parts of the image

-- a volume descriptor sequence of 16 sectors from a sector on (3/8.4.2)
unfoldable pub sequence : ℕ → ℕ → List (List ℕ)
sequence at size =
    sector (sealed 1 at primary_body) ∷
    sector (sealed 4 (at + 1) info_body) ∷
    sector (sealed 5 (at + 2) (partition_body size)) ∷
    sector (sealed 6 (at + 3) logical_body) ∷
    sector (sealed 7 (at + 4) unallocated_body) ∷
    sector (sealed 8 (at + 5) terminating_body) ∷
    blanks 10

unfoldable pub anchor_at : ℕ → List ℕ
anchor_at at = sector (sealed 2 at anchor_body)

-- sectors 0 to 31: the recognition sequence stands in 16 to 18
unfoldable pub recognition_part : List (List ℕ)
recognition_part = blanks 16 ++ recognitions ++ blanks 13

-- 64 to 271: the integrity sequence, and the anchor in 256
unfoldable pub integrity_part : ℕ → ℕ → List (List ℕ)
integrity_part size files =
    sector (sealed 9 64 (integrity_body size files)) ∷
    sector (sealed 8 65 terminating_body) ∷
    (blanks 190 ++ anchor_at 256 ∷ blanks 15)

-- 272 to 279, blocks 0 to 7: the file set, and the root's entry in block 2
unfoldable pub root_part : ℕ → List (List ℕ)
root_part size =
    sector (sealed 256 0 file_set_body) ∷
    zeros 2048 ∷
    sector (root_entry size) ∷
    blanks 5

-- 0 to 279: of a partition of `size` blocks, `files` files and a directory of so many bytes
unfoldable pub front : ℕ → ℕ → ℕ → List (List ℕ)
front size files directory =
    recognition_part ++ sequence 32 size ++ sequence 48 size ++ integrity_part size files ++ root_part directory

-- the identifiers of the files from the i-th on, at place o of the directory: 8, the compression id (UDF 2.1.1), and the name
unfoldable pub identifiers : ℕ → ℕ → List (List ℕ) → List ℕ
identifiers i o [] = []
identifiers i o (n ∷ ns) = identifier_at o 0 (16 + i) (8 ∷ n) ++ identifiers (i + 1) (o + identifier_size (length n)) ns

-- behind that of the parent, which is the root itself (4/8.6)
unfoldable pub directory : List (List ℕ) → List ℕ
directory names = identifier_at 0 10 2 [] ++ identifiers 0 40 names

-- 280 to 287, blocks 8 to 15
unfoldable pub directory_part : List (List ℕ) → List ℕ
directory_part names = directory names ++ zeros (16384 - directory_size names)

-- the entries of the files from the i-th on, of which the first begins in a block
unfoldable pub entries : ℕ → ℕ → List ℕ → List (List ℕ)
entries i block [] = []
entries i block (n ∷ ns) = sector (file_entry i n block) ∷ entries (i + 1) (block + sectors_for n) ns

-- 288 to 351, blocks 16 to 79
unfoldable pub entries_part : List ℕ → List (List ℕ)
entries_part lengths = entries 0 80 lengths ++ blanks (64 - length lengths)

-- 352 on, block 80: the files, one behind another in the staging area, each from the start of a sector
unfoldable pub files_part : List ℕ → List ℕ → List ℕ
files_part [] staging = []
files_part (n ∷ ns) staging = take n staging ++ zeros (2048 * sectors_for n - n) ++ files_part ns (drop n staging)

-- ---- the whole image

unfoldable pub image : List (List ℕ) → List ℕ → List ℕ → List ℕ
image names lengths staging =
    joined (front (partition_for (total lengths)) (length names) (directory_size names)) ++
    directory_part names ++
    joined (entries_part lengths) ++
    files_part lengths staging ++
    zeros (2048 * (total lengths - 353 - blocks_of lengths)) ++
    anchor_at (total lengths - 1)

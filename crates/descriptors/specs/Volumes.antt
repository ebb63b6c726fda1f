-- The descriptors of a volume descriptor sequence, and the anchor that leads to it (ECMA-167 3/10): RULES 5.2 and 5.7 to 5.10. The first argument of
-- a reader says whether bodies are checked.
use Rattle.std.specs.Prelude.{ℕ, Bool, List, take, drop, replicate, Result, Ok, Err}
use Rattle.disc.specs.Ask.{Outcome}
use Rattle.disc.specs.Ask.Outcome.{answered, refused}
use Rattle.disc.specs.Moves.{over}
use Rattle.records.specs.Bytes.{u16at, u32at}
use Rattle.records.specs.Allocations.{extent_of, long_of}
use Rattle.tags.specs.Tags.{read_head, gated}
use Rattle.tags.specs.declared.DescriptorTag.{DescriptorTag}
use Rattle.names.specs.Names.{name_of_field}
use Rattle.descriptors.specs.declared.anchors.AnchorVolumeDescriptorPointer.{AnchorVolumeDescriptorPointer}
use Rattle.descriptors.specs.declared.primaries.PrimaryVolumeDescriptor.{PrimaryVolumeDescriptor}
use Rattle.descriptors.specs.declared.partitions.PartitionDescriptor.{PartitionDescriptor}
use Rattle.descriptors.specs.declared.logicals.LogicalVolumeDescriptor.{LogicalVolumeDescriptor}
use Rattle.disc.specs.declared.refusals.Refusal.{Refusal}

-- ---- anchor volume descriptor pointer: id 2, 32 bytes (3/10.2)

-- The extents of the two sequences (3/10.2.2, 10.2.3).
abbrev pub anchor_of : List ℕ → DescriptorTag → AnchorVolumeDescriptorPointer
anchor_of s t = record {
  tag = t;
  main_volume_descriptor_sequence = extent_of s 16;
  reserve_volume_descriptor_sequence = extent_of s 24;
}

-- After the gate: its refusal, or the anchor.
abbrev pub anchor_after : List ℕ → Result DescriptorTag Refusal → Result AnchorVolumeDescriptorPointer Refusal
anchor_after s (Err r) = Err r
anchor_after s (Ok t) = Ok (anchor_of s t)

-- Reading an anchor at the front of s.
unfoldable pub read_anchor : Bool → List ℕ → Result AnchorVolumeDescriptorPointer Refusal
read_anchor check s = anchor_after s (read_head check s 2 32)

-- ---- primary volume descriptor: id 1, 56 bytes (3/10.1)

-- Sequence number, descriptor number and the label's field as recorded (3/10.1.2 to 10.1.4).
abbrev pub primary_of : List ℕ → DescriptorTag → PrimaryVolumeDescriptor
primary_of s t = record {
  tag = t;
  volume_descriptor_sequence_number = u32at s 16;
  primary_volume_descriptor_number = u32at s 20;
  volume_identifier = take 32 (drop 24 s);
}

-- The label is the last check: a bad one refuses the descriptor (1/7.2.12).
abbrev pub labelled : {A : Type 0} → Outcome (List ℕ) → A → Outcome A
labelled (refused r) d = refused r
labelled (answered name) d = answered d

unfoldable pub primary_behind : List ℕ → DescriptorTag → Outcome PrimaryVolumeDescriptor
primary_behind s t = labelled (name_of_field (take 32 (drop 24 s))) (primary_of s t)

-- Reading a primary volume descriptor at the front of s.
unfoldable pub read_primary : Bool → List ℕ → Outcome PrimaryVolumeDescriptor
read_primary check s = gated (read_head check s 1 56) (primary_behind s)

-- ---- partition descriptor: id 5, 196 bytes (3/10.5)

-- Sequence number, flags, number, start and length in logical sectors (3/10.5.2 to 10.5.4, 10.5.8, 10.5.9).
abbrev pub partition_of : List ℕ → DescriptorTag → PartitionDescriptor
partition_of s t = record {
  tag = t;
  volume_descriptor_sequence_number = u32at s 16;
  partition_flags = u16at s 20;
  partition_number = u16at s 22;
  partition_starting_location = u32at s 188;
  partition_length = u32at s 192;
}

-- After the gate: its refusal, or the descriptor.
abbrev pub partition_after : List ℕ → Result DescriptorTag Refusal → Result PartitionDescriptor Refusal
partition_after s (Err r) = Err r
partition_after s (Ok t) = Ok (partition_of s t)

-- Reading a partition descriptor at the front of s.
unfoldable pub read_partition : Bool → List ℕ → Result PartitionDescriptor Refusal
read_partition check s = partition_after s (read_head check s 5 196)

-- ---- logical volume descriptor: id 6, 440 bytes (3/10.6)

-- The first 24 bytes of the map table, with zeros where there are fewer: room for four maps of type 1 (3/10.6.13, 10.7.2).
abbrev pub maps_in : List ℕ → List ℕ
maps_in s = over (drop 440 s) (replicate 24 0)

-- Sequence number, the label's field as recorded, block size, logical volume contents use (the place of the file set descriptor), and the map table:
-- its length in bytes, the number of maps, and its front (3/10.6.2, 10.6.4, 10.6.5, 10.6.7 to 10.6.9, 10.6.13; 4/3.1).
abbrev pub logical_of : List ℕ → DescriptorTag → LogicalVolumeDescriptor
logical_of s t = record {
  tag = t;
  volume_descriptor_sequence_number = u32at s 16;
  logical_volume_identifier = take 128 (drop 84 s);
  logical_block_size = u32at s 212;
  file_set_descriptor_location = long_of s 248;
  map_table_length = u32at s 264;
  number_of_partition_maps = u32at s 268;
  partition_maps = maps_in s;
}

unfoldable pub logical_behind : List ℕ → DescriptorTag → Outcome LogicalVolumeDescriptor
logical_behind s t = labelled (name_of_field (take 128 (drop 84 s))) (logical_of s t)

-- Reading a logical volume descriptor at the front of s.
unfoldable pub read_logical : Bool → List ℕ → Outcome LogicalVolumeDescriptor
read_logical check s = gated (read_head check s 6 440) (logical_behind s)

-- The answer number and the values of each enum answer: 0 and what was read, or the refusal's number and zeros. RULES 12.3.
use Rattle.std.specs.Prelude.{Result, replicate}
use Rattle.disc.specs.Replies.{Answer, answer_from, answer_in}
use Rattle.disc.specs.Ask.{Outcome}
use Rattle.records.specs.Allocations.{no_long}
use Rattle.tags.specs.Answers.{no_tag}
use Rattle.descriptors.specs.declared.anchors.AnchorVolumeDescriptorPointer.{AnchorVolumeDescriptorPointer}
use Rattle.descriptors.specs.declared.partitions.PartitionDescriptor.{PartitionDescriptor}
use Rattle.descriptors.specs.declared.primaries.PrimaryVolumeDescriptor.{PrimaryVolumeDescriptor}
use Rattle.descriptors.specs.declared.logicals.LogicalVolumeDescriptor.{LogicalVolumeDescriptor}
use Rattle.descriptors.specs.declared.file_sets.FileSetDescriptor.{FileSetDescriptor}
use Rattle.disc.specs.declared.refusals.Refusal.{Refusal}

-- Of an anchor.
abbrev pub anchor_answer : Result AnchorVolumeDescriptorPointer Refusal → Answer AnchorVolumeDescriptorPointer
anchor_answer = answer_from (record { tag = no_tag; main_volume_descriptor_sequence = record { length = 0; location = 0 }; reserve_volume_descriptor_sequence = record { length = 0; location = 0 } })

-- Of a partition descriptor.
abbrev pub partition_answer : Result PartitionDescriptor Refusal → Answer PartitionDescriptor
partition_answer = answer_from (record { tag = no_tag; volume_descriptor_sequence_number = 0; partition_flags = 0; partition_number = 0; partition_starting_location = 0; partition_length = 0 })

-- Of a primary volume descriptor.
abbrev pub no_primary : PrimaryVolumeDescriptor
no_primary = record {
  tag = no_tag;
  volume_descriptor_sequence_number = 0;
  primary_volume_descriptor_number = 0;
  volume_identifier = replicate 32 0;
}

abbrev pub primary_answer : Outcome PrimaryVolumeDescriptor → Answer PrimaryVolumeDescriptor
primary_answer = answer_in no_primary

-- Of a logical volume descriptor.
abbrev pub no_logical : LogicalVolumeDescriptor
no_logical = record {
  tag = no_tag;
  volume_descriptor_sequence_number = 0;
  logical_volume_identifier = replicate 128 0;
  logical_block_size = 0;
  file_set_descriptor_location = no_long;
  map_table_length = 0;
  number_of_partition_maps = 0;
  partition_maps = replicate 24 0;
}

abbrev pub logical_answer : Outcome LogicalVolumeDescriptor → Answer LogicalVolumeDescriptor
logical_answer = answer_in no_logical

-- Of a file set descriptor.
abbrev pub no_file_set : FileSetDescriptor
no_file_set = record { tag = no_tag; root_directory_icb = no_long }

abbrev pub file_set_answer : Outcome FileSetDescriptor → Answer FileSetDescriptor
file_set_answer = answer_in no_file_set

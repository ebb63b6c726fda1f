-- Every field of a record is in the range of its type.
use Rattle.std.specs.Prelude.{◌<◌, ◌^◌}
use Rattle.tags.specs.declared.DescriptorTag.{DescriptorTag}
use Rattle.tags.specs.declared.AllocationExtentDescriptor.{AllocationExtentDescriptor}

pub record TagValue (t : DescriptorTag) : Type 0 where
  pub id : t.id < 2 ^ 16
  pub version : t.descriptor_version < 2 ^ 16
  pub serial : t.serial_number < 2 ^ 16
  pub crc : t.crc < 2 ^ 16
  pub crc-length : t.crc_length < 2 ^ 16
  pub location : t.location < 2 ^ 32

pub record AedValue (a : AllocationExtentDescriptor) : Type 0 where
  pub tag : TagValue a.tag
  pub previous : a.previous_allocation_extent_location < 2 ^ 32
  pub area : a.length_of_allocation_descriptors < 2 ^ 32

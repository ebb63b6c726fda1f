-- What is known of an accepted descriptor: its tag, and each field by its place.
use Rattle.std.specs.Prelude.{Bool, List, ◌≡◌, ℕ}
use Rattle.disc.specs.Ask.Outcome.{answered}
use Rattle.names.specs.Names.{name_of_field}
use Rattle.tags.specs.Heads.{Passed}
use Rattle.descriptors.specs.FileSets.{file_set_of}
use Rattle.descriptors.specs.Volumes.{anchor_of, partition_of, primary_of, logical_of}
use Rattle.descriptors.specs.declared.anchors.AnchorVolumeDescriptorPointer.{AnchorVolumeDescriptorPointer}
use Rattle.descriptors.specs.declared.file_sets.FileSetDescriptor.{FileSetDescriptor}
use Rattle.descriptors.specs.declared.logicals.LogicalVolumeDescriptor.{LogicalVolumeDescriptor}
use Rattle.descriptors.specs.declared.partitions.PartitionDescriptor.{PartitionDescriptor}
use Rattle.descriptors.specs.declared.primaries.PrimaryVolumeDescriptor.{PrimaryVolumeDescriptor}

-- anchor (3/10.2)
pub record GoodAnchor (check : Bool) (s : List ℕ) (a : AnchorVolumeDescriptorPointer) : Type 0 where
  pub head : Passed check s 2 32 a.tag
  pub is : a ≡ anchor_of s a.tag

-- partition descriptor (3/10.5)
pub record GoodPartition (check : Bool) (s : List ℕ) (p : PartitionDescriptor) : Type 0 where
  pub head : Passed check s 5 196 p.tag
  pub is : p ≡ partition_of s p.tag

-- primary volume descriptor (3/10.1), whose label is a name
pub record GoodPrimary (check : Bool) (s : List ℕ) (d : PrimaryVolumeDescriptor) : Type 0 where
  pub head : Passed check s 1 56 d.tag
  pub is : d ≡ primary_of s d.tag
  pub name : List ℕ
  pub named : name_of_field d.volume_identifier ≡ answered name

-- logical volume descriptor (3/10.6), whose label is a name
pub record GoodLogical (check : Bool) (s : List ℕ) (d : LogicalVolumeDescriptor) : Type 0 where
  pub head : Passed check s 6 440 d.tag
  pub is : d ≡ logical_of s d.tag
  pub name : List ℕ
  pub named : name_of_field d.logical_volume_identifier ≡ answered name

-- file set descriptor (4/14.1)
pub record GoodFileSet (check : Bool) (s : List ℕ) (d : FileSetDescriptor) : Type 0 where
  pub head : Passed check s 256 416 d.tag
  pub is : d ≡ file_set_of s d.tag

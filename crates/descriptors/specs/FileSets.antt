-- The file set descriptor (ECMA-167 4/14.1): RULES 5.12.
use Rattle.std.specs.Prelude.{ℕ, Bool, List}
use Rattle.disc.specs.Ask.{Outcome}
use Rattle.disc.specs.Ask.Outcome.{answered}
use Rattle.records.specs.Allocations.{long_of}
use Rattle.tags.specs.Tags.{read_head, gated}
use Rattle.tags.specs.declared.DescriptorTag.{DescriptorTag}
use Rattle.descriptors.specs.declared.file_sets.FileSetDescriptor.{FileSetDescriptor}

-- The ICB of the root directory (4/14.1.15).
abbrev pub file_set_of : List ℕ → DescriptorTag → FileSetDescriptor
file_set_of s t = record { tag = t; root_directory_icb = long_of s 400 }

-- Reading a file set descriptor at the front of s, with bodies checked or not: id 256, 416 bytes.
unfoldable pub read_file_set : Bool → List ℕ → Outcome FileSetDescriptor
read_file_set check s = gated (read_head check s 256 416) (λ t. answered (file_set_of s t))

-- What is proved of an identifier that was read, for the contracts above. It follows from the definitions
-- (proofs/IdentifierLaws.antt).
use Rattle.std.specs.Prelude.{ℕ, ◌+◌, ◌*◌, ◌≤◌, ◌≡◌, List, length, Ok}
use Rattle.records.specs.Bytes.{byte, u16at}
use Rattle.tags.specs.Tags.{read_tag}
use Rattle.records.specs.Allocations.{long_of}
use Rattle.names.specs.Names.{name_of, written, size_of}
use Rattle.identifiers.specs.declared.FileIdentifierDescriptor.{FileIdentifierDescriptor}
use Rattle.identifiers.specs.Identifiers.{name_at, recorded_name, next_at}

-- f is the identifier at the front of s
pub record Whole (s : List ℕ) (f : FileIdentifierDescriptor) : Type 0 where
  pub tag : read_tag s ≡ Ok f.tag
  pub id : f.tag.id ≡ 257
  pub version : f.file_version_number ≡ u16at s 16
  pub characteristics : f.file_characteristics ≡ byte s 18
  pub icb : f.icb ≡ long_of s 20
  pub from : f.name_at ≡ name_at s
  pub recorded : f.name_length ≡ byte s 19
  pub named : size_of (name_of (recorded_name s)) ≡ Ok f.name_size
  pub size : f.name_size ≡ length (written (name_of (recorded_name s)))
  pub next : f.total_size ≡ next_at s
  pub head : 38 ≤ f.name_at
  pub within : f.name_at + f.name_length ≤ length s
  pub few : f.name_length ≤ 255
  pub brief : f.name_size ≤ 508
  pub short : f.name_size ≤ 2 * f.name_length
  pub on : f.name_at + f.name_length ≤ f.total_size
  pub near : f.total_size ≤ f.name_at + f.name_length + 3

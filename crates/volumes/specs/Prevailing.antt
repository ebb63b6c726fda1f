-- Which descriptor of a sequence prevails: RULES 5.6 and 5.20.
use Rattle.std.specs.Prelude.{Bool, true, [], List, ◌∷◌, ◌++◌, ◌≡◌, ℕ, ◌≤◌}
use Rattle.volumes.specs.Sequences.{Parsed}
use Rattle.volumes.specs.Sequences.Parsed.{logical, primary, partition}
use Rattle.volumes.specs.declared.sequences.Kept.{Kept}
use Rattle.disc.specs.Choice.{pick}

-- the three kinds
pub data Kind : Type 0 where
  primaries : Kind
  partitions : Kind
  logicals : Kind

-- the kind of a descriptor
abbrev pub kind_of : Parsed → Kind
kind_of (primary d) = primaries
kind_of (partition d) = partitions
kind_of (logical d) = logicals

-- its volume descriptor sequence number
abbrev pub number_of : Parsed → ℕ
number_of (primary d) = d.volume_descriptor_sequence_number
number_of (partition d) = d.volume_descriptor_sequence_number
number_of (logical d) = d.volume_descriptor_sequence_number

-- whether one of the kind was kept, and its number
abbrev pub has_of : Kind → Kept → Bool
has_of primaries k = k.has_primary
has_of partitions k = k.has_partition
has_of logicals k = k.has_logical

-- what is kept of its kind is this descriptor's
abbrev pub Keeps : Kept → Parsed → Type 0
Keeps k (primary d) = (k.has_primary ≡ true) × (k.primary_sequence ≡ d.volume_descriptor_sequence_number) × (k.label ≡ d.volume_identifier)
Keeps k (partition d) =
    (k.has_partition ≡ true)
    × (k.partition_sequence ≡ d.volume_descriptor_sequence_number)
    × (k.partition_number ≡ d.partition_number)
    × (k.partition_start ≡ d.partition_starting_location)
Keeps k (logical d) =
    (k.has_logical ≡ true)
    × (k.logical_sequence ≡ d.volume_descriptor_sequence_number)
    × (k.block_size ≡ d.logical_block_size)
    × (k.file_set ≡ d.file_set_descriptor_location)
    × (k.map_table_length ≡ d.map_table_length)
    × (k.map_count ≡ d.number_of_partition_maps)
    × (k.maps ≡ d.partition_maps)

-- the number of every descriptor of the kind in a list is P
unfoldable pub Every : Kind → (ℕ → Type 0) → List Parsed → Type 0
Every kind P [] = Unit {0}
Every kind P (p ∷ ps) = (kind_of p ≡ kind → P (number_of p)) × Every kind P ps

-- of the kind's descriptors in a list this one is kept: the numbers before it are Before its own, and those behind it Behind it
pub record Prevails (Before Behind : ℕ → ℕ → Type 0) (kind : Kind) (ps : List Parsed) (k : Kept) : Type 0 where
  pub before : List Parsed
  pub one : Parsed
  pub behind : List Parsed
  pub stands : ps ≡ before ++ (one ∷ behind)
  pub of-kind : kind_of one ≡ kind
  pub keeps : Keeps k one
  pub over-before : Every kind (λ n. Before n (number_of one)) before
  pub over-behind : Every kind (λ n. Behind n (number_of one)) behind

-- the numbers of each kind never fall
unfoldable pub Rising : List Parsed → Type 0
Rising [] = Unit {0}
Rising (p ∷ ps) = Every (kind_of p) (λ n. number_of p ≤ n) ps × Rising ps

-- a descriptor counts: of the partition descriptors those whose number is wanted
abbrev pub is_wanted : (ℕ → Bool) → Parsed → Bool
is_wanted wanted (primary d) = true
is_wanted wanted (partition d) = wanted d.partition_number
is_wanted wanted (logical d) = true

-- a list without the partition descriptors of other numbers
unfoldable pub wanted_in : (ℕ → Bool) → List Parsed → List Parsed
wanted_in wanted [] = []
wanted_in wanted (p ∷ ps) = pick (is_wanted wanted p) (p ∷ wanted_in wanted ps) (wanted_in wanted ps)

-- The volume descriptor sequence (ECMA-167 3/8.4.2), and which of its descriptors prevail: RULES 5.3 to 5.6 and 5.20.
use Rattle.std.specs.Prelude.{ℕ, zero, suc, ◌+◌, ⊤, Bool, true, false, List, [], ◌∷◌, replicate, eqb, leb, Result, Ok, Err}
use Rattle.disc.specs.Choice.{pick}
use Rattle.disc.specs.Ask.{Ask, Outcome, then}
use Rattle.disc.specs.Ask.Ask.{done, refuse, ask}
use Rattle.disc.specs.Ask.Outcome.{answered, refused}
use Rattle.disc.specs.Ran.{Ran}
use Rattle.disc.specs.declared.refusals.Refusal.{Refusal}
use Rattle.records.specs.Bytes.{u16at}
use Rattle.records.specs.Allocations.{no_long}
use Rattle.descriptors.specs.Volumes.{read_primary, read_partition, read_logical}
use Rattle.descriptors.specs.declared.primaries.PrimaryVolumeDescriptor.{PrimaryVolumeDescriptor}
use Rattle.descriptors.specs.declared.partitions.PartitionDescriptor.{PartitionDescriptor}
use Rattle.descriptors.specs.declared.logicals.LogicalVolumeDescriptor.{LogicalVolumeDescriptor}
use Rattle.volumes.specs.declared.sequences.Kept.{Kept}
use Rattle.volumes.specs.declared.sequences.Wanted.{Wanted}
use Rattle.volumes.specs.declared.sequences.Wanted.TheVariants.{Any, Numbered}
use Rattle.volumes.specs.declared.sequences.SectorTurn.{SectorTurn}
use Rattle.volumes.specs.declared.sequences.SectorTurn.TheVariants.{GoesOn, Over, Fails}
use Rattle.volumes.specs.declared.sequences.Scanned.{Scanned}
use Rattle.volumes.specs.declared.openings.How.{How}

-- ---- what is kept of the descriptors found so far

abbrev pub nothing : Kept
nothing = record {
  has_primary = false;
  primary_sequence = 0;
  label = replicate 32 0;
  has_partition = false;
  partition_sequence = 0;
  partition_number = 0;
  partition_start = 0;
  has_logical = false;
  logical_sequence = 0;
  block_size = 0;
  file_set = no_long;
  map_table_length = 0;
  map_count = 0;
  maps = replicate 24 0;
}

-- a descriptor of the sequence that is parsed
pub data Parsed : Type 0 where
  primary : PrimaryVolumeDescriptor → Parsed
  partition : PartitionDescriptor → Parsed
  logical : LogicalVolumeDescriptor → Parsed

-- which of two descriptors of one kind counts, by their volume descriptor sequence numbers (3/8.4.3, 10.1.2, 10.5.2, 10.6.2): whether the
-- later of the two does. The earlier one's number comes first
abbrev pub Order : Type 0
Order = ℕ → ℕ → Bool

-- the last one wins: the original's rule
abbrev pub latest : Order
latest earlier later = true

-- the highest number, and of equal ones the later
abbrev pub highest : Order
highest earlier later = leb earlier later

-- the order that was chosen on opening
abbrev pub order_of : How → Order
order_of how earlier later = pick how.highest (highest earlier later) (latest earlier later)

-- which partition descriptors are looked for, by their partition numbers (3/10.5.4): any, or those of one number
abbrev pub any_partition : ℕ → Bool
any_partition number = true

-- as the code says it
abbrev pub wanted_of : Wanted → ℕ → Bool
wanted_of Any number = any_partition number
wanted_of (Numbered n) number = eqb n number

-- a descriptor counts where none of its kind was kept before, or where it prevails over the one that was; a partition descriptor only where its
-- number is wanted
abbrev pub counts : Order → (ℕ → Bool) → Kept → Parsed → Bool
counts prevails wanted k (primary d) = pick k.has_primary (prevails k.primary_sequence d.volume_descriptor_sequence_number) true
counts prevails wanted k (partition d) =
    pick (wanted d.partition_number)
    (pick k.has_partition (prevails k.partition_sequence d.volume_descriptor_sequence_number) true)
    false
counts prevails wanted k (logical d) = pick k.has_logical (prevails k.logical_sequence d.volume_descriptor_sequence_number) true

-- it takes the place of the one that was kept of its kind
abbrev pub replacing : Kept → Parsed → Kept
replacing k (primary d) = record {
  has_primary = true;
  primary_sequence = d.volume_descriptor_sequence_number;
  label = d.volume_identifier;
  has_partition = k.has_partition;
  partition_sequence = k.partition_sequence;
  partition_number = k.partition_number;
  partition_start = k.partition_start;
  has_logical = k.has_logical;
  logical_sequence = k.logical_sequence;
  block_size = k.block_size;
  file_set = k.file_set;
  map_table_length = k.map_table_length;
  map_count = k.map_count;
  maps = k.maps;
}
replacing k (partition d) = record {
  has_primary = k.has_primary;
  primary_sequence = k.primary_sequence;
  label = k.label;
  has_partition = true;
  partition_sequence = d.volume_descriptor_sequence_number;
  partition_number = d.partition_number;
  partition_start = d.partition_starting_location;
  has_logical = k.has_logical;
  logical_sequence = k.logical_sequence;
  block_size = k.block_size;
  file_set = k.file_set;
  map_table_length = k.map_table_length;
  map_count = k.map_count;
  maps = k.maps;
}
replacing k (logical d) = record {
  has_primary = k.has_primary;
  primary_sequence = k.primary_sequence;
  label = k.label;
  has_partition = k.has_partition;
  partition_sequence = k.partition_sequence;
  partition_number = k.partition_number;
  partition_start = k.partition_start;
  has_logical = true;
  logical_sequence = d.volume_descriptor_sequence_number;
  block_size = d.logical_block_size;
  file_set = d.file_set_descriptor_location;
  map_table_length = d.map_table_length;
  map_count = d.number_of_partition_maps;
  maps = d.partition_maps;
}

-- what is kept once it has been met
abbrev pub prevailing : Order → (ℕ → Bool) → Kept → Parsed → Kept
prevailing prevails wanted k p = pick (counts prevails wanted k p) (replacing k p) k

-- what is kept of the descriptors of a sequence, in their order
unfoldable pub kept_of : Order → (ℕ → Bool) → Kept → List Parsed → Kept
kept_of prevails wanted k [] = k
kept_of prevails wanted k (p ∷ ps) = kept_of prevails wanted (prevailing prevails wanted k p) ps

-- ---- one sector

-- it holds a descriptor that is parsed, or one that is passed over; it ends the sequence; or the scan is refused
pub data Says : Type 0 where
  found : Parsed → Says
  passed : Says
  over : Says
  fails : Refusal → Says

-- a descriptor that was read is found; one that was refused refuses the scan
abbrev pub primary_in : Outcome PrimaryVolumeDescriptor → Says
primary_in (answered d) = found (primary d)
primary_in (refused r) = fails r

abbrev pub partition_in : Result PartitionDescriptor Refusal → Says
partition_in (Ok d) = found (partition d)
partition_in (Err r) = fails r

abbrev pub logical_in : Outcome LogicalVolumeDescriptor → Says
logical_in (answered d) = found (logical d)
logical_in (refused r) = fails r

-- by the id alone, of a sector's bytes b: 1, 5 and 6 are parsed, with bodies checked or not, 8 ends the scan with no check of its tag, and all
-- others are skipped unparsed
unfoldable pub says_in : Bool → List ℕ → Says
says_in check b =
    pick (eqb (u16at b 0) 1) (primary_in (read_primary check b))
    (pick (eqb (u16at b 0) 5) (partition_in (read_partition check b))
    (pick (eqb (u16at b 0) 6) (logical_in (read_logical check b))
    (pick (eqb (u16at b 0) 8) over
    passed)))

-- ---- n sectors from `at` on: the descriptors that are parsed, in order

abbrev pub go_on : Says → Ask (List Parsed) → Ask (List Parsed)
go_on (found p) rest = then rest (λ ps. done (p ∷ ps))
go_on passed rest = rest
go_on over rest = done []
go_on (fails r) rest = refuse r

unfoldable pub scan : Bool → ℕ → ℕ → Ask (List Parsed)
scan check zero at = done []
scan check (suc n) at = ask at (λ b. go_on (says_in check b) (scan check n (at + 1)))

-- ---- as the code reports it, where k was kept before

-- behind a descriptor that was looked at
abbrev pub turned : Result ⊤ Refusal → Kept → SectorTurn
turned (Ok _) k = GoesOn k
turned (Err r) k = Fails r

-- and behind a sector: whether the scan goes on
abbrev pub turned_on : Result Bool Refusal → Kept → SectorTurn
turned_on (Ok true) k = GoesOn k
turned_on (Ok false) k = Over k
turned_on (Err r) k = Fails r

abbrev pub turn_of : Order → (ℕ → Bool) → Kept → Says → SectorTurn
turn_of prevails wanted k (found p) = GoesOn (prevailing prevails wanted k p)
turn_of prevails wanted k passed = GoesOn k
turn_of prevails wanted k over = Over k
turn_of prevails wanted k (fails r) = Fails r

-- what the scan kept of the descriptors that it answered
abbrev pub scanned_by : Order → (ℕ → Bool) → Kept → Outcome (List Parsed) → ℕ → Scanned
scanned_by prevails wanted k (answered ps) n = record { count = n; kept = Ok (kept_of prevails wanted k ps) }
scanned_by prevails wanted k (refused r) n = record { count = n; kept = Err r }

abbrev pub scanned_of : Order → (ℕ → Bool) → Kept → Ran (List Parsed) → Scanned
scanned_of prevails wanted k r = scanned_by prevails wanted k r.outcome r.count

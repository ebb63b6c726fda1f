-- Opening a volume: RULES 5.1, 5.11, 5.14 and 5.20; and through its partition maps (ECMA-167 3/10.7).
use Rattle.std.specs.Prelude.{ℕ, zero, suc, ◌+◌, ◌*◌, ◌/◌, Bool, false, ◌&&◌, List, [], ◌∷◌, get_or, take, drop, replicate, eqb, ltb, Option, Some, None, Result, Ok, Err}
use Rattle.disc.specs.Choice.{pick}
use Rattle.disc.specs.Refusals.{number}
use Rattle.disc.specs.Counts.{reported}
use Rattle.disc.specs.Ask.{Ask, Outcome, then, ended}
use Rattle.disc.specs.Ask.Ask.{refuse, ask}
use Rattle.disc.specs.Ask.Outcome.{answered, refused}
use Rattle.disc.specs.Ran.{Ran}
use Rattle.disc.specs.Places.{placed, standing}
use Rattle.disc.specs.declared.places.Mount.{Mount}
use Rattle.disc.specs.declared.refusals.Refusal.TheVariants.{Malformed, NotBluray, Unsupported}
use Rattle.records.specs.Bytes.{byte, u16at}
use Rattle.records.specs.Allocations.{no_long}
use Rattle.descriptors.specs.Volumes.{read_anchor}
use Rattle.descriptors.specs.FileSets.{read_file_set}
use Rattle.descriptors.specs.declared.file_sets.FileSetDescriptor.{FileSetDescriptor}
use Rattle.volumes.specs.declared.sequences.Kept.{Kept}
use Rattle.volumes.specs.declared.openings.VolumeRecord.{VolumeRecord}
use Rattle.volumes.specs.declared.openings.Opened.{Opened}
use Rattle.volumes.specs.declared.openings.How.{How}
use Rattle.volumes.specs.Sequences.{nothing, Parsed, order_of, any_partition, kept_of, scan}
use Rattle.descriptors.specs.declared.anchors.AnchorVolumeDescriptorPointer.{AnchorVolumeDescriptorPointer}
use Rattle.disc.specs.declared.refusals.Refusal.{Refusal}

-- where nothing is chosen
abbrev pub usual : How
usual = record { highest = false; checked = false; maps = false }

-- ---- how the volume is read: `ps` is the list of descriptors that the scan answered, and `k` what was kept of them

-- without maps: where the partition that was kept starts, its number, and whether bodies are checked, which every call on the volume goes by
abbrev pub plain_mount : Bool → Kept → Mount
plain_mount check k = record {
  start = k.partition_start;
  partition = k.partition_number;
  checked = pick check 1 0;
  maps = 0;
  volumes = replicate 4 0;
  numbers = replicate 4 0;
  starts = replicate 4 0;
}

-- ---- through the partition maps (3/10.7) of the logical volume descriptor

-- the i-th map: its six bytes
abbrev pub map_at : List ℕ → ℕ → List ℕ
map_at maps i = take 6 (drop (6 * i) maps)

abbrev pub map_in : Kept → ℕ → List ℕ
map_in k i = map_at k.maps i

-- it is of type 1, which has six bytes (3/10.7.2)
abbrev pub is_plain_map : List ℕ → Bool
is_plain_map b = eqb (byte b 0) 1 && eqb (byte b 1) 6

-- its volume sequence number, and the number of its partition (3/10.7.2.3, 10.7.2.4)
abbrev pub volume_of_map : List ℕ → ℕ
volume_of_map b = u16at b 2

abbrev pub number_of_map : List ℕ → ℕ
number_of_map b = u16at b 4

-- where the partition of a number starts: the one of its descriptors that prevails says so; none where there is no descriptor
abbrev pub start_in : Kept → Option ℕ
start_in k = pick k.has_partition (Some k.partition_start) None

unfoldable pub start_of_number : How → List Parsed → ℕ → Option ℕ
start_of_number how ps number = start_in (kept_of (order_of how) (eqb number) nothing ps)

-- where the partition of a map starts: none where the map isn't of type 1, or no descriptor has its number
abbrev pub start_of_map : How → List Parsed → List ℕ → Option ℕ
start_of_map how ps b = pick (is_plain_map b) (start_of_number how ps (number_of_map b)) None

-- the starts of n maps from the i-th on: none where one has none
abbrev pub start_then : Option ℕ → Option (List ℕ) → Option (List ℕ)
start_then None rest = None
start_then (Some s) None = None
start_then (Some s) (Some rest) = Some (s ∷ rest)

unfoldable pub starts_from : How → List Parsed → List ℕ → ℕ → ℕ → Option (List ℕ)
starts_from how ps maps i zero = Some []
starts_from how ps maps i (suc n) = start_then (start_of_map how ps (map_at maps i)) (starts_from how ps maps (i + 1) n)

-- of the first n maps
abbrev pub map_starts : How → List Parsed → Kept → ℕ → Option (List ℕ)
map_starts how ps k n = starts_from how ps k.maps 0 n

-- the four places of a mount: of each map what f says, and zeros behind them
abbrev pub each_of : ℕ → (ℕ → ℕ) → List ℕ
each_of n f = pick (ltb 0 n) (f 0) 0 ∷ pick (ltb 1 n) (f 1) 0 ∷ pick (ltb 2 n) (f 2) 0 ∷ pick (ltb 3 n) (f 3) 0 ∷ []

abbrev pub volumes_in : Kept → List ℕ
volumes_in k = each_of k.map_count (λ i. volume_of_map (map_in k i))

abbrev pub numbers_in : Kept → List ℕ
numbers_in k = each_of k.map_count (λ i. number_of_map (map_in k i))

-- the reference in the file set descriptor's place, which is an index into the maps
abbrev pub file_set_ref : Kept → ℕ
file_set_ref k = k.file_set.location.partition_ref

-- the mount, by the starts of its maps in their four places: the partition that is its own is that of the file set's map
abbrev pub mount_from_starts : Bool → Kept → List ℕ → Mount
mount_from_starts check k starts = record {
  start = get_or starts (file_set_ref k) 0;
  partition = get_or (numbers_in k) (file_set_ref k) 0;
  checked = pick check 1 0;
  maps = k.map_count;
  volumes = volumes_in k;
  numbers = numbers_in k;
  starts = starts;
}

-- a map without a start; a file set reference beyond the maps
abbrev pub mounted_by : Bool → Kept → Option (List ℕ) → Outcome Mount
mounted_by check k None = refused Unsupported
mounted_by check k (Some l) =
    pick (ltb (file_set_ref k) k.map_count)
    (answered (mount_from_starts check k (each_of k.map_count (λ i. get_or l i 0))))
    (refused Unsupported)

-- more than four maps; six bytes a map that pass the table's length; a table that passes the sector; and then the maps
unfoldable pub mapped_mount : How → List Parsed → Kept → Outcome Mount
mapped_mount how ps k =
    pick (ltb 4 k.map_count) (refused Unsupported)
    (pick (ltb k.map_table_length (6 * k.map_count)) (refused Malformed)
    (pick (ltb 2048 (440 + k.map_table_length)) (refused Malformed)
    (mounted_by how.checked k (map_starts how ps k k.map_count))))

-- as was chosen: through the maps, or by the partition that was kept, whose number references are then compared with (the original's rule)
unfoldable pub mount_of : How → List Parsed → Kept → Outcome Mount
mount_of how ps k = pick how.maps (mapped_mount how ps k) (answered (plain_mount how.checked k))

-- ---- behind the sequence

-- the file set descriptor's place
abbrev pub file_set_in : Mount → Kept → Option ℕ
file_set_in m k = placed m (Some (file_set_ref k)) k.file_set.location.block

-- the volume, once its file set descriptor is read
abbrev pub volume_in : Mount → Kept → Outcome FileSetDescriptor → Outcome VolumeRecord
volume_in m k (answered d) = answered (record { mount = m; root = d.root_directory_icb; label = k.label })
volume_in m k (refused r) = refused r

-- the file set descriptor's sector; its parse
abbrev pub file_set_at : Bool → Kept → Mount → ℕ → Ask VolumeRecord
file_set_at check k m s = ask s (λ b. ended (volume_in m k (read_file_set check b)))

-- its partition, and these
abbrev pub file_set_on : Bool → Kept → Mount → Ask VolumeRecord
file_set_on check k m = standing (file_set_in m k) (file_set_at check k m)

-- no PVD, no PD, no LVD; the block size; how the volume is read; its file set descriptor
unfoldable pub mounting_of : How → List Parsed → Kept → Ask VolumeRecord
mounting_of how ps k =
    pick k.has_primary
    (pick k.has_partition
    (pick k.has_logical
    (pick (eqb k.block_size 2048)
    (then (ended (mount_of how ps k)) (file_set_on how.checked k))
    (refuse Unsupported))
    (refuse NotBluray))
    (refuse NotBluray))
    (refuse NotBluray)

-- what the descriptors lead to that prevail
abbrev pub mounting : How → List Parsed → Ask VolumeRecord
mounting how ps = mounting_of how ps (kept_of (order_of how) any_partition nothing ps)

-- ---- the whole call

-- behind the anchor: the main sequence, as many whole sectors as its length has (3/8.4.2.1), and then the volume that its descriptors give
abbrev pub anchored : How → Result AnchorVolumeDescriptorPointer Refusal → Ask VolumeRecord
anchored how (Err r) = refuse r
anchored how (Ok a) =
    then (scan how.checked (a.main_volume_descriptor_sequence.length / 2048) a.main_volume_descriptor_sequence.location) (mounting how)

-- the anchor stands in sector 256 (3/8.4.2.1)
unfoldable pub opening : How → Ask VolumeRecord
opening how = ask 256 (λ b. anchored how (read_anchor how.checked b))

-- ---- as the code reports it

abbrev pub no_mount : Mount
no_mount = record {
  start = 0;
  partition = 0;
  checked = 0;
  maps = 0;
  volumes = replicate 4 0;
  numbers = replicate 4 0;
  starts = replicate 4 0;
}

abbrev pub no_volume : VolumeRecord
no_volume = record { mount = no_mount; root = no_long; label = replicate 32 0 }

abbrev pub opened_by : ℕ → Outcome VolumeRecord → Opened
opened_by n (answered v) = record { answer = 0; count = n; volume = v }
opened_by n (refused r) = record { answer = number r; count = n; volume = no_volume }

abbrev pub opened_of : Ran VolumeRecord → Opened
opened_of r = opened_by (reported r.count) r.outcome

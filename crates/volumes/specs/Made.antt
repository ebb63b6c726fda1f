-- Where the record of a volume comes from: the sequence, the descriptors that prevail, the mount.
use Rattle.std.specs.Prelude.{true, Bool, List, ◌++◌, ◌∷◌, ◌≡◌, ◌*◌, ◌+◌, ◌<◌, ◌≤◌, ℕ, ◌/◌, eqb, get_or, length, Some, Result, Ok, Err}
use Rattle.disc.specs.Ask.{Held, Ask, outcome, Disc, asked, ended}
use Rattle.disc.specs.Ask.Ask.{refuse, ask}
use Rattle.disc.specs.Ask.Held.{lacks, holds}
use Rattle.disc.specs.Ask.Outcome.{refused, answered}
use Rattle.disc.specs.Choice.{pick}
use Rattle.disc.specs.Lists.{asked_behind}
use Rattle.disc.specs.Ran.{ran}
use Rattle.disc.specs.declared.places.Mount.{Mount}
use Rattle.disc.specs.declared.refusals.Refusal.{Refusal}
use Rattle.disc.specs.declared.refusals.Refusal.TheVariants.{Unsupported, NotBluray}
use Rattle.descriptors.specs.FileSets.{read_file_set}
use Rattle.descriptors.specs.Volumes.{read_anchor}
use Rattle.volumes.specs.Openings.{file_set_ref, start_of_number, number_of_map, volume_of_map, map_in, is_plain_map, mounting, opening, mount_of, plain_mount, volume_in}
use Rattle.volumes.specs.Prevailing.{Kind, has_of, wanted_in, Every}
use Rattle.volumes.specs.Sequences.{Parsed, scan, kept_of, any_partition, nothing, order_of}
use Rattle.volumes.specs.declared.openings.How.{How}
use Rattle.volumes.specs.declared.openings.VolumeRecord.{VolumeRecord}
use Rattle.volumes.specs.declared.sequences.Kept.{Kept}
use Rattle.descriptors.specs.declared.partitions.PartitionDescriptor.{PartitionDescriptor}
use Rattle.volumes.specs.Prevailing.Kind.{partitions}
use Rattle.volumes.specs.Sequences.Parsed.{partition}
use Rattle.descriptors.specs.declared.anchors.AnchorVolumeDescriptorPointer.{AnchorVolumeDescriptorPointer}

-- it has between one and four maps, all of type 1 and in a table that holds them, which is in the sector; of each its volume sequence number, its number
-- and the start of that number's partition; and its own partition is that of the file set's map
pub record Mapped (how : How) (ps : List Parsed) (k : Kept) (m : Mount) : Type 0 where
  pub counted : m.maps ≡ k.map_count
  pub one : 1 ≤ m.maps
  pub few : m.maps ≤ 4
  pub table : 6 * m.maps ≤ k.map_table_length
  pub sector : 440 + k.map_table_length ≤ 2048
  pub plain : (i : ℕ) → i < m.maps → is_plain_map (map_in k i) ≡ true
  pub volume : (i : ℕ) → i < m.maps → get_or m.volumes i 0 ≡ volume_of_map (map_in k i)
  pub numbered : (i : ℕ) → i < m.maps → get_or m.numbers i 0 ≡ number_of_map (map_in k i)
  pub started : (i : ℕ) → i < m.maps → start_of_number how ps (get_or m.numbers i 0) ≡ Some (get_or m.starts i 0)
  pub reference : file_set_ref k < m.maps
  pub start_is : m.start ≡ get_or m.starts (file_set_ref k) 0
  pub partition-is : m.partition ≡ get_or m.numbers (file_set_ref k) 0
  pub checked-is : m.checked ≡ pick how.checked 1 0

-- the length of the main sequence, as the sector of the anchor tells it: 0 where there is no anchor
abbrev pub main_length_in : Result AnchorVolumeDescriptorPointer Refusal → ℕ
main_length_in (Ok a) = a.main_volume_descriptor_sequence.length
main_length_in (Err r) = 0

-- the length of the main sequence, as the sector of the anchor tells it, with bodies checked or not: 0 where there is none
abbrev pub main_length : Bool → Held → ℕ
main_length check (holds b) = main_length_in (read_anchor check b)
main_length check lacks = 0

-- the anchor and the main sequence: no choice but that of checking goes into what is asked there, into what is refused there, or into the list of
-- descriptors
abbrev pub sequence_in : Bool → Result AnchorVolumeDescriptorPointer Refusal → Ask (List Parsed)
sequence_in check (Err r) = refuse r
sequence_in check (Ok a) = scan check (a.main_volume_descriptor_sequence.length / 2048) a.main_volume_descriptor_sequence.location

unfoldable pub sequence : Bool → Ask (List Parsed)
sequence check = ask 256 (λ b. sequence_in check (read_anchor check b))

-- what a choice makes of the list of descriptors
abbrev pub chosen : How → List Parsed → Ask VolumeRecord
chosen how ps = mounting how ps

-- the sectors up to and with the sequence are the same, whatever is chosen but for the checking; where they end in a refusal, all is
pub record Sequenced (d : Disc) (how : How) : Type 0 where
  pub asks : asked d (opening how) ≡ asked d (sequence how.checked) ++ asked_behind d (outcome d (sequence how.checked)) (chosen how)
  pub refuses : {why : Refusal} → outcome d (sequence how.checked) ≡ refused why
      → (asked d (opening how) ≡ asked d (sequence how.checked)) × (ran d (opening how) ≡ record { outcome = refused why; count = length (asked d (sequence how.checked)) })

-- of what was kept, there being one of each kind
pub record Mounted (how : How) (ps : List Parsed) (k : Kept) (v : VolumeRecord) : Type 0 where
  pub has : (kind : Kind) → has_of kind k ≡ true
  pub mounted : mount_of how ps k ≡ answered v.mount
  pub labelled : v.label ≡ k.label

-- of a list of descriptors, by the order that was chosen
pub record Made (d : Disc) (how : How) (v : VolumeRecord) : Type 0 where
  pub parsed : List Parsed
  pub scanned : outcome d (sequence how.checked) ≡ answered parsed
  pub made : Mounted how parsed (kept_of (order_of how) any_partition nothing parsed) v

-- the original's opening behind the sequence: the file set descriptor's reference is compared with the number of the partition that was kept
abbrev pub own_mounting : Bool → Kept → Ask VolumeRecord
own_mounting check k =
    pick k.has_primary
    (pick k.has_partition
    (pick k.has_logical
    (pick (eqb k.block_size 2048)
    (pick (eqb (file_set_ref k) k.partition_number)
    (ask (k.partition_start + k.file_set.location.block) (λ b. ended (volume_in (plain_mount check k) k (read_file_set check b))))
    (refuse Unsupported))
    (refuse Unsupported))
    (refuse NotBluray))
    (refuse NotBluray))
    (refuse NotBluray)

-- where the partition of a number starts is said by one of the descriptors of that number: those before it, without the descriptors of other partitions,
-- have numbers Before its own, and those behind it Behind it
pub record Started (Before Behind : ℕ → ℕ → Type 0) (ps : List Parsed) (number start : ℕ) : Type 0 where
  pub before : List Parsed
  pub descriptor : PartitionDescriptor
  pub behind : List Parsed
  pub stands : wanted_in (eqb number) ps ≡ before ++ (partition descriptor ∷ behind)
  pub numbered : descriptor.partition_number ≡ number
  pub starts : descriptor.partition_starting_location ≡ start
  pub over-before : Every partitions (λ n. Before n descriptor.volume_descriptor_sequence_number) before
  pub over-behind : Every partitions (λ n. Behind n descriptor.volume_descriptor_sequence_number) behind

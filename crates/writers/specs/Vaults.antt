-- Names and lengths that are accepted, and what the reader is to find in the image.
use Rattle.std.specs.Prelude.{true, false, List, [], ◌∷◌, ◌++◌, ◌≡◌, ◌≤◌, ℕ, ◌+◌, ◌-◌, ◌*◌, ◌/◌, length, drop, get_or, Ok}
use Rattle.disc.specs.Choice.{pick}
use Rattle.disc.specs.Images.{sectors_for}
use Rattle.disc.specs.declared.places.Mount.{Mount}
use Rattle.records.specs.declared.allocations.LongAd.{LongAd}
use Rattle.tags.specs.Tags.{in_place, read_tag}
use Rattle.tags.specs.declared.DescriptorTag.{DescriptorTag}
use Rattle.volumes.specs.declared.openings.How.{How}
use Rattle.volumes.specs.declared.openings.VolumeRecord.{VolumeRecord}
use Rattle.listings.specs.Listings.{record_head}
use Rattle.writers.specs.Layout.{zeros, dstring, label, sealed, primary_body, sector, partition_body, logical_body, file_set_body, total, image, directory_size}
use Rattle.writers.specs.Refusing.{are_short, are_good, sum, names_in, Written, writes}

-- what isn't refused
pub record Accepted (names : List (List ℕ)) (lengths staging : List ℕ) : Type 0 where
  pub good : are_good names ≡ true
  pub few : length names ≤ 64
  pub alike : length names ≡ length lengths
  pub short : are_short lengths ≡ true
  pub staged : sum lengths ≤ length staging

-- the mount that opening finds
abbrev pub mount_for : How → Mount
mount_for how = record {
  start = 272;
  partition = 0;
  checked = pick how.checked 1 0;
  maps = pick how.maps 1 0;
  volumes = pick how.maps 1 0 ∷ 0 ∷ 0 ∷ 0 ∷ [];
  numbers = 0 ∷ 0 ∷ 0 ∷ 0 ∷ [];
  starts = pick how.maps 272 0 ∷ 0 ∷ 0 ∷ 0 ∷ [];
}

-- the ICB of the entry in a block
abbrev pub icb_at : ℕ → LongAd
icb_at block = record { length = 2048; extent_type = 0; location = record { block = block; partition_ref = 0 }; implementation_use = zeros 6 }

-- a record for each name, in the given order: no directory, the ICB of its entry, the name's length and the name
unfoldable pub listed : ℕ → List (List ℕ) → List ℕ
listed i [] = []
listed i (n ∷ ns) = (record_head false (icb_at (16 + i)) (length n) ++ n) ++ listed (i + 1) ns

-- and the volume: its root stands in block 2
abbrev pub vault_for : How → VolumeRecord
vault_for how = record { mount = mount_for how; root = icb_at 2; label = dstring label 32 }

-- the sectors that opening reads
abbrev pub primary_sector : List ℕ
primary_sector = sector (sealed 1 32 primary_body)

abbrev pub partition_sector : ℕ → List ℕ
partition_sector size = sector (sealed 5 34 (partition_body size))

abbrev pub logical_sector : List ℕ
logical_sector = sector (sealed 6 35 logical_body)

abbrev pub file_set_sector : List ℕ
file_set_sector = sector (sealed 256 0 file_set_body)

-- the tag at the front of sector n, if there is one, is in place: by its sector, or by its block of the partition
abbrev pub Placed : ℕ → List ℕ → Type 0
Placed n s = (t : DescriptorTag) → read_tag s ≡ Ok t → in_place t n (n - 272) ≡ true

-- what a call leaves that isn't refused
pub record Left (names lengths staging lent : List ℕ) (w : Written) : Type 0 where
  pub accepted : Accepted (names_in names) lengths staging
  pub sectors : w.reply.sectors ≡ total lengths
  pub image : w.image ≡ Rattle.writers.specs.Layout.image (names_in names) lengths staging ++ drop (2048 * total lengths) lent
  pub room : total lengths ≤ length lent / 2048

-- the image, with whatever stands behind it
abbrev pub written : List (List ℕ) → List ℕ → List ℕ → List ℕ → List ℕ
written names lengths staging more = image names lengths staging ++ more

-- the sectors of the root: its entry and its directory
abbrev pub root_count : List (List ℕ) → ℕ
root_count names = 1 + sectors_for (directory_size names)

-- the i-th name
abbrev pub its : List (List ℕ) → ℕ → List ℕ
its names i = get_or names i []

-- what the call leaves
abbrev pub made : List ℕ → List ℕ → List ℕ → List ℕ → Written
made names lengths staging lent = writes names lengths staging lent

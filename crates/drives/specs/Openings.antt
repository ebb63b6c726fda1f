-- The old opening, fed a sector at a time: the place in its tree that a state stands for, and a step. RULES 5.1 to 5.14, 14.1 to 14.3.
use Rattle.std.specs.Prelude.{ℕ, suc, ◌+◌, ◌≡◌, Bool, true, false, List, [], eqb, ltb}
use Rattle.disc.specs.Choice.{pick}
use Rattle.disc.specs.Counts.{reported}
use Rattle.disc.specs.Refusals.{number, refusal_of}
use Rattle.disc.specs.Ask.{Ask, then, ended}
use Rattle.disc.specs.Ask.Ask.{done, refuse, ask}
use Rattle.volumes.specs.Sequences.{any_partition, order_of, kept_of, Says, says_in, go_on, scan}
use Rattle.descriptors.specs.Volumes.{read_anchor}
use Rattle.descriptors.specs.FileSets.{read_file_set}
use Rattle.volumes.specs.Openings.{usual, plain_mount, mounting_of, volume_in, file_set_at, anchored, opening, no_volume}
use Rattle.volumes.specs.declared.sequences.Kept.{Kept}
use Rattle.volumes.specs.declared.openings.VolumeRecord.{VolumeRecord}
use Rattle.volumes.specs.declared.openings.Opened.{Opened}
use Rattle.drives.specs.Feeds.{lent, branch}
use Rattle.drives.specs.declared.openings.Opening.{Opening}

-- ---- what is left

-- behind what was kept of the descriptors so far
abbrev pub mounting_from : Kept → Ask VolumeRecord
mounting_from k = mounting_of usual [] k

-- in the sequence: n sectors of it are left, from `at` on, and `k` was kept of those before
unfoldable pub scanning : Kept → ℕ → ℕ → Ask VolumeRecord
scanning k n at = then (scan false n at) (λ ps. mounting_from (kept_of (order_of usual) any_partition k ps))

-- behind a sector b of it, which stands at `at` and has n behind it
abbrev pub scan_from : Kept → ℕ → ℕ → Says → Ask VolumeRecord
scan_from k n at says = then (go_on says (scan false n (at + 1))) (λ ps. mounting_from (kept_of (order_of usual) any_partition k ps))

abbrev pub behind_sector : Kept → ℕ → ℕ → List ℕ → Ask VolumeRecord
behind_sector k n at b = scan_from k n at (says_in false b)

-- no run of sectors on a disc reaches beyond this, so that a place behind it is none
abbrev pub most_sectors : ℕ
most_sectors = 0x1000_0000_0000

-- the phases: the anchor's sector is wanted, one of the sequence with `left` behind it, or the file set descriptor's; and the one in which it has ended
abbrev pub anchor_phase : ℕ
anchor_phase = 0

abbrev pub sequence_phase : ℕ
sequence_phase = 1

abbrev pub file_set_phase : ℕ
file_set_phase = 2

abbrev pub opening_over : ℕ
opening_over = 3

-- a state that wants a sector
abbrev pub is_wanting : Opening → Bool
is_wanting o = pick (ltb o.phase opening_over) (ltb (o.at + o.left) most_sectors) false

-- what is left of a state that has ended
abbrev pub opened_tree : Opened → Ask VolumeRecord
opened_tree x = pick (eqb x.answer 0) (done x.volume) (refuse (refusal_of x.answer))

-- the sector that it wants
abbrev pub wanted_sector : Opening → ℕ
wanted_sector o = pick (is_wanting o) (pick (eqb o.phase anchor_phase) 256 o.at) 0

unfoldable pub tree_of : Opening → Ask VolumeRecord
tree_of o =
    pick (is_wanting o)
    (pick (eqb o.phase anchor_phase) (opening usual)
    (pick (eqb o.phase sequence_phase) (scanning o.kept (suc o.left) o.at)
    (file_set_at false o.kept (plain_mount false o.kept) o.at)))
    (opened_tree o.opened)

-- behind the sector that it wants
abbrev pub behind_wanted : Opening → List ℕ → Ask VolumeRecord
behind_wanted o b =
    pick (eqb o.phase anchor_phase) (anchored usual (read_anchor false b))
    (pick (eqb o.phase sequence_phase) (behind_sector o.kept o.left o.at b)
    (ended (volume_in (plain_mount false o.kept) o.kept (read_file_set false b))))

-- ---- a step

-- what is said where n sectors were wanted and a tree is left: nothing yet, or how it ended
abbrev pub said_of : ℕ → Ask VolumeRecord → Opened
said_of n (done v) = record { answer = 0; count = n; volume = v }
said_of n (refuse r) = record { answer = number r; count = n; volume = no_volume }
said_of n (ask s k) = record { answer = 0; count = n; volume = no_volume }

-- a state that stands for a tree, after n sectors
pub record OpeningStands (t : Ask VolumeRecord) (n : ℕ) (r : Opening) : Type 0 where
  pub tree : tree_of r ≡ t
  pub says : r.opened ≡ said_of n t

-- a step of a state that wants a sector takes the branch of what was lent, and counts; of one that has ended it changes nothing
pub record Fed (o : Opening) (sector : List ℕ) (r : Opening) : Type 0 where
  pub takes : is_wanting o ≡ true → OpeningStands (branch (lent sector) (tree_of o)) (reported (o.opened.count + 1)) r
  pub stays : is_wanting o ≡ false → r ≡ o

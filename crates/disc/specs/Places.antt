-- Two counters, and the sole crossing between them: a block is counted from the partition's start, a sector from the disc's. RULES 9.1 to 9.6.
use Rattle.std.specs.Prelude.{ℕ, ◌+◌, ◌<◌, ◌^◌, min, ◌≡◌, Bool, not, eqb, ltb, get_or, Option, Some, None}
use Rattle.disc.specs.Choice.{pick}
use Rattle.disc.specs.Ask.{Ask}
use Rattle.disc.specs.Ask.Ask.{refuse}
use Rattle.disc.specs.declared.refusals.Refusal.TheVariants.{Unsupported}
use Rattle.disc.specs.declared.places.Mount.{Mount}
use Rattle.disc.specs.declared.places.Sector.{Sector}

-- adding the partition's starting location (ECMA-167 3/10.5.8) is the sole crossing
abbrev pub sector_of : ℕ → ℕ → ℕ
sector_of start block = start + block

-- ---- the partition that a reference names

-- a volume with partition maps (3/10.7); more than four count as four
abbrev pub is_mapped : Mount → Bool
is_mapped m = not (eqb m.maps 0)

abbrev pub map_count : Mount → ℕ
map_count m = min m.maps 4

-- where the partition of a map starts: a reference is an index into the maps (3/10.7, 4/7.1)
unfoldable pub mapped_start : Mount → ℕ → Option ℕ
mapped_start m p = pick (ltb p (map_count m)) (Some (get_or m.starts p 0)) None

-- the start of the partition that a descriptor names: through the maps or, without maps, only by the volume's own number (the original's rule)
unfoldable pub start_for : Mount → ℕ → Option ℕ
start_for m p = pick (is_mapped m) (mapped_start m p) (pick (eqb p m.partition) (Some m.start) None)

-- the start of the partition that an ICB names: without maps its reference isn't looked at
unfoldable pub icb_start : Mount → ℕ → Option ℕ
icb_start m p = pick (is_mapped m) (mapped_start m p) (Some m.start)

-- ---- the sector of a block

-- the sector of a block in the partition with this start
abbrev pub crossing : ℕ → Option ℕ → Option ℕ
crossing block None = None
crossing block (Some start) = Some (sector_of start block)

-- the sector of a block by a descriptor's reference, none where that isn't of this volume; a short_ad names no partition, and its block is in that of
-- its entry, which is the mount's own
unfoldable pub placed : Mount → Option ℕ → ℕ → Option ℕ
placed m None block = Some (sector_of m.start block)
placed m (Some p) block = crossing block (start_for m p)

-- the sector of a block by an ICB's reference
unfoldable pub icb_placed : Mount → ℕ → ℕ → Option ℕ
icb_placed m p block = crossing block (icb_start m p)

-- the mount for the descriptors of an entry: its own partition is the one that the entry stands in
abbrev pub started_at : Mount → Option ℕ → Mount
started_at m None = m
started_at m (Some s) = record {
  start = s;
  partition = m.partition;
  checked = m.checked;
  maps = m.maps;
  volumes = m.volumes;
  numbers = m.numbers;
  starts = m.starts;
}

unfoldable pub at_entry : Mount → ℕ → Mount
at_entry m p = started_at m (icb_start m p)

-- whether the bodies of descriptors are checked
abbrev pub is_checked : Mount → Bool
is_checked m = not (eqb m.checked 0)

-- the same volume, read without that check
abbrev pub unchecked : Mount → Mount
unchecked m = record {
  start = m.start;
  partition = m.partition;
  checked = 0;
  maps = m.maps;
  volumes = m.volumes;
  numbers = m.numbers;
  starts = m.starts;
}

-- go on with the sector; a block that is in no partition of this volume is refused by 4
abbrev pub standing : {A : Type 0} → Option ℕ → (ℕ → Ask A) → Ask A
standing None f = refuse Unsupported
standing (Some s) f = f s

-- ---- as the code reports it

abbrev pub placed_by : Option ℕ → Option Sector
placed_by None = None
placed_by (Some s) = Some (record { 0 = s })

-- a sector's number is small enough to be multiplied
abbrev pub Low : Option Sector → Type 0
Low (Some s) = s.0 < 2 ^ 33
Low None = Unit {0}

pub record StandsIn (o : Option ℕ) (p : Option Sector) : Type 0 where
  pub is : p ≡ placed_by o
  pub low : Low p

abbrev pub BlockStands : Mount → Option ℕ → ℕ → Option Sector → Type 0
BlockStands m r block p = StandsIn (placed m r block) p

-- The example of RULES 7.11.
use Rattle.std.specs.Prelude.{[], List, ◌∷◌, ℕ, ◌*◌, take, drop, None}
use Rattle.disc.specs.Places.{sector_of}
use Rattle.disc.specs.declared.places.Mount.{Mount}
use Rattle.records.specs.declared.allocations.LongAd.{LongAd}
use Rattle.areas.specs.Areas.{extent}
use Rattle.areas.specs.declared.AllocExtent.{AllocExtent}
use Rattle.files.specs.Files.{entry_mount}

-- three short_ads: 3,000 bytes at block 10, 100 at 20, and 5,000 of type 1 at 30
abbrev pub example : List AllocExtent
example = extent 3000 0 10 None ∷ extent 100 0 20 None ∷ extent 5000 1 30 None ∷ []

-- the mount for the extents of a file
abbrev pub own : Mount → LongAd → Mount
own m icb = entry_mount m icb

-- n bytes from block 10 on, and from block 20 on
abbrev pub first : List ℕ → Mount → LongAd → ℕ → List ℕ
first image m icb n = take n (drop (2048 * sector_of (own m icb).start 10) image)

abbrev pub second : List ℕ → Mount → LongAd → ℕ → List ℕ
second image m icb n = take n (drop (2048 * sector_of (own m icb).start 20) image)

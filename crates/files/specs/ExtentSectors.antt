-- The sectors of a file's extents, in turn: RULES 2.5 and 2.12.
use Rattle.std.specs.Prelude.{ℕ, zero, suc, ◌+◌, List, [], ◌∷◌, ◌++◌, Option, Some, None}
use Rattle.disc.specs.Images.{sectors_for}
use Rattle.disc.specs.Places.{placed}
use Rattle.disc.specs.declared.places.Mount.{Mount}
use Rattle.areas.specs.declared.AllocExtent.{AllocExtent}

-- the n sectors from `at` on
unfoldable pub run : ℕ → ℕ → List ℕ
run zero at = []
run (suc n) at = at ∷ run n (at + 1)

-- all sectors of an extent
abbrev pub sectors_in : ℕ → Option ℕ → List ℕ
sectors_in size None = []
sectors_in size (Some at) = run (sectors_for size) at

-- all sectors of extents in turn
unfoldable pub extent_sectors : Mount → List AllocExtent → List ℕ
extent_sectors m [] = []
extent_sectors m (e ∷ es) = sectors_in e.length (placed m e.partition_ref e.block.0) ++ extent_sectors m es

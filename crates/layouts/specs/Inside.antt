-- Runs that lie inside the image.
use Rattle.std.specs.Prelude.{List, [], ◌∷◌, ℕ, ◌+◌, ◌≤◌, length}
use Rattle.disc.specs.Images.{disc}
use Rattle.disc.specs.Ran.{Ran, ran}
use Rattle.disc.specs.declared.places.Mount.{Mount}
use Rattle.records.specs.declared.allocations.LongAd.{LongAd}
use Rattle.files.specs.Files.{file_part, Part}
use Rattle.layouts.specs.declared.runs.Run.{Run}

-- the run of the call for a file's part
abbrev pub file : List ℕ → Mount → LongAd → Ran Part
file image m icb = ran (disc image) (file_part m icb)

-- a run has at least one byte, and all of its bytes are in the image
pub record Inside (image : List ℕ) (r : Run) : Type 0 where
  pub byte : 1 ≤ r.length
  pub within : r.at + r.length ≤ length image

-- each run is inside
unfoldable pub AllInside : List ℕ → List Run → Type 0
AllInside image [] = Unit {0}
AllInside image (r ∷ rest) = Inside image r × AllInside image rest

-- The row that `runs` leaves, and the extents that a read visits.
use Rattle.std.specs.Prelude.{[], List, ◌∷◌, ◌++◌, ℕ, ◌+◌, ◌≤◌, take, drop, get_or, length}
use Rattle.disc.specs.Images.{disc}
use Rattle.disc.specs.Ran.{ran}
use Rattle.records.specs.declared.allocations.LongAd.{LongAd}
use Rattle.volumes.specs.declared.openings.VolumeRecord.{VolumeRecord}
use Rattle.files.specs.Files.{file_visited, visits_in}
use Rattle.vault.specs.Calls.{Rowed, runs}

-- the bytes that slots name, joined
unfoldable pub row_holds : List ℕ → List (List ℕ) → List ℕ
row_holds image [] = []
row_holds image (slot ∷ row) = take (get_or slot 1 0) (drop (get_or slot 0 0) image) ++ row_holds image row

-- each slot names at least one byte, and all that it names is inside the image
unfoldable pub RowLies : List ℕ → List (List ℕ) → Type 0
RowLies image [] = Unit {0}
RowLies image (slot ∷ row) = (1 ≤ get_or slot 1 0) × (get_or slot 0 0 + get_or slot 1 0 ≤ length image) × RowLies image row

-- the slots that a call answered
abbrev pub slots : Rowed (List ℕ) → List (List ℕ)
slots r = take r.reply.length r.row

-- the bytes of the runs that are answered, joined
abbrev pub run_bytes : List ℕ → VolumeRecord → LongAd → List (List ℕ) → List ℕ
run_bytes image v icb row = row_holds image (slots (runs image v icb row))

-- how many extents a read visits
abbrev pub visits : List ℕ → VolumeRecord → LongAd → ℕ
visits image v icb = visits_in (ran (disc image) (file_visited v.mount icb)).outcome

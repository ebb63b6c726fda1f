-- A file as runs of the image, where the bytes of a read are, in reading order: RULES 7.19.
use Rattle.std.specs.Prelude.{ℕ, zero, suc, ◌-◌, ◌*◌, min, List, [], ◌∷◌, ◌++◌, length, take, drop, eqb, leb}
use Rattle.disc.specs.Choice.{pick}
use Rattle.disc.specs.Ask.{Ask, Outcome, then}
use Rattle.disc.specs.Ask.Ask.{done, refuse}
use Rattle.disc.specs.Ask.Outcome.{answered, refused}
use Rattle.disc.specs.Ran.{Ran, each}
use Rattle.disc.specs.Images.{sectors_for}
use Rattle.disc.specs.Places.{placed, standing}
use Rattle.disc.specs.Replies.{Replied}
use Rattle.disc.specs.declared.places.Mount.{Mount}
use Rattle.disc.specs.declared.refusals.Refusal.TheVariants.{Unsupported, NoSlot}
use Rattle.disc.specs.declared.replies.Reply.{Reply}
use Rattle.records.specs.declared.allocations.LongAd.{LongAd}
use Rattle.areas.specs.declared.AllocExtent.{AllocExtent}
use Rattle.files.specs.Reads.{extent_bytes}
use Rattle.files.specs.Files.{File, file_at, entry_mount, part_of}
use Rattle.files.specs.Files.File.{embedded, chained}
use Rattle.layouts.specs.declared.runs.Run.{Run}

-- a run, left out where it is empty
abbrev pub run_here : ℕ → ℕ → List Run
run_here at zero = []
run_here at (suc n) = record { at = at; length = suc n } ∷ []

-- what a read asks: it stops once it has the `want` bytes that are missing, and cuts what is past them; otherwise more runs follow
abbrev pub running : ℕ → ℕ → ℕ → Ask (List Run) → Ask (List Run)
running want at n more = pick (leb want n) (done (run_here at (min n want))) (then more (λ rest. done (run_here at n ++ rest)))

unfoldable pub extents_runs : Mount → List AllocExtent → ℕ → Ask (List Run)
extents_runs m [] want = done []
extents_runs m (e ∷ es) want =
    pick (eqb e.extent_type 0)
    (standing (placed m e.partition_ref e.block.0) (λ at.
    then (extent_bytes (sectors_for e.length) at e.length want) (λ b.
    running want (2048 * at) (length b) (extents_runs m es (want - length b)))))
    (refuse Unsupported)

-- the runs of a file: embedded bytes are one
abbrev pub runs_of : Mount → File → Ask (List Run)
runs_of m (embedded x) = done (run_here (part_of (embedded x)).at (length (part_of (embedded x)).bytes))
runs_of m (chained x es) = extents_runs m es x.entry.information_length

unfoldable pub file_runs : Mount → LongAd → Ask (List Run)
file_runs m icb = then (file_at m icb) (runs_of (entry_mount m icb))

-- ---- what they hold in an image

unfoldable pub runs_hold : List ℕ → List Run → List ℕ
runs_hold image [] = []
runs_hold image (r ∷ rest) = take r.length (drop r.at image) ++ runs_hold image rest

abbrev pub held_by : List ℕ → Outcome (List Run) → Outcome (List ℕ)
held_by image (answered rs) = answered (runs_hold image rs)
held_by image (refused r) = refused r

abbrev pub gathered : List ℕ → Ran (List Run) → Ran (List ℕ)
gathered image r = record { outcome = held_by image r.outcome; count = r.count }

-- ---- in a lent row, a pair to a slot: more runs than slots are refused after every other refusal

abbrev pub pair_of : Run → List ℕ
pair_of r = r.at ∷ r.length ∷ []

abbrev pub RunsListed : Ran (List Run) → List (List ℕ) → List (List ℕ) → Reply → Type 0
RunsListed r before after reply = Replied NoSlot (each pair_of r) before after reply

-- Many files in one call: each item by itself.
use Rattle.std.specs.Prelude.{◌≡◌, Bool, false, ◌||◌, List, [], ◌∷◌, ◌++◌, ℕ, length, take}
use Rattle.disc.specs.Ask.{Ask}
use Rattle.disc.specs.Images.{disc}
use Rattle.disc.specs.Ran.{ran}
use Rattle.disc.specs.Marks.{Guards, any_wrong, parsed}
use Rattle.tags.specs.Heads.{right_at}
use Rattle.listings.specs.declared.matchings.Matching.{Matching}
use Rattle.volumes.specs.declared.openings.VolumeRecord.{VolumeRecord}
use Rattle.cue_stacks.specs.Stacks.{items, Stacked, read_all_of}
use Rattle.vault.specs.Calls.{path_reading, reads_all}
use Rattle.vault.specs.Checks.{plainly}

-- the read of one path
abbrev pub alone : VolumeRecord → Matching → List ℕ → List ℕ → Ask (List ℕ)
alone v matching work path = path_reading v (length work) path matching

-- what all items leave in the output and the rows
abbrev pub left : List ℕ → VolumeRecord → List ℕ → Matching → List ℕ → List ℕ → List ℕ → List ℕ → Stacked
left image v paths matching out lengths answers work = read_all_of (λ path. ran (disc image) (alone v matching work path)) paths out lengths answers

-- the numbers of the items
abbrev pub numbers : List ℕ → VolumeRecord → List ℕ → Matching → List ℕ → List ℕ → List ℕ → List ℕ → List ℕ
numbers image v paths matching out lengths answers work = take (length (items paths)) (reads_all image v paths matching out lengths answers work).answers

-- for each item, the read and the read without the check come from one marked tree
abbrev pub Marking : VolumeRecord → Matching → List ℕ → Type 0
Marking v matching work = (p : List ℕ) → Guards right_at (alone v matching work p) (alone (plainly v) matching work p)

-- some descriptor that an item's read without the check parses has a wrong body
abbrev pub wrong_among : List ℕ → (v : VolumeRecord) (matching : Matching) (work : List ℕ) → Marking v matching work → List (List ℕ) → Bool
wrong_among image v matching work marks [] = false
wrong_among image v matching work marks (p ∷ ps) = any_wrong right_at (parsed (disc image) (marks p).tree) || wrong_among image v matching work marks ps

-- a call is final on an image: whatever is added at the end, it leaves the same answer, count and memory
abbrev pub Final : {R : Type 0} → (List ℕ → R) → List ℕ → Type 0
Final call image = (more : List ℕ) → call (image ++ more) ≡ call image

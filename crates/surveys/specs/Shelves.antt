-- Each image of a shelf, and the shelf as a whole.
use Rattle.std.specs.Prelude.{List, [], map, ◌⊎◌, ◌≡◌, ℕ, ◌<◌, ◌+◌, ◌*◌, get_or, length, Option}
use Rattle.disc.specs.Refusals.{number}
use Rattle.disc.specs.Ask.{Disc, Outcome}
use Rattle.disc.specs.Ask.Outcome.{answered, refused}
use Rattle.disc.specs.Images.{disc}
use Rattle.disc.specs.Ran.{Ran, ran}
use Rattle.disc.specs.Budgets.{budgeted, left_of}
use Rattle.disc.specs.declared.places.Mount.{Mount}
use Rattle.disc.specs.declared.refusals.Refusal.{Refusal}
use Rattle.volumes.specs.Choices.{opening_by}
use Rattle.volumes.specs.declared.openings.VolumeRecord.{VolumeRecord}
use Rattle.shows.specs.Shows.{Node, tree, most_levels}
use Rattle.shows.specs.Tallies.{read_counts}
use Rattle.figures.specs.Figures.{one_image, Figures, all_added, sum}
use Rattle.surveys.specs.Surveys.{of_image, images}
use Rattle.volumes.specs.declared.openings.How.{How}

-- an image that is refused counts under its number, which isn't 0, and has no other figure
pub record Alone (how : Option How) (most work : ℕ) (image : List ℕ) (why : Refusal) : Type 0 where
  pub is : of_image how most work image ≡ one_image (number why)
  pub numbered : number why ≡ 0 → ⊥

-- ---- the runs of an image that is lent `most` sectors: the opening, the tree with what that left, and what both left for the reads

abbrev pub lent_opening : Option How → ℕ → List ℕ → Ran VolumeRecord
lent_opening how most image = ran (disc image) (budgeted most (opening_by how))

abbrev pub lent_tree : Option How → ℕ → ℕ → List ℕ → VolumeRecord → Ran (List Node)
lent_tree how most work image v = ran (disc image) (budgeted (left_of most (lent_opening how most image).count) (tree v.mount most_levels work v.root))

abbrev pub lent_reads : Option How → ℕ → ℕ → List ℕ → VolumeRecord → ℕ
lent_reads how most work image v = left_of (left_of most (lent_opening how most image).count) (lent_tree how most work image v).count

-- ---- how many sectors the survey of an image asks for with no budget: those of its opening, of its tree, and of the reads of its files

abbrev pub reads_want : Disc → Mount → Outcome (List Node) → ℕ
reads_want d m (answered ns) = sum (read_counts d m ns)
reads_want d m (refused why) = 0

abbrev pub tree_wants : Disc → Mount → Ran (List Node) → ℕ
tree_wants d m r = r.count + reads_want d m r.outcome

abbrev pub volume_wants : Disc → ℕ → Outcome VolumeRecord → ℕ
volume_wants d work (answered v) = tree_wants d v.mount (ran d (tree v.mount most_levels work v.root))
volume_wants d work (refused why) = 0

abbrev pub opening_wants : Disc → ℕ → Ran VolumeRecord → ℕ
opening_wants d work r = r.count + volume_wants d work r.outcome

unfoldable pub image_wants : Option How → ℕ → List ℕ → ℕ
image_wants how work image = opening_wants (disc image) work (ran (disc image) (opening_by how))

-- ---- a shelf

-- the i-th image
abbrev pub image_at : List ℕ → List ℕ → ℕ → List ℕ
image_at lengths shelf i = get_or (images lengths shelf) i []

-- the figures of the images, and of the shelf
abbrev pub each_of : Option How → ℕ → ℕ → List ℕ → List ℕ → List Figures
each_of how most work lengths shelf = map (of_image how most work) (images lengths shelf)

abbrev pub shelf_of : Option How → ℕ → ℕ → List ℕ → List ℕ → Figures
shelf_of how most work lengths shelf = all_added (each_of how most work lengths shelf)

-- the lengths exceed the bytes lent, or there are too few places for the images and the shelf
abbrev pub Short : List ℕ → List ℕ → List ℕ → Type 0
Short shelf lengths figures = (length shelf < sum lengths) ⊎ (length figures < 80 * (length lengths + 1))

-- one of the figures has this chain
pub record OneOf (fs : List Figures) (d : Figures) (chain : ℕ) : Type 0 where
  pub which : ℕ
  pub inside : which < length fs
  pub is : (get_or fs which d).chain ≡ chain

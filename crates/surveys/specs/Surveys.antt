-- Figures over a shelf of images, one after another: RULES 16.6 to 16.10, and 16.13.
use Rattle.std.specs.Prelude.{ℕ, ◌+◌, ◌*◌, Bool, ◌&&◌, List, [], ◌∷◌, ◌++◌, map, length, take, drop, replicate, leb, Option}
use Rattle.disc.specs.Choice.{pick}
use Rattle.disc.specs.Refusals.{number}
use Rattle.disc.specs.Ask.{Disc, Outcome}
use Rattle.disc.specs.Ask.Outcome.{answered, refused}
use Rattle.disc.specs.Ran.{Ran, ran}
use Rattle.disc.specs.Budgets.{budgeted, left_of}
use Rattle.disc.specs.Images.{disc}
use Rattle.disc.specs.declared.refusals.Refusal.TheVariants.{BadShelf}
use Rattle.volumes.specs.Choices.{opening_by}
use Rattle.volumes.specs.declared.openings.VolumeRecord.{VolumeRecord}
use Rattle.figures.specs.Figures.{Figures, one_image, added, all_added, rows, place, sum}
use Rattle.shows.specs.Tallies.{Tally, tree_tally}
use Rattle.volumes.specs.declared.openings.How.{How}

-- ---- of an image: where its opening or tree is refused, or it wants more sectors than it is lent, it counts under that number, and all else is 0

-- the figures of its tree, and one image
abbrev pub image_by : Tally → Figures
image_by t = added t.figures (one_image t.answer)

-- the tree and the reads have what the opening has left
abbrev pub volume_by : Disc → ℕ → ℕ → Outcome VolumeRecord → Figures
volume_by d left work (answered v) = image_by (tree_tally d v.mount v.root left work)
volume_by d left work (refused why) = one_image (number why)

abbrev pub volume_of : Disc → ℕ → ℕ → Ran VolumeRecord → Figures
volume_of d most work r = volume_by d (left_of most r.count) work r.outcome

-- `most` is how many sectors it is lent, and `work` how many bytes of work space there are
unfoldable pub of_image : Option How → ℕ → ℕ → List ℕ → Figures
of_image how most work image = volume_of (disc image) most work (ran (disc image) (budgeted most (opening_by how)))

-- ---- of a shelf

-- the images, by their lengths
unfoldable pub images : List ℕ → List ℕ → List (List ℕ)
images [] shelf = []
images (n ∷ ns) shelf = take n shelf ∷ images ns (drop n shelf)

-- images in the order given, and the shelf last
abbrev pub with_total : List Figures → List Figures
with_total each = each ++ all_added each ∷ []

-- each image is lent `most` sectors anew
unfoldable pub surveyed : Option How → ℕ → ℕ → List ℕ → List ℕ → List Figures
surveyed how most work lengths shelf = with_total (map (of_image how most work) (images lengths shelf))

-- ---- the call

-- the lengths don't exceed the bytes lent, and there is a place for each image and for the shelf
abbrev pub fits : List ℕ → List ℕ → List ℕ → Bool
fits shelf lengths figures = leb (sum lengths) (length shelf) && leb (place * (length lengths + 1)) (length figures)

pub record Surveyed : Type 0 where
  pub answer : ℕ
  pub figures : List ℕ
  pub work : List ℕ

-- the call: refusal 15 comes first, and then only the zeros of the work space are written
abbrev pub surveys : Option How → ℕ → List ℕ → List ℕ → List ℕ → List ℕ → Surveyed
surveys how most shelf lengths figures work =
    pick (fits shelf lengths figures)
    (record {
      answer = 0;
      figures = rows (surveyed how most (length work) lengths shelf) ++ drop (place * (length lengths + 1)) figures;
      work = replicate (length work) 0;
    })
    (record { answer = number BadShelf; figures = figures; work = replicate (length work) 0 })

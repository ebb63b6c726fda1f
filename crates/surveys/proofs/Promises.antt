-- What is promised of a survey, from the definitions alone: exactly when it is 15, where the figures of each image and of the shelf stand, what an image that is refused
-- leaves, what the shelf's sectors and chain are to the images', that over carries, and that images may be surveyed one by one. RULES 16. Assumes nothing.
use Rattle.std.specs.Prelude.{Option, None}
use mathlib.Core.Path.{◌≡◌, refl, ap, sym, ◌∙◌}
use mathlib.Core.Bool.{Bool, true, false, ◌&&◌}
use mathlib.Core.List.{List, [], ◌∷◌, ◌++◌, map, append_assoc}
use mathlib.Core.Logic.{◌⊎◌, inl, inr, ⊎_elim}
use Prim.Native.Nat.{ℕ, zero, suc, ◌+◌, ◌*◌, ◌<◌, ◌≤◌}
use native.Mathlib.Nat.{add-zero}
use native.Mathlib.Omega.{arith}
use lib.ListN.{length, get_or, take, drop, replicate, length-map, get_or-map}
use lib.Seq.{drop-drop, drop_at, take_at, take-length}
use lib.Dec.{leb}
use borrow.Author.Tests.{le-leb, lt-leb}
use Rattle.disc.specs.Choice.{pick}
use Rattle.disc.specs.Images.{disc}
use Rattle.disc.specs.Refusals.{number}
use Rattle.disc.specs.Ask.Ask.{refuse}
use Rattle.disc.specs.Ask.Outcome.{answered, refused}
use Rattle.disc.specs.declared.refusals.Refusal.{Refusal}
use Rattle.disc.specs.declared.refusals.Refusal.TheVariants.{Unsupported, OverBudget}
use Rattle.disc.proofs.ImageLaws.{split}
use Rattle.disc.proofs.RanLaws.{ran-refuse}
use Rattle.disc.proofs.BudgetLaws.{budgeted-ran}
use Rattle.disc.proofs.RefusalLaws.{refusal-numbered, refusal-listed}
use Rattle.volumes.specs.declared.openings.VolumeRecord.{VolumeRecord}
use Rattle.figures.specs.Figures.{Figures, nothing, one_image, added, added_to, all_added, row, rows, numbers, pairs, totaled, sum, AllWide}
use Rattle.figures.proofs.FigureLaws.{zero-holds, row-long, rows_long, rows-total, added_to-wide, marked-over, over-mark}
use Rattle.shows.specs.Shows.{Node}
use Rattle.shows.specs.Tallies.{of_nodes, read_counts, reads_within}
use Rattle.shows.proofs.Tallying.{sectors-summed}
use Rattle.surveys.specs.Surveys.{Surveyed, of_image, images, surveyed, fits, surveys}
use Rattle.surveys.proofs.ImageLaws.{none-added}
use Rattle.surveys.proofs.ShelfLaws.{all-wide, images-long, rows-with-total}
use Rattle.surveys.proofs.TotalLaws.{rows-place, sectors-to, chain-most, chain-one, below_total}
use Rattle.surveys.specs.Shelves.{OneOf, Alone, image_at, each_of, shelf_of, Short, lent_opening, lent_tree, lent_reads}
use Rattle.volumes.specs.declared.openings.How.{How}

-- ---- an image, and its figures (RULES 16.7)

module _ (how : Option How) (most work : ℕ) (image : List ℕ) where
  pub opening-alone : {why : Refusal} → (lent_opening how most image).outcome ≡ refused why → (Alone how most work image) why
  unfolding of_image
  opening-alone {why} e = record { is = rw e; numbered = refusal-numbered why }

  module _ {v : VolumeRecord} (o : (lent_opening how most image).outcome ≡ answered v) where
    pub tree-alone : {why : Refusal} → (lent_tree how most work image v).outcome ≡ refused why → (Alone how most work image) why
    unfolding of_image
    tree-alone {why} e = record { is = rw (o, e) (none-added (number why) (refusal-listed why)); numbered = refusal-numbered why }

    module _ {ns : List Node} (e : (lent_tree how most work image v).outcome ≡ answered ns) where
      -- the reads want more than it left: 16
      pub reads-alone : reads_within (disc image) v.mount (lent_reads how most work image v) ns ≡ false → (Alone how most work image) OverBudget
      unfolding of_image
      reads-alone w = record { is = rw (o, e, w) (none-added 16 (omega arith)); numbered = refusal-numbered OverBudget }

      module _ (w : reads_within (disc image) v.mount (lent_reads how most work image v) ns ≡ true) where
        -- of any other, those of its nodes, and one image under 0
        pub image-tallied : of_image how most work image ≡ added (of_nodes (disc image) v.mount ns) (one_image 0)
        unfolding of_image
        image-tallied = rw (o, e, w)

        -- its sectors are the sum of what the reads of its files count (RULES 16.12)
        pub image-sectors : (of_image how most work image).sectors ≡ sum (read_counts (disc image) v.mount ns)
        image-sectors = ap (λ (f : Figures). f.sectors) image-tallied ∙ add-zero (of_nodes (disc image) v.mount ns).sectors ∙ sectors-summed (disc image) v.mount ns

-- a number with a bit of no choice is 4 for each
pub unknown-4 : (most work : ℕ) (image : List ℕ) → of_image None most work image ≡ one_image 4
unfolding of_image
unknown-4 most work image = rw (budgeted-ran {A = VolumeRecord} (disc image) (refuse Unsupported) most, ran-refuse {A = VolumeRecord} (disc image) Unsupported, le-leb 0 most (omega arith))

-- ---- the images of a shelf (RULES 16.6)

-- each as long as its place in the row of lengths says, behind those before it
pub image-stands : (lengths shelf : List ℕ) (i : ℕ) → i < length lengths → image_at lengths shelf i ≡ take (get_or lengths i 0) (drop (sum (take i lengths)) shelf)
unfolding images sum
image-stands [] shelf i h = absurd (omega arith)
image-stands (n ∷ ns) shelf zero h = refl
image-stands (n ∷ ns) shelf (suc i) h = image-stands ns (drop n shelf) i (omega arith) ∙ ap (take (get_or ns i 0)) (drop-drop (sum (take i ns)) n shelf)

-- ---- the call

and-false : (b : Bool) → (b && false) ≡ false
and-false true = refl
and-false false = refl

module _ (how : Option How) (most : ℕ) (shelf lengths figures work : List ℕ) where
  both : Bool → Surveyed
  both b =
      pick b
      (record { answer = 0; figures = rows (surveyed how most (length work) lengths shelf) ++ drop (80 * (length lengths + 1)) figures; work = replicate (length work) 0 })
      (record { answer = 15; figures = figures; work = replicate (length work) 0 })

  -- the work space is all zero, whatever the answer
  pub work-zeros : (surveys how most shelf lengths figures work).work ≡ replicate (length work) 0
  unfolding both
  work-zeros = by (fits shelf lengths figures)
    where
      by : (b : Bool) → (both b).work ≡ replicate (length work) 0
      by true = refl
      by false = refl

  -- the answer is 0 or 15
  pub survey-answers : ((surveys how most shelf lengths figures work).answer ≡ 0) ⊎ ((surveys how most shelf lengths figures work).answer ≡ 15)
  unfolding both
  survey-answers = by (fits shelf lengths figures)
    where
      by : (b : Bool) → ((both b).answer ≡ 0) ⊎ ((both b).answer ≡ 15)
      by true = inl refl
      by false = inr refl

  -- ---- 15, exactly when (RULES 16.9), and then nothing is written but the zeros of the work space

  pub survey-15 : (Short shelf lengths figures) → surveys how most shelf lengths figures work ≡ record { answer = 15; figures = figures; work = replicate (length work) 0 }
  survey-15 = ⊎_elim
      (λ (h : length shelf < sum lengths). rw (lt-leb (sum lengths) (length shelf) h))
      (λ (h : length figures < 80 * (length lengths + 1)). rw (lt-leb (80 * (length lengths + 1)) (length figures) h, and-false (leb (sum lengths) (length shelf))))

  pub survey-0 : sum lengths ≤ length shelf → 80 * (length lengths + 1) ≤ length figures → (surveys how most shelf lengths figures work).answer ≡ 0
  survey-0 h k = rw (le-leb (sum lengths) (length shelf) h, le-leb (80 * (length lengths + 1)) (length figures) k)

  pub bad-shelf-15 : (surveys how most shelf lengths figures work).answer ≡ 15 → (Short shelf lengths figures)
  bad-shelf-15 e = ⊎_elim
      (λ (h : sum lengths ≤ length shelf). ⊎_elim
      (λ (k : 80 * (length lengths + 1) ≤ length figures). absurd (let z = survey-0 h k in omega arith))
      (λ (k : length figures < 80 * (length lengths + 1)). inr k)
      (split (80 * (length lengths + 1)) (length figures)))
      (λ (h : length shelf < sum lengths). inl h)
      (split (sum lengths) (length shelf))

  -- ---- where the figures stand (RULES 16.10)

  module _ (h : sum lengths ≤ length shelf) (k : 80 * (length lengths + 1) ≤ length figures) where
    each : List Figures
    each = each_of how most (length work) lengths shelf

    each-wide : AllWide each
    unfolding each
    each-wide = all-wide how most (length work) (images lengths shelf)

    each-many : length each ≡ length lengths
    unfolding each
    each-many = length-map (images lengths shelf) (of_image how most (length work)) ∙ images-long lengths shelf

    behind : List ℕ
    behind = row (all_added each) ++ drop (80 * (length lengths + 1)) figures

    figures-are : (surveys how most shelf lengths figures work).figures ≡ rows each ++ behind
    unfolding each behind surveyed
    figures-are =
        rw (le-leb (sum lengths) (length shelf) h, le-leb (80 * (length lengths + 1)) (length figures) k, rows-with-total each)
        (append_assoc (rows each) (row (all_added each)) (drop (80 * (length lengths + 1)) figures))

    behind-each : drop (80 * length lengths) (surveys how most shelf lengths figures work).figures ≡ behind
    behind-each = rw figures-are (drop_at (rows each) behind (80 * length lengths) (rows_long each-wide ∙ rw each-many))

    total-long : length (row (all_added each)) ≡ 80
    total-long = row-long (added_to-wide each zero-holds.wide)

    -- the place of an image
    pub image-place : (i : ℕ) → i < length lengths → take 80 (drop (80 * i) (surveys how most shelf lengths figures work).figures) ≡ row (of_image how most (length work) (image_at lengths shelf i))
    unfolding each
    image-place i l =
        rw figures-are (rows-place each-wide i (rw each-many l) (of_image how most (length work) []) behind
        ∙ ap row (get_or-map (of_image how most (length work)) (images lengths shelf) i []))

    -- the shelf's, behind them
    pub shelf-place : take 80 (drop (80 * length lengths) (surveys how most shelf lengths figures work).figures) ≡ row (shelf_of how most (length work) lengths shelf)
    unfolding each behind
    shelf-place = rw behind-each (take_at (row (all_added each)) (drop (80 * (length lengths + 1)) figures) 80 total-long)

    -- numbers behind that stay as they came
    pub behind-stays : drop (80 * (length lengths + 1)) (surveys how most shelf lengths figures work).figures ≡ drop (80 * (length lengths + 1)) figures
    unfolding behind
    behind-stays =
        let e : 80 * (length lengths + 1) ≡ 80 * length lengths + 80 = omega arith in
        let b : drop 80 (drop (80 * length lengths) (surveys how most shelf lengths figures work).figures) ≡ drop (80 * (length lengths + 1)) figures =
        rw behind-each (drop_at (row (all_added each)) (drop (80 * (length lengths + 1)) figures) 80 total-long) in
        ap (λ (n : ℕ). drop n (surveys how most shelf lengths figures work).figures) e ∙ sym (drop-drop 80 (80 * length lengths) (surveys how most shelf lengths figures work).figures) ∙ b

  -- ---- the shelf's figures (RULES 16.8)

  -- its sectors are the sum of the images'
  pub shelf-sectors : (shelf_of how most (length work) lengths shelf).sectors ≡ sum (map (λ (f : Figures). f.sectors) (each_of how most (length work) lengths shelf))
  shelf-sectors = sectors-to (each_of how most (length work) lengths shelf) nothing ∙ omega arith

  in-each : (i : ℕ) → i < length lengths → i < length (each_of how most (length work) lengths shelf)
  in-each i l = rw (length-map (images lengths shelf) (of_image how most (length work)), images-long lengths shelf) l

  at_each : (i : ℕ) → get_or (each_of how most (length work) lengths shelf) i (of_image how most (length work) []) ≡ of_image how most (length work) (image_at lengths shelf i)
  at_each i = get_or-map (of_image how most (length work)) (images lengths shelf) i []

  -- its chain is at least each image's, and is that of one of them, or 0
  pub shelf-chain-most : (i : ℕ) → i < length lengths → (of_image how most (length work) (image_at lengths shelf i)).chain ≤ (shelf_of how most (length work) lengths shelf).chain
  shelf-chain-most i l = rw (at_each i) at (chain-most (each_of how most (length work) lengths shelf) nothing i (in-each i l) (of_image how most (length work) []))

  pub shelf-chain-one : ((shelf_of how most (length work) lengths shelf).chain ≡ 0) ⊎ OneOf (each_of how most (length work) lengths shelf) (of_image how most (length work) []) (shelf_of how most (length work) lengths shelf).chain
  shelf-chain-one = chain-one (each_of how most (length work) lengths shelf) nothing (of_image how most (length work) [])

  -- the k-th figure of an image, marked as over, is so of the shelf
  pub over-carries : (i : ℕ) → i < length lengths → (k : ℕ)
      → get_or (row (of_image how most (length work) (image_at lengths shelf i))) (2 * k + 1) 0 ≡ 1 → get_or (row (shelf_of how most (length work) lengths shelf)) (2 * k + 1) 0 ≡ 1
  unfolding row
  over-carries i l k e =
      let b = rw (at_each i) at (below_total (all-wide how most (length work) (images lengths shelf)) zero-holds.wide i (in-each i l) (of_image how most (length work) [])) in
      let m = marked-over (numbers (of_image how most (length work) (image_at lengths shelf i))) k e in
      over-mark (numbers (shelf_of how most (length work) lengths shelf)) k (omega (arith, m, b.no_less k))

-- ---- no images: one place suffices

pub no-images : (how : Option How) (most : ℕ) (shelf figures work : List ℕ) → 80 ≤ length figures
    → surveys how most shelf [] figures work ≡ record { answer = 0; figures = replicate 80 0 ++ drop 80 figures; work = replicate (length work) 0 }
unfolding surveyed images sum rows row pairs added_to
no-images how most shelf figures work h = rw (le-leb 0 (length shelf) (omega arith), le-leb 80 (length figures) h)

-- ---- images one by one (RULES 16.11): each surveyed by itself, and their places added up by the second call

pub by_itself : (how : Option How) (most : ℕ) (image figures work : List ℕ) → 160 ≤ length figures
    → take 80 (surveys how most image (length image ∷ []) figures work).figures ≡ row (of_image how most (length work) image)
unfolding images sum
by_itself how most image figures work h =
    image-place how most image (length image ∷ []) figures work (omega arith) (omega arith) 0 (omega arith) ∙ ap (λ s. row (of_image how most (length work) s)) (take-length image)

pub one_by_one : (how : Option How) (most work : ℕ) (l : List (List ℕ)) (rest : List ℕ) → 80 ≤ length rest
    → totaled (length l) (rows (map (of_image how most work) l) ++ rest) ≡ rows (map (of_image how most work) l) ++ row (all_added (map (of_image how most work) l)) ++ drop 80 rest
one_by_one how most work l rest h = rw (length-map l (of_image how most work)) at (rows-total (all-wide how most work l) rest h)

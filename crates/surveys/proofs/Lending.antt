-- What is promised of the sectors that a survey lends to each image: one that wants more is one image under 16 and nothing else, any other has the figures that it has
-- with no budget, and no file is counted under 16. RULES 16.13. Assumes nothing.
use Rattle.std.specs.Prelude.{Option}
use mathlib.Core.Path.{◌≡◌, refl, ap, sym, ◌∙◌}
use mathlib.Core.Bool.{Bool, true, false}
use mathlib.Core.List.{List, [], ◌∷◌}
use mathlib.Core.Logic.{⊎_elim}
use Prim.Native.Nat.{ℕ, ◌+◌, ◌≤◌, ◌<◌}
use native.Mathlib.Omega.{arith}
use lib.ListN.{length, get_or}
use lib.Dec.{eqb, leb}
use borrow.Author.Tests.{le-leb, lt-leb}
use Rattle.disc.specs.Choice.{pick}
use Rattle.disc.specs.Counts.{reported}
use Rattle.disc.specs.Refusals.{number}
use Rattle.disc.specs.Replies.{answer_of}
use Rattle.disc.specs.Images.{disc}
use Rattle.disc.specs.Ask.{Disc, Outcome}
use Rattle.disc.specs.Ask.Outcome.{answered, refused}
use Rattle.disc.specs.Ran.{Ran, ran}
use Rattle.disc.specs.Budgets.{unlimited, budgeted, left_of, is_over}
use Rattle.disc.specs.declared.places.Mount.{Mount}
use Rattle.disc.specs.declared.refusals.Refusal.TheVariants.{OverBudget}
use Rattle.disc.proofs.BudgetLaws.{budgeted-same, budgeted-over, left-enough}
use Rattle.disc.proofs.ImageLaws.{split}
use Rattle.records.specs.declared.allocations.LongAd.{LongAd}
use Rattle.volumes.specs.Choices.{opening_by}
use Rattle.volumes.specs.declared.openings.VolumeRecord.{VolumeRecord}
use Rattle.figures.specs.Figures.{nothing, one_image, sum}
use Rattle.figures.proofs.RowLaws.{each_none}
use Rattle.shows.specs.Shows.{Node, tree, most_levels}
use Rattle.shows.specs.Sums.{files_in, answering, read_of}
use Rattle.shows.specs.Tallies.{of_nodes, read_counts, reads_within, Tally, tally_by, tally_of, tree_tally}
use Rattle.shows.proofs.LentLaws.{read-not-over, reads-enough}
use Rattle.shows.proofs.Summing.{nodes-summed}
use Rattle.surveys.specs.Surveys.{image_by, volume_by, volume_of, of_image}
use Rattle.surveys.specs.Shelves.{reads_want, tree_wants, volume_wants, image_wants}
use Rattle.surveys.proofs.ImageLaws.{none-added}
use Rattle.volumes.specs.declared.openings.How.{How}

-- ---- a tree and the reads of its files

abbrev over : Tally
over = record { answer = number OverBudget; figures = nothing }

module _ (d : Disc) (m : Mount) (root : LongAd) (left work : ℕ) where
  abbrev T : Ran (List Node)
  T = ran d (tree m most_levels work root)

  -- what is lent suffices exactly where it suffices for all that is wanted
  tally-lent : tree_tally d m root left work ≡ pick (leb (reported (tree_wants d m T)) left) (tree_tally d m root unlimited work) over
  tally-lent = ⊎_elim
      (λ (h : reported T.count ≤ left). ap (tally_of d m left) (budgeted-same d (tree m most_levels work root) left h) ∙ by h T.outcome)
      (λ (h : left < reported T.count).
      ap (tally_of d m left) (budgeted-over d (tree m most_levels work root) left h)
      ∙ sym (ap (λ b. pick b (tree_tally d m root unlimited work) over) (lt-leb (reported (tree_wants d m T)) left (omega arith))))
      (split (reported T.count) left)
    where
      by : reported T.count ≤ left → (o : Outcome (List Node)) → tally_by d m (left_of left T.count) o ≡ pick (leb (reported (T.count + reads_want d m o)) left) (tally_by d m unlimited o) over
      by h (answered ns) =
          let a : reads_within d m (left_of left T.count) ns ≡ leb (reported (T.count + sum (read_counts d m ns))) left =
          reads-enough d m (left_of left T.count) ns ∙ left-enough left T.count (sum (read_counts d m ns)) h in
          let b : reads_within d m unlimited ns ≡ true = reads-enough d m unlimited ns ∙ le-leb (reported (sum (read_counts d m ns))) unlimited (omega arith) in
          rw (a, b)
      by h (refused why) = rw (le-leb (reported (T.count + 0)) left (omega arith))

-- ---- an image

module _ (how : Option How) (work : ℕ) (image : List ℕ) where
  abbrev O : Ran VolumeRecord
  O = ran (disc image) (opening_by how)

  -- 16 exactly where its opening, its tree and the reads of its files ask for more sectors than are lent; else its figures are those that it has with no budget
  pub image_lent : (most : ℕ) → of_image how most work image ≡ pick (leb (reported (image_wants how work image)) most) (of_image how unlimited work image) (one_image 16)
  unfolding of_image image_wants
  image_lent most = ⊎_elim
      (λ (h : reported O.count ≤ most). ap (volume_of (disc image) most work) (budgeted-same (disc image) (opening_by how) most h) ∙ by h O.outcome)
      (λ (h : most < reported O.count).
      ap (volume_of (disc image) most work) (budgeted-over (disc image) (opening_by how) most h)
      ∙ sym (ap (λ b. pick b (volume_of (disc image) unlimited work O) (one_image 16)) (lt-leb (reported (O.count + volume_wants (disc image) work O.outcome)) most (omega arith))))
      (split (reported O.count) most)
    where
      counted : (b : Bool) (t : Tally) → image_by (pick b t over) ≡ pick b (image_by t) (one_image 16)
      counted true t = refl
      counted false t = none-added 16 (omega arith)

      by : reported O.count ≤ most → (o : Outcome VolumeRecord)
          → volume_by (disc image) (left_of most O.count) work o ≡ pick (leb (reported (O.count + volume_wants (disc image) work o)) most) (volume_by (disc image) unlimited work o) (one_image 16)
      by h (answered v) =
          let left = left_of most O.count in
          let wants = tree_wants (disc image) v.mount (ran (disc image) (tree v.mount most_levels work v.root)) in
          ap image_by (tally-lent (disc image) v.mount v.root left work)
          ∙ counted (leb (reported wants) left) (tree_tally (disc image) v.mount v.root unlimited work)
          ∙ ap (λ b. pick b (image_by (tree_tally (disc image) v.mount v.root unlimited work)) (one_image 16)) (left-enough most O.count wants h)
      by h (refused why) = rw (le-leb (reported (O.count + 0)) most (omega arith))

-- ---- no file is counted under 16

answer-over : (o : Outcome (List ℕ)) → eqb (answer_of o) 16 ≡ is_over o
answer-over (answered b) = refl
answer-over (refused why) = refl

none_over : (d : Disc) (m : Mount) (ns : List Node) → answering d m 16 ns ≡ []
unfolding answering
none_over d m [] = refl
none_over d m (n ∷ ns) = rw (answer-over (read_of d m n).outcome ∙ read-not-over d m n.entry.identifier.icb) (none_over d m ns)

tally-16 : (d : Disc) (m : Mount) (left : ℕ) (o : Outcome (List Node)) → get_or (tally_by d m left o).figures.by_files 16 0 ≡ 0
tally-16 d m left (refused why) = refl
tally-16 d m left (answered ns) = by (reads_within d m left ns)
  where
    by : (t : Bool) → get_or (pick t (record { answer = 0; figures = of_nodes d m ns }) over).figures.by_files 16 0 ≡ 0
    by true = (nodes-summed d m ns).by_files 16 (omega arith) ∙ ap length (none_over d m (files_in ns))
    by false = refl

pub no-file-16 : (how : Option How) (most work : ℕ) (image : List ℕ) → get_or (of_image how most work image).by_files 16 0 ≡ 0
unfolding of_image
no-file-16 how most work image = let r = ran (disc image) (budgeted most (opening_by how)) in by (left_of most r.count) r.outcome
  where
    d : Disc
    d = disc image

    by : (left : ℕ) (o : Outcome VolumeRecord) → get_or (volume_by d left work o).by_files 16 0 ≡ 0
    by left (refused why) = refl
    by left (answered v) =
        let t = ran d (budgeted left (tree v.mount most_levels work v.root)) in
        rw (each_none (tree_tally d v.mount v.root left work).figures.by_files 17) (tally-16 d v.mount (left_of left t.count) t.outcome)

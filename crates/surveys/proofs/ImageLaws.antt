-- What holds of the figures of an image: what the functions cite that open it and fill its place. Assumes nothing.
use Rattle.std.specs.Prelude.{Option, Some, None}
use mathlib.Core.Path.{◌≡◌, refl, ap, sym, ◌∙◌}
use mathlib.Core.Bool.{Bool, true, false}
use mathlib.Core.List.{List, [], ◌∷◌, map}
use Prim.Native.Nat.{ℕ, zero, suc, ◌-◌, ◌≤◌, ◌<◌, ◌^◌, min}
use native.Mathlib.Nat.{zero-add}
use native.Mathlib.Omega.{arith}
use lib.ListN.{length, replicate, length-append, length-replicate}
use Rattle.disc.specs.Images.{disc}
use Rattle.disc.specs.Ask.{Disc, Outcome}
use Rattle.disc.specs.Ask.Outcome.{answered, refused}
use Rattle.disc.specs.Ran.{Ran, ran}
use Rattle.disc.specs.Choice.{pick}
use Rattle.disc.specs.Budgets.{budgeted, left_of}
use borrow.Author.Tests.{eq-eqb}
use Rattle.disc.specs.Refusals.{number}
use Rattle.disc.specs.Counts.{reported}
use Rattle.disc.specs.declared.places.Mount.{Mount}
use Rattle.disc.specs.declared.refusals.Refusal.TheVariants.{Unsupported, OverBudget}
use Rattle.disc.proofs.BudgetLaws.{budgeted-same, budgeted-over, budgeted-left}
use Rattle.disc.proofs.RanLaws.{ran-refuse}
use Rattle.disc.proofs.RefusalLaws.{refusal-listed, refusal-numbered}
use Rattle.volumes.specs.Choices.{opening_by}
use Rattle.volumes.specs.Openings.{opening, opened_by, opened_of, no_volume}
use Rattle.volumes.specs.declared.openings.How.{How}
use Rattle.volumes.specs.declared.openings.Opened.{Opened}
use Rattle.volumes.specs.declared.openings.VolumeRecord.{VolumeRecord}
use Rattle.records.specs.declared.allocations.LongAd.{LongAd}
use Rattle.figures.specs.Figures.{Wide, Holds, nothing, one_at, one_image, added, each_added, row}
use Rattle.figures.specs.Placed.{with_image}
use Rattle.figures.proofs.AddLaws.{image-adds}
use Rattle.figures.proofs.FigureLaws.{zero-holds, added-wide, added_to-wide}
use Rattle.shows.specs.Shows.{Node, tree, most_levels}
use Rattle.shows.specs.Tallies.{of_node, of_nodes, reads_within, Tally, tally_by, tree_tally, Tallies, tallies}
use Rattle.surveys.specs.Surveys.{image_by, volume_by, of_image}

-- ---- the opening

module _ (image : List ℕ) {how : Option How} where
  pub open_unknown : how ≡ None → {r : Opened} → r ≡ record { answer = 4; count = 0; volume = no_volume } → r ≡ opened_of (ran (disc image) (opening_by how))
  open_unknown u e = e ∙ rw (u, ran-refuse (disc image) Unsupported)

  pub open-known : {choices : How} → how ≡ Some choices → {r : Opened} → r ≡ opened_of (ran (disc image) (opening choices)) → r ≡ opened_of (ran (disc image) (opening_by how))
  open-known k e = rw k e

module _ (image : List ℕ) (how : Option How) (most : ℕ) {r : Opened} (q : r ≡ opened_of (ran (disc image) (opening_by how))) where
  abbrev O : Ran VolumeRecord
  O = ran (disc image) (opening_by how)

  counted : r.count ≡ reported O.count
  counted = rw q (by (reported O.count) O.outcome)
    where
      by : (n : ℕ) (o : Outcome VolumeRecord) → (opened_by n o).count ≡ n
      by n (answered v) = refl
      by n (refused why) = refl

  -- it wants more sectors than are lent, or not
  pub open-over : most < r.count → most < 2 ^ 64 → {a : ℕ} → a ≡ 16 → {t : Opened} → t ≡ record { answer = a; count = most; volume = no_volume } → t ≡ opened_of (ran (disc image) (budgeted most (opening_by how)))
  open-over h b {a} g e =
      let c : most ≡ reported most = omega arith in
      let z : most < reported O.count = omega (arith, counted) in
      e ∙ rw (g, ← c) refl ∙ sym (ap opened_of (budgeted-over (disc image) (opening_by how) most z))

  pub open-enough : r.count ≤ most → r ≡ opened_of (ran (disc image) (budgeted most (opening_by how)))
  open-enough h = q ∙ sym (ap opened_of (budgeted-same (disc image) (opening_by how) most (omega (arith, counted))))

-- ---- one image, under its number

each-zeros : (l : List ℕ) (k : ℕ) → length l ≡ k → each_added (replicate k 0) l ≡ l
unfolding each_added
each-zeros [] zero e = refl
each-zeros [] (suc k) e = absurd (omega arith)
each-zeros (a ∷ l) zero e = absurd (omega arith)
each-zeros (a ∷ l) (suc k) e = rw (zero-add, each-zeros l k (omega arith))

module _ (n : ℕ) (h : n ≤ 16) where
  one-long : length (one_at n) ≡ 17
  one-long = length-append (replicate n 0) (1 ∷ replicate (16 - n) 0) ∙ omega (arith, length-replicate {A = ℕ} n 0, length-replicate {A = ℕ} (16 - n) 0)

  pub one-wide : Wide (one_image n)
  one-wide = record { files-wide = refl; images-wide = one-long }

  pub none-added : added nothing (one_image n) ≡ one_image n
  unfolding each_added
  none-added = rw (each-zeros (one_at n) 17 one-long)

  -- in a place of zeros
  pub one-counted : (s : List ℕ) {t u : List ℕ} → length s ≡ 80 → t ≡ replicate (length s) 0 → u ≡ with_image (min n 16) t → Holds (one_image n) u
  one-counted s {t} e f g =
      let z : Holds nothing t = rw (f, e) zero-holds in
      let k : min n 16 ≡ n = omega arith in
      let w : Holds (added nothing (one_image n)) (with_image n t) = image-adds n h t nothing z in
      rw (g, k) (rw none-added at w)

-- ---- a tree with its reads: a number of the table, and a count for each answer number

nodes-wide : (d : Disc) (m : Mount) (ns : List Node) → Wide (of_nodes d m ns)
nodes-wide d m ns = added_to-wide (map (of_node d m) ns) zero-holds.wide

pub record Listed (t : Tally) : Type 0 where
  pub small : t.answer ≤ 16
  pub wide : Wide t.figures

pub tally-listed : (d : Disc) (m : Mount) (root : LongAd) (most work : ℕ) → Listed (tree_tally d m root most work)
tally-listed d m root most work = by (ran d (budgeted most (tree m most_levels work root))).count (ran d (budgeted most (tree m most_levels work root))).outcome
  where
    read : (ns : List Node) (t : Bool) → Listed (pick t (record { answer = 0; figures = of_nodes d m ns }) (record { answer = number OverBudget; figures = nothing }))
    read ns true = record { small = omega arith; wide = nodes-wide d m ns }
    read ns false = record { small = omega arith; wide = zero-holds.wide }

    by : (n : ℕ) (o : Outcome (List Node)) → Listed (tally_by d m (left_of most n) o)
    by n (answered ns) = read ns (reads_within d m (left_of most n) ns)
    by n (refused why) = record { small = refusal-listed why; wide = zero-holds.wide }

volume-wide : (d : Disc) (left work : ℕ) (o : Outcome VolumeRecord) → Wide (volume_by d left work o)
volume-wide d left work (answered v) = added-wide (one_image (tree_tally d v.mount v.root left work).answer) (tally-listed d v.mount v.root left work).wide
volume-wide d left work (refused why) = one-wide (number why) (refusal-listed why)

pub image-wide : (how : Option How) (most work : ℕ) (image : List ℕ) → Wide (of_image how most work image)
unfolding of_image
image-wide how most work image = let r = ran (disc image) (budgeted most (opening_by how)) in volume-wide (disc image) (left_of most r.count) work r.outcome

-- ---- the place of an image

module _ (image : List ℕ) (how : Option How) (most : ℕ) {r : Opened} (q : r ≡ opened_of (ran (disc image) (budgeted most (opening_by how)))) where
  abbrev B : Ran VolumeRecord
  B = ran (disc image) (budgeted most (opening_by how))

  opening-small : r.answer ≤ 16
  opening-small = rw q (by (reported B.count) B.outcome)
    where
      by : (n : ℕ) (o : Outcome VolumeRecord) → (opened_by n o).answer ≤ 16
      by n (answered v) = omega arith
      by n (refused why) = refusal-listed why

  -- refused, and counted in a place of zeros
  pub opening-refused : (work : ℕ) → (r.answer ≡ 0 → ⊥) → (b : List ℕ) {s t : List ℕ} → length b ≡ 80 → s ≡ replicate (length b) 0 → t ≡ with_image (min r.answer 16) s → Holds (of_image how most work image) t
  unfolding of_image
  opening-refused work h b {s} {t} l z e = by (reported B.count) B.outcome q (one-counted r.answer opening-small b l z e)
    where
      by : (n : ℕ) (o : Outcome VolumeRecord) → r ≡ opened_by n o → Holds (one_image r.answer) t → Holds (volume_by (disc image) (left_of most B.count) work o) t
      by n (answered v) e p = absurd (h (rw e))
      by n (refused why) e p = rw (ap (λ x. x.answer) e) at p

  -- what is opened, and what is left of the sectors
  record Begun : Type 0 where
    is : B.outcome ≡ answered r.volume
    count : r.count ≡ reported B.count

  begun : r.answer ≡ 0 → Begun
  begun h = by B.outcome refl q
    where
      by : (o : Outcome VolumeRecord) → B.outcome ≡ o → r ≡ opened_by (reported B.count) o → Begun
      by (answered v) f e = record { is = f ∙ rw e; count = rw e }
      by (refused why) f e = absurd (refusal-numbered why (sym (ap (λ x. x.answer) e) ∙ h))

  -- opened, its tree tallied in a place, and counted
  pub tree-counted : (work : List ℕ) → r.answer ≡ 0 → {left : ℕ} → left ≡ left_of most r.count → (b : List ℕ) {t u w' : List ℕ} {a : ℕ} → length b ≡ 80
      → ◌≡◌ {A = Tallies} (record { answer = a; place = t; work = w' }) (tallies (disc image) r.volume.mount r.volume.root left b work)
      → u ≡ with_image (min a 16) t → Holds (of_image how most (length work) image) u
  unfolding of_image
  tree-counted work h {left} l b {t} {u} {w'} {a} n p e =
      let g = begun h in
      let k : left ≡ left_of most B.count = l ∙ ap (left_of most) g.count ∙ budgeted-left (disc image) (opening_by how) most in
      let y : Tally = tree_tally (disc image) r.volume.mount r.volume.root left (length work) in
      let w = tally-listed (disc image) r.volume.mount r.volume.root left (length work) in
      let x : a ≡ y.answer = ap (λ (z : Tallies). z.answer) p ∙ rw (eq-eqb (length b) 80 n) in
      let v : t ≡ row y.figures = ap (λ (z : Tallies). z.place) p ∙ rw (eq-eqb (length b) 80 n) in
      let c : min a 16 ≡ y.answer = omega (arith, x, w.small) in
      let i : Holds (image_by y) (with_image y.answer t) = image-adds y.answer w.small t y.figures (record { wide = w.wide; is = v }) in
      rw (g.is, ← k, e, c) i

-- A whole show: measured, and then written. Assumes nothing.
use mathlib.Core.Path.{◌≡◌, refl, sym, ap, ◌∙◌}
use mathlib.Core.Bool.{Bool, true, false, ◌&&◌}
use mathlib.Core.List.{List}
use mathlib.Core.Logic.{⊎_elim}
use Prim.Native.Nat.{ℕ, ◌+◌, ◌-◌, ◌*◌, ◌≤◌, ◌<◌, ◌^◌}
use native.Mathlib.Nat.{sub-zero}
use native.Mathlib.Omega.{arith}
use lib.ListN.{length, length-take, length-drop}
use lib.Dec.{leb}
use borrow.Author.Tests.{le-leb, lt-leb}
use borrow.Rule.Slice.PartMut.{mid_of, put_mid}
use Rattle.disc.specs.Choice.{pick}
use Rattle.disc.specs.Refusals.{number}
use Rattle.disc.specs.Counts.{reported}
use Rattle.disc.specs.Ask.{Disc, Outcome, and_then}
use Rattle.disc.specs.Ask.Ask.{refuse}
use Rattle.disc.specs.Ask.Outcome.{answered, refused}
use Rattle.disc.specs.Ran.{Ran, ran}
use Rattle.disc.specs.Replies.{Replied}
use Rattle.disc.specs.Budgets.{budgeted, over_run}
use Rattle.disc.specs.declared.places.Mount.{Mount}
use Rattle.disc.specs.declared.refusals.Refusal.TheVariants.{NoRoom, TooDeep, OverBudget}
use Rattle.disc.specs.declared.replies.Reply.{Reply}
use Rattle.disc.proofs.MoveLaws.{over-fits, sets-whole}
use Rattle.disc.proofs.RanLaws.{ran-refuse, ran-known}
use Rattle.disc.proofs.BudgetLaws.{budgeted-ran}
use Rattle.disc.proofs.ImageLaws.{split}
use Rattle.disc.proofs.ReplyLaws.{reply-refused, reply-full, reply-done}
use Rattle.records.specs.declared.allocations.LongAd.{LongAd}
use Rattle.shows.specs.Shows.{Node, nodes_at, most_levels, tree, node_records, tree_records}
use Rattle.shows.specs.Inner.Turns.{stopped_at, start_of, behind_by, Visited}
use Rattle.shows.specs.Inner.Writes.{Writes}
use Rattle.shows.proofs.VisitedLaws.{capped-within, capped-over, Answers, visited-answers}
use Rattle.shows.specs.declared.levels.ShowPlace.{ShowPlace}

-- ---- the number of levels

module _ (m : Mount) (w : ℕ) (root : LongAd) (levels : ℕ) where
  pub tree-none : levels ≡ 0 → tree m levels w root ≡ refuse TooDeep
  unfolding tree
  tree-none e = rw e

  pub tree-many : most_levels < levels → tree m levels w root ≡ refuse TooDeep
  unfolding tree
  tree-many h = rw (lt-leb levels most_levels h) (by (leb 1 levels))
    where
      by : (t : Bool) → pick (t && false) (nodes_at m levels 1 w root) (refuse TooDeep) ≡ refuse TooDeep
      by true = refl
      by false = refl

  pub tree-within : 1 ≤ levels → levels ≤ most_levels → tree m levels w root ≡ nodes_at m levels 1 w root
  unfolding tree
  tree-within h k = rw (le-leb 1 levels h, le-leb levels most_levels k)

-- ---- what a show comes to

abbrev records_in : Outcome (List Node) → Outcome (List ℕ)
records_in o = and_then o (λ ns. answered (node_records ns))

-- a text written over what is lent of its length
written : (text out : List ℕ) {r : Ran (List ℕ)} {n : ℕ} → r ≡ record { outcome = answered text; count = n } → {size : ℕ} → size ≡ length text → length text ≤ length out → {c : ℕ} → c ≡ reported n
    → {ys : List ℕ} → ys ≡ text → Replied NoRoom r out (put_mid 0 (size - 0) out ys) (record { answer = 0; count = c; length = size })
written text out {n = n} e i j {c} k y = rw (e, y, i) (reply-done text n c j k (rw (over-fits text out j, sub-zero)))

module _ (d : Disc) (m : Mount) (w : ℕ) (root : LongAd) (levels most : ℕ) where
  show-is : ran d (tree_records m levels w root) ≡ record { outcome = records_in (ran d (tree m levels w root)).outcome; count = (ran d (tree m levels w root)).count }
  unfolding tree_records
  show-is = ran-known d (tree m levels w root) (λ ns. answered (node_records ns))

  abbrev S : Ran (List ℕ)
  S = ran d (budgeted most (tree_records m levels w root))

  show-none : tree m levels w root ≡ refuse TooDeep → {a : ℕ} → a ≡ number TooDeep → {reply : Reply} → reply ≡ record { answer = a; count = 0; length = 0 } → (out : List ℕ)
      → Replied NoRoom S out out reply
  show-none e k f out =
      let r : ran d (tree_records m levels w root) ≡ record { outcome = refused TooDeep; count = 0 } = show-is ∙ rw (e, ran-refuse {A = List Node} d TooDeep) in
      rw (budgeted-ran d (tree_records m levels w root) most, r, le-leb 0 most (omega arith)) (reply-refused TooDeep 0 0 refl (f ∙ rw k))

  pub show-zero : levels ≡ 0 → {a : ℕ} → a ≡ number TooDeep → {reply : Reply} → reply ≡ record { answer = a; count = 0; length = 0 } → (out : List ℕ) → Replied NoRoom S out out reply
  show-zero h = show-none (tree-none m w root levels h)

  pub show-over : most_levels < levels → {a : ℕ} → a ≡ number TooDeep → {reply : Reply} → reply ≡ record { answer = a; count = 0; length = 0 } → (out : List ℕ) → Replied NoRoom S out out reply
  show-over h = show-none (tree-many m w root levels h)

  module _ (l : 1 ≤ levels) (k : levels ≤ most_levels) where
    abbrev R : Ran (List Node)
    R = ran d (nodes_at m levels 1 w root)

    visited-is : ran d (tree_records m levels w root) ≡ record { outcome = records_in R.outcome; count = R.count }
    visited-is = show-is ∙ rw (tree-within m w root levels l k)

    lent_is : reported R.count ≤ most → S ≡ record { outcome = records_in R.outcome; count = R.count }
    lent_is h = budgeted-ran d (tree_records m levels w root) most ∙ rw (visited-is, le-leb (reported R.count) most h)

    over-is : most < reported R.count → S ≡ over_run most
    over-is h = budgeted-ran d (tree_records m levels w root) most ∙ rw (visited-is, lt-leb (reported R.count) most h)

    -- ---- measured

    module _ {of : Node → List ℕ → List ℕ} (out : List ℕ) {q : ShowPlace} {tally tally₁ : List ℕ} (s : Visited of 0 R (start_of most) tally q tally₁) where
      pub show-refused : (q.answer ≡ 0 → ⊥) → {reply : Reply} → reply ≡ record { answer = q.answer; count = q.count; length = 0 } → most < 2 ^ 64 → Replied NoRoom S out out reply
      show-refused n {reply} e b = ⊎_elim
          (λ (h : reported R.count ≤ most). rw (lent_is h) (by R.outcome (s.says ∙ capped-within (start_of most) R.count (behind_by 0 (start_of most) R.outcome R.count) (omega arith))))
          (λ (h : most < reported R.count).
          let f : q ≡ stopped_at (number OverBudget) most = s.says ∙ capped-over (start_of most) R.count (behind_by 0 (start_of most) R.outcome R.count) (omega arith) in
          rw (over-is h) (reply-refused OverBudget most most (omega arith) (e ∙ rw f)))
          (split (reported R.count) most)
        where
          by : (o : Outcome (List Node)) → q ≡ behind_by 0 (start_of most) o R.count → Replied NoRoom (record { outcome = records_in o; count = R.count }) out out reply
          by (answered ns) f = absurd (n (ap (λ (x : ShowPlace). x.answer) f))
          by (refused why) f = reply-refused why R.count (reported (0 + R.count)) (omega arith) (e ∙ rw f)

      module _ (g : q.answer ≡ 0) where
        -- the nodes that were measured
        measured : Answers 0 R (start_of most) q
        measured = visited-answers s g

        within : reported R.count ≤ most
        within = omega (arith, measured.within)

        text : List ℕ
        text = node_records measured.ns

        counts : q.count ≡ reported R.count
        counts = ap (λ (x : ShowPlace). x.count) measured.place ∙ omega arith

        sizes : q.size ≡ reported (length text)
        unfolding text
        sizes = ap (λ (x : ShowPlace). x.size) measured.place ∙ omega arith

        texted : S ≡ record { outcome = answered text; count = R.count }
        unfolding text
        texted = lent_is within ∙ rw measured.are

        pub show-full : length out < q.size → {a : ℕ} → a ≡ number NoRoom → {reply : Reply} → reply ≡ record { answer = a; count = q.count; length = 0 } → Replied NoRoom S out out reply
        show-full h e f = rw texted (reply-full text R.count q.count (omega (arith, sizes)) counts (f ∙ rw e))

        -- ---- written, lent what was measured

        pub show-done : q.size ≤ length out → length out * 1 < 2 ^ 63 → {w₁ : ℕ} → w₁ ≡ w → {ys : List ℕ} {to : ℕ}
            → Writes (ran d (nodes_at m levels 1 w₁ root)) 0 (mid_of 0 (q.size - 0) out) ys to
            → Replied NoRoom S out (put_mid 0 (q.size - 0) out ys) (record { answer = 0; count = q.count; length = q.size })
        unfolding text
        show-done h b e {ys} {to} v =
            let t : Writes R 0 (mid_of 0 (q.size - 0) out) ys to = rw e at v in
            let i : q.size ≡ length text = omega (arith, sizes) in
            let j : length text ≤ length out = omega arith in
            let n : length (mid_of 0 (q.size - 0) out) ≡ length text = simp (length-take, length-drop) (omega arith) in
            let y : ys ≡ text = t.puts measured.ns measured.are (omega (arith, n)) ∙ sets-whole text (mid_of 0 (q.size - 0) out) (sym n) in
            written text out texted i j counts y

-- The sectors that are lent for a tree and for the reads of its files: when the reads have enough, and what is left in the place where the code tallies them. Assumes nothing.
use mathlib.Core.Path.{◌≡◌, refl, sym, ap, ◌∙◌}
use mathlib.Core.Bool.{Bool, true, false, ◌&&◌, not}
use mathlib.Core.List.{List, [], ◌∷◌, map}
use mathlib.Core.Logic.{⊎_elim}
use Prim.Native.Nat.{ℕ, ◌+◌, ◌≤◌, ◌<◌}
use native.Mathlib.Omega.{arith}
use lib.ListN.{length, get_or, replicate}
use lib.Dec.{leb}
use borrow.Author.Tests.{le-leb, lt-leb, le-ltb, lt-ltb, eq-eqb, ne_eqb}
use Rattle.disc.specs.Choice.{pick}
use Rattle.disc.specs.Counts.{reported}
use Rattle.disc.specs.Refusals.{number}
use Rattle.disc.specs.Ask.{Disc, Outcome}
use Rattle.disc.specs.Ask.Outcome.{answered, refused}
use Rattle.disc.specs.Ran.{Ran, ran}
use Rattle.disc.specs.Budgets.{unlimited, left_of, is_over, ButOver}
use Rattle.disc.specs.declared.places.Mount.{Mount}
use Rattle.disc.specs.declared.refusals.Refusal.TheVariants.{OverBudget}
use Rattle.disc.proofs.BudgetLaws.{budgeted-same, budgeted-over, never-over, left-most, left-enough}
use Rattle.disc.proofs.ImageLaws.{split}
use Rattle.records.specs.declared.allocations.LongAd.{LongAd}
use Rattle.files.specs.Files.{file_bytes}
use Rattle.files.proofs.RefusingLaws.{bytes-only}
use Rattle.identifiers.specs.Identifiers.{is_directory}
use Rattle.figures.specs.Figures.{Figures, nothing, one_directory, added, added_to, sum, row, Holds}
use Rattle.figures.specs.Placed.{with_directory}
use Rattle.figures.proofs.AddLaws.{directory-adds}
use Rattle.figures.proofs.FigureLaws.{zero-holds, holds-sectors}
use Rattle.shows.specs.Shows.{Node, nodes_at, most_levels}
use Rattle.shows.specs.Tallies.{of_file, of_node, of_nodes, read_counts, lent_read, reads_within, Tally, tally_by, tally_of, tree_tally, Tallied, tallied, Tallies, tallies}
use Rattle.shows.specs.Inner.Placings.{file_placed, node_placed, each_placed}
use Rattle.shows.specs.Inner.Turns.{stopped_at, start_of, behind_by, Visited}
use Rattle.shows.specs.declared.levels.ShowPlace.{ShowPlace}
use Rattle.shows.proofs.ShowLaws.{tree-within}
use Rattle.shows.proofs.VisitedLaws.{capped-within, capped-over, Answers, visited-answers}
use Rattle.shows.proofs.TallyLaws.{file-holds}
use Rattle.shows.proofs.Tallying.{file-is, sectors-summed}

module _ (d : Disc) (m : Mount) where
  -- ---- the reads have enough exactly where their counts, added up, don't pass what is lent (RULES 16.13)

  abbrev counted : LongAd → ℕ
  counted icb = (ran d (file_bytes m icb)).count

  -- no read is refused by 16 by itself
  pub read-not-over : (icb : LongAd) → is_over (ran d (file_bytes m icb)).outcome ≡ false
  read-not-over icb = never-over d (file_bytes m icb) (bytes-only ButOver (λ e. omega arith) (λ e. omega arith) m (λ c e. omega arith) icb)

  -- what is left for the others, where a read has enough
  others-left : (most n rest : ℕ) → reported n ≤ most → leb (reported rest) (left_of most n) ≡ leb (reported (reported n + rest)) most
  others-left most n rest h =
      let e : reported (n + rest) ≡ reported (reported n + rest) = omega arith in
      left-enough most n rest h ∙ rw e

  pub reads-enough : (most : ℕ) (ns : List Node) → reads_within d m most ns ≡ leb (reported (sum (read_counts d m ns))) most
  unfolding reads_within read_counts sum
  reads-enough most [] = sym (le-leb 0 most (omega arith))
  reads-enough most (n ∷ ns) = by (is_directory n.entry.identifier) (λ left. reads-enough left ns)
    where
      icb : LongAd
      icb = n.entry.identifier.icb

      file : ((left : ℕ) → reads_within d m left ns ≡ leb (reported (sum (read_counts d m ns))) left)
          → (not (is_over (lent_read d m most n).outcome) && reads_within d m (left_of most (lent_read d m most n).count) ns) ≡ leb (reported (reported (counted icb) + sum (read_counts d m ns))) most
      file ih = ⊎_elim
          (λ (h : reported (counted icb) ≤ most).
          rw (budgeted-same d (file_bytes m icb) most h, read-not-over icb) (ih (left_of most (counted icb)) ∙ others-left most (counted icb) (sum (read_counts d m ns)) h))
          (λ (h : most < reported (counted icb)).
          rw (budgeted-over d (file_bytes m icb) most h) (sym (lt-leb (reported (reported (counted icb) + sum (read_counts d m ns))) most (omega arith))))
          (split (reported (counted icb)) most)

      by : (t : Bool) → ((left : ℕ) → reads_within d m left ns ≡ leb (reported (sum (read_counts d m ns))) left)
          → pick t (reads_within d m most ns) (not (is_over (lent_read d m most n).outcome) && reads_within d m (left_of most (lent_read d m most n).count) ns)
          ≡ leb (reported (sum (pick t (read_counts d m ns) (reported (counted icb) ∷ read_counts d m ns)))) most
      by true ih = ih most
      by false ih = file ih

  -- ---- nodes tallied in a place that has figures: all of them, or as many as pass what is lent

  pub record Folded (most : ℕ) (ns : List Node) (f : Figures) (s : List ℕ) : Type 0 where
    pub g : Figures
    pub holds : Holds g s
    pub all : reported (f.sectors + sum (read_counts d m ns)) ≤ most → g ≡ added_to f (map (of_node d m) ns)
    pub over : most < reported (f.sectors + sum (read_counts d m ns)) → most < reported g.sectors

  -- what a node adds to the counts of the reads
  directory-counts : (n : Node) (ns : List Node) → is_directory n.entry.identifier ≡ true → sum (read_counts d m (n ∷ ns)) ≡ sum (read_counts d m ns)
  unfolding read_counts
  directory-counts n ns e = rw e

  file-counts : (n : Node) (ns : List Node) → is_directory n.entry.identifier ≡ false → sum (read_counts d m (n ∷ ns)) ≡ reported (counted n.entry.identifier.icb) + sum (read_counts d m ns)
  unfolding read_counts sum
  file-counts n ns e = rw e

  -- the first node in a place, of which the others make what they make of it
  folded_on : (most : ℕ) (n : Node) (ns : List Node) (f f' : Figures) {s s' : List ℕ} → s ≡ s' → Folded most ns f' s'
      → (reported (f.sectors + sum (read_counts d m (n ∷ ns))) ≤ most → reported (f'.sectors + sum (read_counts d m ns)) ≤ most)
      → (reported (f.sectors + sum (read_counts d m (n ∷ ns))) ≤ most → f' ≡ added f (of_node d m n))
      → (most < reported (f.sectors + sum (read_counts d m (n ∷ ns))) → most < reported (f'.sectors + sum (read_counts d m ns)))
      → Folded most (n ∷ ns) f s
  unfolding added_to
  folded_on most n ns f f' q x w a o = rw q (record { g = x.g; holds = x.holds; all = λ v. x.all (w v) ∙ ap (λ h. added_to h (map (of_node d m) ns)) (a v); over = λ v. x.over (o v) })

  pub nodes-folded : (most : ℕ) (ns : List Node) (f : Figures) (s : List ℕ) → Holds f s → Folded most ns f (each_placed (node_placed d m most) ns s)
  unfolding each_placed added_to read_counts sum file_placed
  nodes-folded most [] f s h = record { g = f; holds = h; all = λ w. refl; over = λ w. omega (arith, w) }
  nodes-folded most (n ∷ ns) f s h = by (is_directory n.entry.identifier) refl (λ f' s' h'. nodes-folded most ns f' s' h')
    where
      icb : LongAd
      icb = n.entry.identifier.icb

      Others : Type 0
      Others = (f' : Figures) (s' : List ℕ) → Holds f' s' → Folded most ns f' (each_placed (node_placed d m most) ns s')

      behind : {s' : List ℕ} → node_placed d m most n s ≡ s' → each_placed (node_placed d m most) ns (node_placed d m most n s) ≡ each_placed (node_placed d m most) ns s'
      behind e = ap (each_placed (node_placed d m most) ns) e

      file : is_directory n.entry.identifier ≡ false → Others → Folded most (n ∷ ns) f (each_placed (node_placed d m most) ns (node_placed d m most n s))
      file e ih = ⊎_elim
          (λ (w : reported f.sectors ≤ most).
          let r : get_or s 8 0 ≤ most = omega (arith, holds-sectors h) in
          let c : (of_file d m icb).sectors ≡ reported (counted icb) = ap (λ (x : Figures). x.sectors) (file-is d m icb).is in
          folded_on most n ns f (added f (of_file d m icb)) (behind (rw (e, le-leb (get_or s 8 0) most r))) (ih (added f (of_file d m icb)) _ (file-holds d m icb s f h))
          (λ v. omega (arith, v, c, file-counts n ns e)) (λ v. rw e) (λ v. omega (arith, v, c, file-counts n ns e)))
          (λ (w : most < reported f.sectors).
          let r : most < get_or s 8 0 = omega (arith, holds-sectors h) in
          folded_on most n ns f f (behind (rw (e, lt-leb (get_or s 8 0) most r))) (ih f s h)
          (λ v. absurd (omega (arith, v, w))) (λ v. absurd (omega (arith, v, w))) (λ v. omega (arith, w)))
          (split (reported f.sectors) most)

      by : (t : Bool) → is_directory n.entry.identifier ≡ t → Others → Folded most (n ∷ ns) f (each_placed (node_placed d m most) ns (node_placed d m most n s))
      by true e ih =
          folded_on most n ns f (added f one_directory) (behind (rw e)) (ih (added f one_directory) (with_directory s) (directory-adds s f h))
          (λ v. omega (arith, v, directory-counts n ns e)) (λ v. rw e) (λ v. omega (arith, v, directory-counts n ns e))
      by false e ih = file e ih

  -- ---- the whole tree, tallied in a place of zeros

  module _ (root : LongAd) (most work : ℕ) {tally' : List ℕ} {q : ShowPlace}
      (s : Visited (node_placed d m most) 0 (ran d (nodes_at m most_levels 1 work root)) (start_of most) (replicate 80 0) q tally') where
    abbrev N : Ran (List Node)
    N = ran d (nodes_at m most_levels 1 work root)

    lent-tree : reported N.count ≤ most → tree_tally d m root most work ≡ tally_of d m most N
    lent-tree h = rw (tree-within m work root most_levels (omega arith) (omega arith)) (ap (tally_of d m most) (budgeted-same d (nodes_at m most_levels 1 work root) most h))

    over-tree : most < reported N.count → tree_tally d m root most work ≡ record { answer = number OverBudget; figures = nothing }
    over-tree h = rw (tree-within m work root most_levels (omega arith) (omega arith)) (ap (tally_of d m most) (budgeted-over d (nodes_at m most_levels 1 work root) most h))

    -- it is refused
    tree-refused : (q.answer ≡ 0 → ⊥) → tree_tally d m root most work ≡ record { answer = q.answer; figures = nothing }
    tree-refused n = ⊎_elim
        (λ (h : reported N.count ≤ most). lent-tree h ∙ by N.outcome (s.says ∙ capped-within (start_of most) N.count (behind_by 0 (start_of most) N.outcome N.count) (omega arith)))
        (λ (h : most < reported N.count).
        let f : q ≡ stopped_at (number OverBudget) most = s.says ∙ capped-over (start_of most) N.count (behind_by 0 (start_of most) N.outcome N.count) (omega arith) in
        over-tree h ∙ rw f)
        (split (reported N.count) most)
      where
        by : (o : Outcome (List Node)) → q ≡ behind_by 0 (start_of most) o N.count → tally_by d m (left_of most N.count) o ≡ record { answer = q.answer; figures = nothing }
        by (answered ns) f = absurd (n (ap (λ (x : ShowPlace). x.answer) f))
        by (refused why) f = rw f

    module _ (z : q.answer ≡ 0) where
      a : Answers 0 N (start_of most) q
      a = visited-answers s z

      within : reported N.count ≤ most
      within = omega (arith, a.within)

      fold : Folded most a.ns nothing tally'
      fold = rw (sym (s.tallied a.ns a.are a.within)) at (nodes-folded most a.ns nothing (replicate 80 0) zero-holds)

      total : ℕ
      total = sum (read_counts d m a.ns)

      left : ℕ
      left = left_of most N.count

      left_is : left_of most q.count ≡ left
      unfolding left
      left_is =
          let c : q.count ≡ reported N.count = ap (λ (x : ShowPlace). x.count) a.place ∙ omega arith in
          ⊎_elim
          (λ (k : unlimited ≤ most). rw (le-ltb most unlimited k))
          (λ (k : most < unlimited). rw (lt-ltb most unlimited k) (omega (arith, c, within)))
          (split unlimited most)

      left_less : left ≤ most
      unfolding left
      left_less = left-most most N.count

      sectors : get_or tally' 8 0 ≡ reported fold.g.sectors
      sectors = holds-sectors fold.holds

      -- all were read, or so many that what was lent for them is passed
      all_read : reported total ≤ most → fold.g ≡ of_nodes d m a.ns
      unfolding total
      all_read h = fold.all (omega (arith, h))

      passed : most < reported total → most < get_or tally' 8 0
      unfolding total
      passed h = omega (arith, sectors, fold.over (omega (arith, h)))

      tally-is : (t : Bool) → reads_within d m left a.ns ≡ t → tree_tally d m root most work ≡ pick t (record { answer = 0; figures = of_nodes d m a.ns }) (record { answer = number OverBudget; figures = nothing })
      unfolding left
      tally-is t e = lent-tree within ∙ rw (a.are, e)

      -- the reads want more than the tree left
      reads_over : left_of most q.count < get_or tally' 8 0 → tree_tally d m root most work ≡ record { answer = number OverBudget; figures = nothing }
      unfolding total
      reads_over h = tally-is false (reads-enough left a.ns ∙ lt-leb (reported total) left more)
        where
          more : left < reported total
          more = ⊎_elim
              (λ (k : reported total ≤ most).
              let g : fold.g.sectors ≡ total = ap (λ (x : Figures). x.sectors) (all_read k) ∙ sectors-summed d m a.ns in
              omega (arith, left_is, sectors))
              (λ (k : most < reported total). omega (arith, left_less))
              (split (reported total) most)

      -- they don't
      module _ (h : get_or tally' 8 0 ≤ left_of most q.count) where
        enough : reported total ≤ most
        enough = ⊎_elim (λ (k : reported total ≤ most). k) (λ (k : most < reported total). absurd (omega (arith, passed k, left_is, left_less))) (split (reported total) most)

        reads-done : tree_tally d m root most work ≡ record { answer = 0; figures = of_nodes d m a.ns }
        unfolding total
        reads-done =
            let g : fold.g.sectors ≡ total = ap (λ (x : Figures). x.sectors) (all_read enough) ∙ sectors-summed d m a.ns in
            tally-is true (reads-enough left a.ns ∙ le-leb (reported total) left (omega (arith, left_is, sectors)))

        place_is : tally' ≡ row (of_nodes d m a.ns)
        place_is = fold.holds.is ∙ ap row (all_read enough)

  -- ---- what `tally_within` leaves

  module _ (root : LongAd) (most work : ℕ) where
    pub tallied-none : {before : List ℕ} → (length before ≡ 80 → ⊥) → ◌≡◌ {A = Tallied} (record { answer = 15; place = before }) (tallied d m root most work before)
    tallied-none {before} h = rw (ne_eqb (length before) 80 h)

    module _ (before : List ℕ) (l : length before ≡ 80) {cleared tally' : List ℕ} (e : cleared ≡ replicate (length before) 0) {q : ShowPlace}
        (s : Visited (node_placed d m most) 0 (ran d (nodes_at m most_levels 1 work root)) (start_of most) cleared q tally') where
      zeros : cleared ≡ replicate 80 0
      zeros = e ∙ rw l

      visited : Visited (node_placed d m most) 0 (ran d (nodes_at m most_levels 1 work root)) (start_of most) (replicate 80 0) q tally'
      visited = rw zeros at s

      leaves : (t : Tally) → tree_tally d m root most work ≡ t → ◌≡◌ {A = Tallied} (record { answer = t.answer; place = row t.figures }) (tallied d m root most work before)
      leaves t f = rw (eq-eqb (length before) 80 l, f)

      -- no figures
      bare : length tally' ≡ length cleared → {place : List ℕ} → place ≡ replicate (length tally') 0 → (a : ℕ) → tree_tally d m root most work ≡ record { answer = a; figures = nothing }
          → ◌≡◌ {A = Tallied} (record { answer = a; place = place }) (tallied d m root most work before)
      bare k {place} z a f =
          let n : length tally' ≡ 80 = k ∙ ap length zeros in
          let p : place ≡ row nothing = z ∙ rw n zero-holds.is in
          rw p (leaves (record { answer = a; figures = nothing }) f)

      pub tallied-refused : length tally' ≡ length cleared → (q.answer ≡ 0 → ⊥) → {place : List ℕ} → place ≡ replicate (length tally') 0 → ◌≡◌ {A = Tallied} (record { answer = q.answer; place = place }) (tallied d m root most work before)
      tallied-refused k n z = bare k z q.answer (tree-refused root most work visited n)

      module _ (z : q.answer ≡ 0) {left sectors : ℕ} (x : left ≡ left_of most q.count) (y : sectors ≡ get_or tally' 8 0) where
        pub tallied-over : length tally' ≡ length cleared → left < sectors → {place : List ℕ} → place ≡ replicate (length tally') 0 → ◌≡◌ {A = Tallied} (record { answer = 16; place = place }) (tallied d m root most work before)
        tallied-over k h p = bare k p 16 (reads_over root most work visited z (omega (arith, x, y)))

        pub tallied-done : sectors ≤ left → ◌≡◌ {A = Tallied} (record { answer = 0; place = tally' }) (tallied d m root most work before)
        tallied-done h =
            let w : get_or tally' 8 0 ≤ left_of most q.count = omega (arith, x, y) in
            ap (λ (t : List ℕ). record { answer = 0; place = t }) (place_is root most work visited z w) ∙ leaves (record { answer = 0; figures = _ }) (reads-done root most work visited z w)

    -- with the work space cleared
    pub tallied-cleared : (before space : List ℕ) {a : ℕ} {place : List ℕ} → ◌≡◌ {A = Tallied} (record { answer = a; place = place }) (tallied d m root most (length space) before) → (w : List ℕ) → length w ≡ length space → {w' : List ℕ} → w' ≡ replicate (length w) 0
        → ◌≡◌ {A = Tallies} (record { answer = a; place = place; work = w' }) (tallies d m root most before space)
    tallied-cleared before space {a} {place} p w l z =
        let x : a ≡ (tallied d m root most (length space) before).answer = ap (λ (t : Tallied). t.answer) p in
        let y : place ≡ (tallied d m root most (length space) before).place = ap (λ (t : Tallied). t.place) p in
        rw (x, y, z, l)

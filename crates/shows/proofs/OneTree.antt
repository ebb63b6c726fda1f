-- What `TreeOf` says of nodes leaves one list of them. Assumes nothing.
use mathlib.Core.Path.{◌≡◌, refl, sym, ap, ◌∙◌}
use mathlib.Core.Bool.{Bool, true, false}
use mathlib.Core.List.{List, [], ◌∷◌, ◌++◌}
use Prim.Native.Nat.{ℕ, zero, suc, ◌+◌, ◌<◌}
use native.Mathlib.Omega.{arith}
use lib.ListN.{length, length-append}
use lib.Dec.{eqb, ltb}
use borrow.Author.Tests.{eq-eqb, ltb-true, ltb-false}
use Rattle.disc.specs.Choice.{pick}
use Rattle.disc.specs.Ask.{Disc}
use Rattle.disc.specs.Ask.Outcome.{answered}
use Rattle.disc.specs.declared.places.Mount.{Mount}
use Rattle.records.specs.declared.allocations.LongAd.{LongAd}
use Rattle.identifiers.specs.Identifiers.{is_directory}
use Rattle.listings.specs.Entries.{Entry}
use Rattle.shows.specs.Shows.{Node}
use Rattle.shows.specs.Nodes.{below, children, EntriesOf, Under, Steps, TreeOf}
use Rattle.shows.proofs.TreeLaws.{Deeper, Starts, below-stops, children-joined, Each}

-- a directory has one list of entries
pub entries-one : {d : Disc} {m : Mount} {icb : LongAd} {es es' : List Entry} → EntriesOf d m icb es → EntriesOf d m icb es' → es ≡ es'
entries-one x y =
    let b : x.bytes ≡ y.bytes = let z : answered x.bytes ≡ answered y.bytes = sym x.read ∙ y.read in cc in
    let a : x.all ≡ y.all = let z : answered x.all ≡ answered y.all = sym x.parsed ∙ rw b y.parsed in cc in
    x.are ∙ rw a (sym y.are)

same-node : {a b : Node} → a.level ≡ b.level → a.entry ≡ b.entry → a ≡ b
same-node {a} {b} e f =
    let z : ◌≡◌ {A = Node} (record { level = a.level; entry = a.entry }) (record { level = b.level; entry = b.entry }) = rw (e, f) in
    z

-- ---- the nodes behind those under a node

unfoldable beyond : ℕ → List Node → List Node
beyond k [] = []
beyond k (n ∷ ns) = pick (ltb k n.level) (beyond k ns) (n ∷ ns)

two-parts : (k : ℕ) (ns : List Node) → ns ≡ below k ns ++ beyond k ns
unfolding below beyond
two-parts k [] = refl
two-parts k (n ∷ ns) = by (ltb k n.level) (two-parts k ns)
  where
    by : (t : Bool) → ns ≡ below k ns ++ beyond k ns → n ∷ ns ≡ pick t (n ∷ below k ns) [] ++ pick t (beyond k ns) (n ∷ ns)
    by true h = ap (λ l. n ∷ l) h
    by false h = refl

below-deeper : (k : ℕ) (ns : List Node) → Deeper k (below k ns)
unfolding below Deeper
below-deeper k [] = tt
below-deeper k (n ∷ ns) = by (ltb k n.level) refl (below-deeper k ns)
  where
    by : (t : Bool) → ltb k n.level ≡ t → Deeper k (below k ns) → Deeper k (pick t (n ∷ below k ns) [])
    by true e h = (ltb-true k n.level e, h)
    by false e h = tt

beyond-starts : (k : ℕ) (ns : List Node) → Starts k (beyond k ns)
unfolding beyond Starts
beyond-starts k [] = tt
beyond-starts k (n ∷ ns) = by (ltb k n.level) refl (beyond-starts k ns)
  where
    by : (t : Bool) → ltb k n.level ≡ t → Starts k (beyond k ns) → Starts k (pick t (beyond k ns) (n ∷ ns))
    by true e h = h
    by false e h = ltb-false k n.level e

-- ---- what holds of a list holds of its two parts

deeper-behind : (level : ℕ) (a b : List Node) → Deeper level (a ++ b) → Deeper level b
unfolding Deeper
deeper-behind level [] b p = p
deeper-behind level (n ∷ a) b p = deeper-behind level a b p.1

steps_front : (before : ℕ) (a b : List Node) → Steps before (a ++ b) → Steps before a
unfolding Steps
steps_front before [] b s = tt
steps_front before (n ∷ a) b s = (s.0, s.1, steps_front n.level a b s.2)

steps_back : (before level : ℕ) (a b : List Node) → Starts (suc level) b → Steps before (a ++ b) → Steps level b
unfolding Steps Starts
steps_back before level [] [] h s = tt
steps_back before level [] (n ∷ b) h s = (s.0, h, s.2)
steps_back before level (n ∷ a) b h s = steps_back n.level level a b h s.2

module _ (d : Disc) (m : Mount) where
  each-front : (k : ℕ) (a b : List Node) → Deeper k a → Starts k b → Each d m (a ++ b) → Each d m a
  unfolding Each Deeper
  each-front k [] b p s x = tt
  each-front k (n ∷ a) b p s x =
      let e : below n.level (a ++ b) ≡ below n.level a = below-stops k n.level a b (omega (arith, p.0)) s in
      let u = x.0 in
      (record { directory = λ t. rw e at (u.directory t); file = λ t. sym e ∙ u.file t }, each-front k a b p.1 s x.1)

  each_back : (a b : List Node) → Each d m (a ++ b) → Each d m b
  unfolding Each
  each_back [] b x = x
  each_back (n ∷ a) b x = each_back a b x.1

  each_of : (ns : List Node) → ((before : List Node) (n : Node) (behind : List Node) → ns ≡ before ++ n ∷ behind → Under d m n behind) → Each d m ns
  unfolding Each
  each_of [] f = tt
  each_of (n ∷ ns) f = (f [] n ns refl, each_of ns (λ before x behind z. f (n ∷ before) x behind (ap (λ l. n ∷ l) z)))

  -- ---- the nodes of a directory whose entries are these, one level deeper than `level`

  record Forest (level : ℕ) (es : List Entry) (ns : List Node) : Type 0 where
    are : children level ns ≡ es
    deep : Deeper level ns
    steps : Steps level ns
    each : Each d m ns

  -- the first node is of that level
  first-level : {level : ℕ} {es : List Entry} {n : Node} {ns : List Node} → Forest level es (n ∷ ns) → n.level ≡ suc level
  unfolding Deeper Steps
  first-level f = omega (arith, f.deep.0, f.steps.1)

  first-child : {level : ℕ} {es : List Entry} {n : Node} {ns : List Node} → Forest level es (n ∷ ns) → n.entry ∷ children level ns ≡ es
  unfolding children
  first-child {level} {n = n} f =
      let t : eqb n.level (suc level) ≡ true = eq-eqb n.level (suc level) (first-level f) in
      rw t at f.are

  -- what stands under it, and what stands behind that
  inner : {level : ℕ} {es : List Entry} {n : Node} {ns : List Node} → Forest level es (n ∷ ns) → Forest (suc level) (children (suc level) (below (suc level) ns)) (below (suc level) ns)
  unfolding Deeper Steps Each
  inner {level} {n = n} {ns} f =
      let k = suc level in
      let l = first-level f in
      let s : Steps k ns = rw l at f.steps.2 in
      record {
        are = refl;
        deep = below-deeper k ns;
        steps = steps_front k (below k ns) (beyond k ns) (rw (two-parts k ns) at s);
        each = each-front k (below k ns) (beyond k ns) (below-deeper k ns) (beyond-starts k ns) (rw (two-parts k ns) at f.each.1);
      }

  others : {level : ℕ} {es : List Entry} {n : Node} {ns : List Node} → Forest level es (n ∷ ns) → Forest level (children level ns) (beyond (suc level) ns)
  unfolding Deeper Steps Each
  others {level} {n = n} {ns} f =
      let k = suc level in
      record {
        are = sym (children-joined level (below k ns) (beyond k ns) (below-deeper k ns)) ∙ ap (children level) (sym (two-parts k ns));
        deep = deeper-behind level (below k ns) (beyond k ns) (rw (two-parts k ns) at f.deep.1);
        steps = steps_back n.level level (below k ns) (beyond k ns) (beyond-starts k ns) (rw (two-parts k ns) at f.steps.2);
        each = each_back (below k ns) (beyond k ns) (rw (two-parts k ns) at f.each.1);
      }

  part-lengths : (k : ℕ) (ns : List Node) → length ns ≡ length (below k ns) + length (beyond k ns)
  part-lengths k ns = ap length (two-parts k ns) ∙ length-append (below k ns) (beyond k ns)

  -- the entries under a node are one list
  under_one : {level : ℕ} {es es' : List Entry} {n n' : Node} {ns ns' : List Node} → n ≡ n' → Forest level es (n ∷ ns) → Forest level es' (n' ∷ ns')
      → children (suc level) (below (suc level) ns) ≡ children (suc level) (below (suc level) ns')
  unfolding Each
  under_one {level} {n = n} {n'} {ns} {ns'} e f g = by (is_directory n.entry.identifier) refl
    where
      l : n.level ≡ suc level
      l = first-level f

      v : Under d m n ns'
      v = rw (sym e) at g.each.0

      by : (t : Bool) → is_directory n.entry.identifier ≡ t → children (suc level) (below (suc level) ns) ≡ children (suc level) (below (suc level) ns')
      by true t = rw l at (entries-one (f.each.0.directory t) (v.directory t))
      by false t = rw l at (ap (children n.level) (f.each.0.file t ∙ sym (v.file t)))

  -- lists of fewer than so many nodes are one
  abbrev One : ℕ → Type 0
  One most = (level : ℕ) (es : List Entry) (ns ns' : List Node) → length ns < most → Forest level es ns → Forest level es ns' → ns ≡ ns'

  one_more : (most : ℕ) → One most → One (suc most)
  unfolding children
  one_more most ih level es [] [] h f g = refl
  one_more most ih level es [] (n ∷ ns) h f g = absurd (let z : n.entry ∷ children _ ns ≡ [] = first-child g ∙ sym f.are in let y : ◌≡◌ {A = ℕ} 0 1 = cc in omega arith)
  one_more most ih level es (n ∷ ns) [] h f g = absurd (let z : n.entry ∷ children _ ns ≡ [] = first-child f ∙ sym g.are in let y : ◌≡◌ {A = ℕ} 0 1 = cc in omega arith)
  one_more most ih level es (n ∷ ns) (n' ∷ ns') h f g =
      let k = suc level in
      let c : n.entry ∷ children level ns ≡ n'.entry ∷ children level ns' = first-child f ∙ sym (first-child g) in
      let x : n.entry ≡ n'.entry = cc in
      let y : children level ns ≡ children level ns' = cc in
      let z : n ≡ n' = same-node (first-level f ∙ sym (first-level g)) x in
      let a : below k ns ≡ below k ns' = ih k (children k (below k ns)) (below k ns) (below k ns') (omega (arith, part-lengths k ns)) (inner f) (rw (sym (under_one z f g)) at (inner g)) in
      let b : beyond k ns ≡ beyond k ns' = ih level (children level ns) (beyond k ns) (beyond k ns') (omega (arith, part-lengths k ns)) (others f) (rw (sym y) at (others g)) in
      let w : ns ≡ ns' = two-parts k ns ∙ rw (a, b) (sym (two-parts k ns')) in
      rw (z, w)

  forest-one : (most : ℕ) → One most
  forest-one zero = λ level es ns ns' h f g. absurd (omega arith)
  forest-one (suc most) = one_more most (forest-one most)

  steps-deeper : (before : ℕ) (ns : List Node) → Steps before ns → Deeper 0 ns
  unfolding Steps Deeper
  steps-deeper before [] s = tt
  steps-deeper before (n ∷ ns) s = (s.0, steps-deeper n.level ns s.2)

  -- nodes of one tree are the same nodes
  pub tree-one : {root : LongAd} {ns ns' : List Node} → TreeOf d m root ns → TreeOf d m root ns' → ns ≡ ns'
  tree-one {ns = ns} {ns'} t u = forest-one (suc (length ns)) 0 (children 0 ns) ns ns' (omega arith) (whole t refl) (whole u (entries-one u.roots t.roots))
    where
      whole : {root : LongAd} {es : List Entry} {ns : List Node} → TreeOf d m root ns → children 0 ns ≡ es → Forest 0 es ns
      whole {ns = ns} t e = record { are = e; deep = steps-deeper 0 ns t.steps; steps = t.steps; each = each_of ns t.each }

-- How the nodes of an answered tree are built, and what follows for their levels and for what stands under each. Assumes nothing.
use mathlib.Core.Path.{◌≡◌, refl, sym, ap, ◌∙◌}
use mathlib.Core.Bool.{Bool, true, false}
use mathlib.Core.List.{List, [], ◌∷◌, ◌++◌}
use Prim.Native.Nat.{ℕ, zero, suc, ◌-◌, ◌≤◌, ◌<◌}
use native.Mathlib.Omega.{arith}
use lib.ListN.{length}
use lib.Dec.{leb, ltb}
use borrow.Author.Tests.{eq-eqb, ne_eqb, lt-ltb, le-ltb, le-leb, leb-true}
use Rattle.disc.specs.Choice.{pick}
use Rattle.disc.specs.Places.{is_checked}
use Rattle.disc.specs.Ask.{Disc, Ask, Outcome, outcome, asked, then, ended}
use Rattle.disc.specs.Ask.Ask.{done}
use Rattle.disc.specs.Ask.Outcome.{answered, refused}
use Rattle.disc.specs.Ran.{Ran, ran, onward}
use Rattle.disc.specs.declared.places.Mount.{Mount}
use Rattle.disc.specs.declared.refusals.Refusal.TheVariants.{NoWork}
use Rattle.disc.proofs.PickLaws.{not-both}
use Rattle.disc.proofs.RanLaws.{ran_then, never, ran-known}
use Rattle.records.specs.declared.allocations.LongAd.{LongAd}
use Rattle.identifiers.specs.Identifiers.{is_directory}
use Rattle.files.specs.Files.{file_bytes}
use Rattle.listings.specs.Entries.{Entry, is_skipped, entries}
use Rattle.directories.specs.Directories.{within, directory_bytes}
use Rattle.shows.specs.Shows.{Node, under, nodes_of, nodes_at}
use Rattle.shows.specs.Nodes.{below, children, listed, EntriesOf, Under, Steps}

-- ---- what was answered, by its parts

pub record Parts {A B : Type 0} (d : Disc) (m : Ask A) (f : A → Ask B) (b : B) : Type 0 where
  pub a : A
  pub first : outcome d m ≡ answered a
  pub second : outcome d (f a) ≡ answered b

pub parts : {A B : Type 0} (d : Disc) (m : Ask A) (f : A → Ask B) {b : B} → outcome d (then m f) ≡ answered b → Parts d m f b
unfolding ran
parts {A} {B} d m f {b} e = by (outcome d m) refl (sym (ap (λ (r : Ran B). r.outcome) (ran_then d m f)) ∙ e)
  where
    by : (o : Outcome A) → outcome d m ≡ o → (onward o (length (asked d m)) (λ a. ran d (f a))).outcome ≡ answered b → Parts d m f b
    by (answered a) h k = record { a = a; first = h; second = k }
    by (refused why) h k = never k

ended_is : {A : Type 0} (d : Disc) (o : Outcome A) {a : A} → outcome d (ended o) ≡ answered a → o ≡ answered a
unfolding outcome
ended_is d (answered a) e = e
ended_is d (refused why) e = never e

-- ---- a directory that was read and parsed, in a work space of so many bytes

pub record Parsed (d : Disc) (m : Mount) (work : ℕ) (icb : LongAd) (all : List Entry) : Type 0 where
  pub bytes : List ℕ
  pub read : outcome d (file_bytes m icb) ≡ answered bytes
  pub fits : length bytes ≤ work
  pub parsed : entries (is_checked m) bytes ≡ answered all

pub parsed-entries : {d : Disc} {m : Mount} {work : ℕ} {icb : LongAd} {all : List Entry} → Parsed d m work icb all → EntriesOf d m icb (listed all)
parsed-entries {all = all} p = record { bytes = p.bytes; all = all; read = p.read; parsed = p.parsed; are = refl }

record Read (d : Disc) (m : Mount) (work : ℕ) (icb : LongAd) (b : List ℕ) : Type 0 where
  read : outcome d (file_bytes m icb) ≡ answered b
  fits : length b ≤ work

was_read : (d : Disc) (m : Mount) (work : ℕ) (icb : LongAd) {b : List ℕ} → outcome d (directory_bytes m work icb) ≡ answered b → Read d m work icb b
unfolding directory_bytes within
was_read d m work icb {b} e =
    let p = parts d (file_bytes m icb) (λ b. ended (within work b)) e in
    by p.a p.first (leb (length p.a) work) refl (ended_is d (within work p.a) p.second)
  where
    by : (a : List ℕ) → outcome d (file_bytes m icb) ≡ answered a → (t : Bool) → leb (length a) work ≡ t → pick t (answered a) (refused NoWork) ≡ answered b → Read d m work icb b
    by a h true k q =
        let z : a ≡ b = cc in
        let l : length a ≤ work = leb-true (length a) work k in
        record { read = rw z at h; fits = rw z at l }
    by a h false k q = never q

-- and the other way round
pub directory-fits : (d : Disc) (m : Mount) (work : ℕ) (icb : LongAd) {b : List ℕ} → outcome d (file_bytes m icb) ≡ answered b → length b ≤ work → (ran d (directory_bytes m work icb)).outcome ≡ answered b
unfolding directory_bytes within ran
directory-fits d m work icb {b} e h = ap (λ (r : Ran (List ℕ)). r.outcome) (ran-known d (file_bytes m icb) (within work)) ∙ rw (e, le-leb (length b) work h)

-- ---- how the nodes of a directory's entries are built: its entries are one level deeper than `level`

pub data Built (d : Disc) (m : Mount) (work : ℕ) : ℕ → List Entry → List Node → Type 0 where
  no-entry : {level : ℕ} → Built d m work level [] []
  skip-entry : {level : ℕ} {e : Entry} {es : List Entry} {ns : List Node} → is_skipped e.identifier ≡ true → Built d m work level es ns → Built d m work level (e ∷ es) ns
  file-entry : {level : ℕ} {e : Entry} {es : List Entry} {ns : List Node} → is_skipped e.identifier ≡ false → is_directory e.identifier ≡ false → Built d m work level es ns
      → Built d m work level (e ∷ es) (record { level = suc level; entry = e } ∷ ns)
  directory-entry : {level : ℕ} {e : Entry} {es all : List Entry} {inner ns others : List Node} → is_skipped e.identifier ≡ false → is_directory e.identifier ≡ true
      → Parsed d m work e.identifier.icb all → Built d m work (suc level) all inner → Built d m work level es ns → others ≡ inner ++ ns
      → Built d m work level (e ∷ es) (record { level = suc level; entry = e } ∷ others)

-- the directory at icb, and what was built of its entries
pub record BuiltAt (d : Disc) (m : Mount) (work level : ℕ) (icb : LongAd) (ns : List Node) : Type 0 where
  pub all : List Entry
  pub from : Parsed d m work icb all
  pub built : Built d m work level all ns

module _ (d : Disc) (m : Mount) (lent : ℕ) where
  built_of : (inside : LongAd → Ask (List Node)) (level : ℕ) → ((icb : LongAd) (ns : List Node) → outcome d (inside icb) ≡ answered ns → BuiltAt d m lent (suc level) icb ns)
      → (es : List Entry) {ns : List Node} → outcome d (nodes_of inside (suc level) es) ≡ answered ns → Built d m lent level es ns
  unfolding nodes_of outcome
  built_of inside level h [] {ns} q = let z : ns ≡ [] = cc in rw z no-entry
  built_of inside level h (e ∷ es) {ns} q = by (is_skipped e.identifier) refl (λ more k. built_of inside level h es k) q
    where
      n : Node
      n = record { level = suc level; entry = e }

      turn : is_skipped e.identifier ≡ false → (t : Bool) → is_directory e.identifier ≡ t → (inner others : List Node) → outcome d (pick t (inside e.identifier.icb) (done [])) ≡ answered inner
          → Built d m lent level es others → Built d m lent level (e ∷ es) (n ∷ (inner ++ others))
      turn s true k inner others p b = let g = h e.identifier.icb inner p in directory-entry s k g.from g.built b refl
      turn s false k inner others p b = let z : inner ≡ [] = cc in rw z (file-entry s k b)

      by : (t : Bool) → is_skipped e.identifier ≡ t → ((more : List Node) → outcome d (nodes_of inside (suc level) es) ≡ answered more → Built d m lent level es more)
          → outcome d (pick t (nodes_of inside (suc level) es) (then (under inside e) (λ below. then (nodes_of inside (suc level) es) (λ others. done (n ∷ (below ++ others)))))) ≡ answered ns
          → Built d m lent level (e ∷ es) ns
      by true s ih k = skip-entry s (ih ns k)
      by false s ih k =
          let p = parts d (under inside e) (λ below. then (nodes_of inside (suc level) es) (λ others. done (n ∷ (below ++ others)))) k in
          let r = parts d (nodes_of inside (suc level) es) (λ others. done (n ∷ (p.a ++ others))) p.second in
          let w : answered (n ∷ (p.a ++ r.a)) ≡ answered ns = r.second in
          let z : ns ≡ n ∷ (p.a ++ r.a) = cc in
          rw z (turn s (is_directory e.identifier) refl p.a r.a p.first (ih r.a r.first))

  -- an answered tree is built so
  pub built-at : (left level work : ℕ) → work ≤ lent → (icb : LongAd) {ns : List Node} → outcome d (nodes_at m left (suc level) work icb) ≡ answered ns → BuiltAt d m lent level icb ns
  unfolding nodes_at outcome
  built-at zero level work h icb q = never q
  built-at (suc left) level work h icb q =
      let p = parts d (directory_bytes m work icb) (λ b. then (ended (entries (is_checked m) b)) (λ es. nodes_of (nodes_at m left (suc (suc level)) (work - length b)) (suc level) es)) q in
      let r = parts d (ended (entries (is_checked m) p.a)) (λ es. nodes_of (nodes_at m left (suc (suc level)) (work - length p.a)) (suc level) es) p.second in
      let w = was_read d m work icb p.first in
      record {
        all = r.a;
        from = record { bytes = p.a; read = w.read; fits = omega (arith, w.fits); parsed = ended_is d (entries (is_checked m) p.a) r.first };
        built = built_of (nodes_at m left (suc (suc level)) (work - length p.a)) level (λ i ns k. built-at left (suc level) (work - length p.a) (omega arith) i k) r.a r.second;
      }

-- ---- levels

-- all of them are deeper
unfoldable pub Deeper : ℕ → List Node → Type 0
Deeper level [] = Unit {0}
Deeper level (n ∷ ns) = (level < n.level) × Deeper level ns

deeper-joined : (level : ℕ) (a b : List Node) → Deeper level a → Deeper level b → Deeper level (a ++ b)
unfolding Deeper
deeper-joined level [] b p q = q
deeper-joined level (n ∷ a) b p q = (p.0, deeper-joined level a b p.1 q)

deeper-less : (level : ℕ) (ns : List Node) → Deeper (suc level) ns → Deeper level ns
unfolding Deeper
deeper-less level [] p = tt
deeper-less level (n ∷ ns) p = (omega (arith, p.0), deeper-less level ns p.1)

-- behind any node that isn't less deep the same steps are taken
steps-behind : (level before : ℕ) (ns : List Node) → level ≤ before → Steps level ns → Steps before ns
unfolding Steps
steps-behind level before [] h s = tt
steps-behind level before (n ∷ ns) h s = (s.0, omega (arith, s.1), s.2)

steps-joined : (level before : ℕ) (a b : List Node) → level ≤ before → Steps before a → Deeper level a → Steps level b → Steps before (a ++ b)
unfolding Steps Deeper
steps-joined level before [] b h s p t = steps-behind level before b h t
steps-joined level before (n ∷ a) b h s p t = (s.0, s.1, steps-joined level n.level a b (omega (arith, p.0)) s.2 p.1 t)

-- ---- what stands under a node

-- the first of them is no deeper than this
unfoldable pub Starts : ℕ → List Node → Type 0
Starts k [] = Unit {0}
Starts k (n ∷ ns) = n.level ≤ k

pub steps-start : (level : ℕ) (ns : List Node) → Steps level ns → Starts (suc level) ns
unfolding Steps Starts
steps-start level [] s = tt
steps-start level (n ∷ ns) s = s.1

none_below : (j k : ℕ) (ns : List Node) → j ≤ k → Starts j ns → below k ns ≡ []
unfolding below Starts
none_below j k [] h s = refl
none_below j k (n ∷ ns) h s = rw (le-ltb k n.level (omega arith))

pub below-stops : (j k : ℕ) (a b : List Node) → j ≤ k → Starts j b → below k (a ++ b) ≡ below k a
unfolding below
below-stops j k [] b h s = none_below j k b h s
below-stops j k (n ∷ a) b h s = ap (λ l. pick (ltb k n.level) (n ∷ l) []) (below-stops j k a b h s)

all-below : (k : ℕ) (ns : List Node) → Deeper k ns → below k ns ≡ ns
unfolding below Deeper
all-below k [] p = refl
all-below k (n ∷ ns) p = rw (lt-ltb k n.level p.0, all-below k ns p.1)

-- ---- the entries one level deeper

pub children-joined : (level : ℕ) (a b : List Node) → Deeper (suc level) a → children level (a ++ b) ≡ children level b
unfolding children Deeper
children-joined level [] b p = refl
children-joined level (n ∷ a) b p = rw (ne_eqb n.level (suc level) (λ e. omega (arith, p.0))) (children-joined level a b p.1)

-- ---- each node, with what stands behind it

unfoldable pub Each : Disc → Mount → List Node → Type 0
Each d m [] = Unit {0}
Each d m (n ∷ ns) = Under d m n ns × Each d m ns

each-joined : (d : Disc) (m : Mount) (level : ℕ) (a b : List Node) → Deeper level a → Steps level b → Each d m a → Each d m b → Each d m (a ++ b)
unfolding Each Deeper
each-joined d m level [] b p s x y = y
each-joined d m level (n ∷ a) b p s x y =
    let e = below-stops (suc level) n.level a b p.0 (steps-start level b s) in
    let u = x.0 in
    (record { directory = λ t. rw e (u.directory t); file = λ t. e ∙ u.file t }, each-joined d m level a b p.1 s x.1 y)

pub each-split : (d : Disc) (m : Mount) (before : List Node) (n : Node) (behind : List Node) → Each d m (before ++ n ∷ behind) → Under d m n behind
unfolding Each
each-split d m [] n behind x = x.0
each-split d m (y ∷ before) n behind x = each-split d m before n behind x.1

-- ---- of what was built

module _ {d : Disc} {m : Mount} {work : ℕ} where
  pub built-deeper : {level : ℕ} {es : List Entry} {ns : List Node} → Built d m work level es ns → Deeper level ns
  unfolding Deeper
  built-deeper no-entry = tt
  built-deeper (skip-entry s b) = built-deeper b
  built-deeper (file-entry s k b) = (omega arith, built-deeper b)
  built-deeper (directory-entry {level} {inner = inner} {ns} s k p i b e) = (omega arith, rw e (deeper-joined level inner ns (deeper-less level inner (built-deeper i)) (built-deeper b)))

  pub built-steps : {level : ℕ} {es : List Entry} {ns : List Node} → Built d m work level es ns → Steps level ns
  unfolding Steps
  built-steps no-entry = tt
  built-steps (skip-entry s b) = built-steps b
  built-steps (file-entry {level} {ns = ns} s k b) = (omega arith, omega arith, steps-behind level (suc level) ns (omega arith) (built-steps b))
  built-steps (directory-entry {level} {inner = inner} {ns} s k p i b e) =
      (omega arith, omega arith, rw e (steps-joined level (suc level) inner ns (omega arith) (built-steps i) (deeper-less level inner (built-deeper i)) (built-steps b)))

  pub built-children : {level : ℕ} {es : List Entry} {ns : List Node} → Built d m work level es ns → children level ns ≡ listed es
  unfolding children listed
  built-children no-entry = refl
  built-children (skip-entry s b) = rw s (built-children b)
  built-children (file-entry {level} s k b) = rw (s, eq-eqb (suc level) (suc level) refl, built-children b)
  built-children (directory-entry {level} {inner = inner} {ns} s k p i b e) = rw (s, eq-eqb (suc level) (suc level) refl, e, children-joined level inner ns (built-deeper i), built-children b)

  pub built-each : {level : ℕ} {es : List Entry} {ns : List Node} → Built d m work level es ns → Each d m ns
  unfolding Each
  built-each no-entry = tt
  built-each (skip-entry s b) = built-each b
  built-each (file-entry {level} {ns = ns} s k b) =
      (record { directory = λ t. not-both (sym k ∙ t); file = λ t. none_below (suc level) (suc level) ns (omega arith) (steps-start level ns (built-steps b)) }, built-each b)
  built-each (directory-entry {level} {all = all} {inner} {ns} s k p i b e) =
      let z : below (suc level) (inner ++ ns) ≡ inner = below-stops (suc level) (suc level) inner ns (omega arith) (steps-start level ns (built-steps b)) ∙ all-below (suc level) inner (built-deeper i) in
      let w : children (suc level) (below (suc level) (inner ++ ns)) ≡ listed all = ap (children (suc level)) z ∙ built-children i in (
        record { directory = λ t. rw (e, w) (parsed-entries p); file = λ t. not-both (sym t ∙ k) },
        rw e (each-joined d m (suc level) inner ns (built-deeper i) (steps-behind level (suc level) ns (omega arith) (built-steps b)) (built-each i) (built-each b)),
      )

-- The walk along a path's components against its tree. Assumes nothing.
use Rattle.std.specs.Prelude.{Option, Some, None}
use mathlib.Core.Path.{◌≡◌, refl, sym, ap, ◌∙◌}
use mathlib.Core.Bool.{Bool, true, false}
use mathlib.Core.List.{List, [], ◌∷◌}
use Prim.Native.Nat.{ℕ, ◌+◌, ◌-◌, ◌<◌, ◌≤◌, zero-le}
use native.Mathlib.Nat.{zero-add, add-sub_cancel_left}
use native.Mathlib.Omega.{arith}
use lib.ListN.{length, take, drop, length-drop, drop_of_length-le}
use lib.Seq.{drop-drop}
use borrow.Author.Tests.{ne_eqb, eq-eqb}
use Rattle.disc.specs.declared.places.Mount.{Mount}
use Rattle.disc.specs.Places.{is_checked}
use Rattle.listings.specs.declared.matchings.Matching.{Matching}
use Rattle.disc.specs.Refusals.{number}
use Rattle.disc.specs.Counts.{reported}
use Rattle.disc.specs.Ask.{Disc, Ask, Outcome, outcome, asked, and_then}
use Rattle.disc.specs.Ask.Outcome.{answered, refused}
use Rattle.disc.specs.Ran.{Ran, ran, after, onward, followed}
use Rattle.disc.specs.declared.refusals.Refusal.TheVariants.{NotBluray}
use Rattle.disc.specs.declared.replies.Reply.{Reply}
use Rattle.disc.proofs.RanLaws.{ran_then, ran-known}
use Rattle.disc.proofs.RefusalLaws.{refusal-numbered}
use Rattle.records.specs.Allocations.{no_long}
use Rattle.records.specs.declared.allocations.LongAd.{LongAd}
use Rattle.identifiers.specs.Identifiers.{is_directory}
use Rattle.listings.specs.Entries.{Entry}
use Rattle.listings.specs.Listings.{find_in, unnamed, named_of}
use Rattle.listings.specs.Paths.{Component, front, behind, components_from, components, slashes}
use Rattle.listings.specs.declared.finds.Named.{Named}
use Rattle.listings.proofs.PathLaws.{behind-slashes, front-is, no-more-slashes, first-component, front-some, component-within}
use Rattle.directories.specs.Directories.{directory_bytes}
use Rattle.directories.specs.Lookups.{Sought, entering, or_lost, seeking, seek_path, icb_of, found_to, lost_of}
use Rattle.directories.specs.Inner.Spaces.{reply_to, Reads}
use Rattle.directories.specs.Inner.Walks.{entered_of, stopped_at, lost_at, beyond_of, End, end_of, leads_to, On, Steps, Walks}
use Rattle.directories.specs.declared.lookups.Found.{Found}
use Rattle.directories.specs.declared.walks.Entered.{Entered}
use Rattle.directories.specs.declared.walks.PathPlace.{PathPlace}
use Rattle.directories.specs.declared.walks.PathEnd.{PathEnd}
use Rattle.directories.specs.declared.walks.Turn.{Turn}
use Rattle.directories.specs.declared.walks.Turn.TheVariants.{Goes, Ends}
use Rattle.directories.proofs.SpaceLaws.{reads-count, reads_bytes}

-- ---- one component

-- a directory that was not read refuses its entry
refused-entered : (o : Outcome (List ℕ)) (n : ℕ) {reply : Reply} → reply ≡ reply_to o n → (reply.answer ≡ 0 → ⊥) → (f : List ℕ → Outcome (Option Entry))
    → unnamed reply.answer ≡ named_of (and_then o f)
refused-entered (answered b) n p h f = absurd (h (rw p))
refused-entered (refused r) n p h f = rw p

module _ (d : Disc) (matching : Matching) (v : Mount) (icb : LongAd) (component : List ℕ) (w w' : List ℕ) {read : Reply} (p : Reads (ran d (directory_bytes v (length w) icb)) w w' read) where
  abbrev R : Ran (List ℕ)
  R = ran d (directory_bytes v (length w) icb)

  entering-is : ran d (entering matching v (length w) icb component) ≡ record { outcome = and_then R.outcome (find_in (is_checked v) matching component); count = R.count }
  unfolding entering
  entering-is = ran-known d (directory_bytes v (length w) icb) (find_in (is_checked v) matching component)

  pub enter-refused : (read.answer ≡ 0 → ⊥) → (e : Named) → e ≡ unnamed read.answer
      → record { entry = e; count = read.count } ≡ entered_of (ran d (entering matching v (length w) icb component))
  enter-refused h e q = rw (q, entering-is, reads-count p, refused-entered R.outcome (reported R.count) p.says h (find_in (is_checked v) matching component))

  pub enter-found : read.answer ≡ 0 → {check : Bool} → check ≡ is_checked v → (e : Named) → e ≡ named_of (find_in check matching component (take (read.length - 0) (drop 0 w')))
      → record { entry = e; count = read.count } ≡ entered_of (ran d (entering matching v (length w) icb component))
  enter-found h k e q = rw (q, k, entering-is, reads_bytes p h, reads-count p)

-- ---- the walk

abbrev not_found : ℕ → ℕ → Found
not_found answer n = record { answer = answer; count = n; icb = no_long }

end-reported : (r : Ran Sought) (a k : ℕ) → end_of (after (reported (a + reported k)) r) ≡ end_of (after a (after k r))
end-reported r a k = ap (λ n. record { found = found_to (and_then r.outcome icb_of) n; lost = lost_of r.outcome }) (omega arith)

both : {f f' : Found} {l l' : Component} → f ≡ f' → l ≡ l' → ◌≡◌ {A = End} (record { found = f; lost = l }) (record { found = f'; lost = l' })
both p q = rw (p, q)

-- behind the slashes at e
module _ (path : List ℕ) (e : ℕ) {a : ℕ} (p : a ≡ e + slashes (drop e path)) where
  skipped : drop a path ≡ drop (slashes (drop e path)) (drop e path)
  skipped = rw (p, drop-drop)

  pub same-components : components_from a (drop a path) ≡ components_from e (drop e path)
  same-components = rw (skipped, p) (behind-slashes e (drop e path))

  none_left : slashes (drop a path) ≡ 0
  none_left = rw skipped (no-more-slashes (drop e path))

module _ (d : Disc) (matching : Matching) (v : Mount) (work : ℕ) (path : List ℕ) {p : PathPlace} (on : On path p) {from : ℕ} (behind-it : from ≡ p.from + slashes (drop p.from path)) where
  ahead : leads_to d matching v work path (Goes p) ≡ end_of (after p.count (ran d (seeking matching v work (components_from from (drop from path)) p.icb p.directory)))
  unfolding leads_to
  ahead = rw (same-components path p.from behind-it)

  counts : reported (p.count + 0) ≡ p.count
  counts = omega (arith, on.counted)

  -- an end of the walk at which a part of the path is lost
  ends-here : (a b answer : ℕ) (icb : LongAd) (n : ℕ) → a ≤ b → b ≤ length path
      → record { found = record { answer = answer; count = n; icb = icb }; lost = record { bytes = take (b - a) (drop a path); at = a } } ≡ leads_to d matching v work path (Goes p)
      → Steps d matching v work path p (stopped_at answer icb n a b)
  unfolding leads_to
  ends-here a b answer icb n h k s = record { same = s; comes = (h, k) }

  pub step-arrives : length path ≤ from → {q : Turn}
      → q ≡ stopped_at 0 p.icb p.count 0 0 → Steps d matching v work path p q
  unfolding components_from front behind seeking ran outcome asked
  step-arrives h e =
      let z : drop from path ≡ [] = drop_of_length-le path h in
      rw e
      (ends-here 0 0 0 p.icb p.count zero-le zero-le
      (sym (ahead ∙ rw z (both (ap (λ n. record { answer = 0; count = n; icb = p.icb }) counts) refl))))

  module _ (h : from < length path) {end : ℕ} (k : end ≡ from + length (front (drop from path))) where
    pub some_left : components_from from (drop from path) ≡ record { bytes = front (drop from path); at = from } ∷ components_from end (drop end path)
    some_left = first-component from (drop from path) (none_left path p.from behind-it) (rw length-drop (omega arith)) ∙ rw (drop-drop, ← k)

    end-within : end ≤ length path
    end-within = component-within path from h k

    further : from < end
    further = omega (arith, k, front-some (drop from path) (none_left path p.from behind-it) (rw length-drop (omega arith)))

    pub component-is : take (end - from) (drop from path) ≡ front (drop from path)
    component-is = rw (k, add-sub_cancel_left) (front-is (drop from path))

    pub step-dead : p.directory ≡ false → {q : Turn} → q ≡ lost_at p.count from end → Steps d matching v work path p q
    unfolding seeking ran outcome asked
    step-dead t e =
        rw e
        (ends-here from end (number NotBluray) no_long p.count (omega (arith, further)) end-within
        (sym (ahead ∙ rw (some_left, t, ← component-is) (both (ap (not_found (number NotBluray)) counts) refl))))

    module _ (t : p.directory ≡ true) where
      abbrev C : Component
      C = record { bytes = take (end - from) (drop from path); at = from }

      abbrev rest : Option Entry → Ask Sought
      rest o = or_lost C o (λ e. seeking matching v work (components_from end (drop end path)) e.identifier.icb (is_directory e.identifier))

      turn : leads_to d matching v work path (Goes p) ≡ end_of (after p.count (followed (ran d (entering matching v work p.icb C.bytes)) (λ o. ran d (rest o))))
      unfolding seeking
      turn = ahead ∙ rw (some_left, t, ← component-is) (ap (λ x. end_of (after p.count x)) (ran_then d (entering matching v work p.icb C.bytes) rest))

      -- on to the next component
      goes_on : (icb : LongAd) (directory : Bool) (n : ℕ) → n ≤ 0xffff_ffff_ffff_ffff
          → end_of (after n (ran d (seeking matching v work (components_from end (drop end path)) icb directory))) ≡ leads_to d matching v work path (Goes p)
          → Steps d matching v work path p (Goes (record { icb = icb; directory = directory; count = n; from = end }))
      unfolding leads_to
      goes_on icb directory n c s =
          record { same = s; comes = (omega (arith, further, behind-it), record { within = end-within; counted = c }) }

      by-outcome : (o : Outcome (Option Entry)) (m : ℕ) → leads_to d matching v work path (Goes p) ≡ end_of (after p.count (onward o m (λ o. ran d (rest o))))
          → Steps d matching v work path p (beyond_of (named_of o) (reported (p.count + reported m)) from end)
      unfolding beyond_of ran outcome asked
      by-outcome (answered (Some e)) m s =
          goes_on e.identifier.icb (is_directory e.identifier) _ (omega arith) (end-reported (ran d (rest (Some e))) p.count m ∙ sym s)
      by-outcome (answered None) m s =
          ends-here from end (number NotBluray) no_long _ (omega (arith, further)) end-within (both (ap (not_found (number NotBluray)) (omega arith)) refl ∙ sym s)
      by-outcome (refused r) m s =
          simp (ne_eqb _ _ (refusal-numbered r))
          (ends-here 0 0 (number r) no_long _ zero-le zero-le (both (ap (not_found (number r)) (omega arith)) refl ∙ sym s))

      pub step-enters : {e : Entered} → e ≡ entered_of (ran d (entering matching v work p.icb C.bytes)) → {n : ℕ} → n ≡ reported (p.count + e.count)
          → {q : Turn} → q ≡ beyond_of e.entry n from end → Steps d matching v work path p q
      step-enters {e} x {n} y z =
          let R : Ran (Option Entry) = ran d (entering matching v work p.icb C.bytes) in
          let m : n ≡ reported (p.count + reported R.count) = y ∙ rw x in
          rw (z, m, x) (by-outcome R.outcome R.count turn)

-- the walk has come to p
pub record Walking (d : Disc) (matching : Matching) (v : Mount) (work : ℕ) (root : LongAd) (path : List ℕ) (p : PathPlace) : Type 0 where
  pub on : On path p
  pub same : leads_to d matching v work path (Goes p) ≡ end_of (ran d (seek_path matching v work root path))

pub walk-starts : (d : Disc) (matching : Matching) (v : Mount) (work : ℕ) (root : LongAd) (path : List ℕ)
    → Walking d matching v work root path (record { icb = root; directory = true; count = 0; from = 0 })
unfolding leads_to seek_path components
walk-starts d matching v work root path =
    record {
      on = record { within = zero-le; counted = zero-le };
      same = simp zero-add;
    }

module _ {d : Disc} {matching : Matching} {v : Mount} {work : ℕ} {root : LongAd} {path : List ℕ} {p : PathPlace} (w : Walking d matching v work root path p)
    (lent : ℕ) (l : lent ≡ work) {t : Turn} (s : Steps d matching v lent path p t) where
  pub walk-next : {q : PathPlace} → t ≡ Goes q → Walking d matching v work root path q
  walk-next {q} e =
      let r : Steps d matching v work path p (Goes q) = rw (l, e) at s in
      record { on = r.comes.1; same = r.same ∙ w.same }

  pub walk-nearer : {q : PathPlace} → t ≡ Goes q → length path - q.from < length path - p.from
  walk-nearer {q} e =
      let r : Steps d matching v work path p (Goes q) = rw (l, e) at s in
      omega (arith, r.comes.0, r.comes.1.within)

  pub walk_ends : {x : PathEnd} → t ≡ Ends x → Walks d matching v work root path x
  unfolding leads_to
  walk_ends {x} e =
      let r : Steps d matching v work path p (Ends x) = rw (l, e) at s in
      let same = r.same ∙ w.same in
      record { found = ap (λ (x : End). x.found) same; lost = ap (λ (x : End). x.lost) same; ordered = r.comes.0; within = r.comes.1 }

-- the returns of `beyond`
module _ (e : Named) (count from end : ℕ) where
  pub beyond-refused : (e.answer ≡ 0 → ⊥) → {l : LongAd} → l ≡ no_long → {q : Turn} → q ≡ stopped_at e.answer l count 0 0 → q ≡ beyond_of e count from end
  unfolding beyond_of
  beyond-refused z n k = rw (ne_eqb e.answer 0 z, k, n)

  module _ (z : e.answer ≡ 0) where
    pub beyond-lost : e.found ≡ false → {q : Turn} → q ≡ lost_at count from end → q ≡ beyond_of e count from end
    unfolding beyond_of
    beyond-lost h k = rw (eq-eqb e.answer 0 z, h) k

    pub beyond-on : e.found ≡ true → Goes (record { icb = e.icb; directory = e.directory; count = count; from = end }) ≡ beyond_of e count from end
    unfolding beyond_of
    beyond-on h = rw (eq-eqb e.answer 0 z, h)

-- How the choices of matching agree along a path, what the second tells apart, and at which component the third is refused. Assumes nothing.
use Rattle.std.specs.Prelude.{Option, Some, None}
use mathlib.Core.Path.{◌≡◌, refl, sym, ap, ◌∙◌}
use mathlib.Core.Bool.{Bool, true, false}
use mathlib.Core.List.{List, [], ◌∷◌}
use mathlib.Core.Logic.{◌⊎◌, inl, inr}
use Prim.Native.Nat.{ℕ, ◌+◌}
use native.Mathlib.Omega.{arith}
use Rattle.disc.specs.declared.places.Mount.{Mount}
use Rattle.disc.specs.Places.{is_checked}
use Rattle.disc.specs.Refusals.{number}
use Rattle.disc.specs.Ask.{Disc, Outcome, and_then}
use Rattle.disc.specs.Ask.Outcome.{answered, refused}
use Rattle.disc.specs.Ran.{Ran, ran, after, onward}
use Rattle.disc.specs.declared.refusals.Refusal.{Refusal}
use Rattle.disc.specs.declared.refusals.Refusal.TheVariants.{Ambiguous}
use Rattle.disc.proofs.RanLaws.{ran-done, never, ran-known}
use Rattle.records.specs.declared.allocations.LongAd.{LongAd}
use Rattle.identifiers.specs.Identifiers.{is_directory}
use Rattle.names.specs.Names.{lower, as_is}
use Rattle.listings.specs.Entries.{Entry, entries}
use Rattle.listings.specs.Listings.{all_named, chosen, find_in}
use Rattle.listings.specs.Paths.{Component}
use Rattle.listings.specs.declared.matchings.Matching.{Matching}
use Rattle.listings.specs.declared.matchings.Matching.TheVariants.{CaseIgnored, AsWritten, Unambiguous}
use Rattle.listings.proofs.Promises.{entries-refused}
use Rattle.listings.proofs.RecordLaws.{found-answers}
use Rattle.listings.proofs.MatchingLaws.{chosen-refused, refused-several, several-refused, only-first, told-apart, written-agrees, apart-agree, apart-written}
use Rattle.directories.specs.Directories.{directory_bytes}
use Rattle.directories.specs.Lookups.{Sought, entering, seeking}
use Rattle.directories.specs.Lookups.Sought.{reached}
use Rattle.directories.proofs.PathLaws.{entering-is, takes-enters, enters-takes, takes_first_lem, on, walk_is, leads-on}
use Rattle.directories.specs.Leads.{Takes, Leads, walk, ApartOn, IsLost, Doubles}

-- go on alike after the same
onward-same : (o : Outcome (Option Entry)) (n : ℕ) (f g : Option Entry → Ran Sought) → ((x : Option Entry) → o ≡ answered x → f x ≡ g x) → onward o n f ≡ onward o n g
onward-same (answered x) n f g h = ap (after n) (h x refl)
onward-same (refused why) n f g h = refl

-- what a directory comes to by two choices that do the same with the entries of a name
module _ (d : Disc) (v : Mount) (work : ℕ) (icb : LongAd) (name : List ℕ) (matching matching' : Matching) where
  abbrev R : Ran (List ℕ)
  R = ran d (directory_bytes v work icb)

  alike : ((b : List ℕ) → R.outcome ≡ answered b → find_in (is_checked v) matching name b ≡ find_in (is_checked v) matching' name b) → ran d (entering matching v work icb name) ≡ ran d (entering matching' v work icb name)
  unfolding entering
  alike h =
      ran-known d (directory_bytes v work icb) (find_in (is_checked v) matching name)
      ∙ ap (λ o. record { outcome = o; count = R.count }) (by R.outcome refl)
      ∙ sym (ran-known d (directory_bytes v work icb) (find_in (is_checked v) matching' name))
    where
      by : (o : Outcome (List ℕ)) → R.outcome ≡ o → and_then o (find_in (is_checked v) matching name) ≡ and_then o (find_in (is_checked v) matching' name)
      by (answered b) r = h b r
      by (refused why) r = refl

  -- one entry taken by both
  pub one-taken : {e : Entry} → Takes d matching v work icb name e → Takes d matching' v work icb name e → ran d (entering matching v work icb name) ≡ ran d (entering matching' v work icb name)
  one-taken t u = takes-enters d matching v work icb name t ∙ sym (takes-enters d matching' v work icb name u)

-- two ways to take something in one directory have its bytes and its entries in common
record Common (d : Disc) (v : Mount) (work : ℕ) (icb : LongAd) (bytes : List ℕ) (all : List Entry) : Type 0 where
  read : (ran d (directory_bytes v work icb)).outcome ≡ answered bytes
  parsed : entries (is_checked v) bytes ≡ answered all

common : (d : Disc) (v : Mount) (work : ℕ) (icb : LongAd) (b b' : List ℕ) (es es' : List Entry) → Common d v work icb b es → Common d v work icb b' es' → es ≡ es'
common d v work icb b b' es es' p q =
    let r : answered b ≡ answered b' = sym p.read ∙ q.read in
    let z : b ≡ b' = cc in
    let s : answered es ≡ answered es' = sym p.parsed ∙ ap (entries (is_checked v)) z ∙ q.parsed in
    cc

module _ (d : Disc) (v : Mount) (work : ℕ) where
  -- ---- the third choice and the first

  only_one : (icb : LongAd) (name : List ℕ) → ((ran d (entering Unambiguous v work icb name)).outcome ≡ refused Ambiguous → ⊥)
      → ran d (entering CaseIgnored v work icb name) ≡ ran d (entering Unambiguous v work icb name)
  unfolding find_in
  only_one icb name n =
      alike d v work icb name CaseIgnored Unambiguous (λ b r. by b (entries (is_checked v) b) refl (λ k. n (entering-is d Unambiguous v work icb name ∙ ap (λ o. and_then o (find_in (is_checked v) Unambiguous name)) r ∙ k)))
    where
      taken : (xs : List Entry) (o : Outcome (Option Entry)) → chosen Unambiguous xs ≡ o → (o ≡ refused Ambiguous → ⊥) → chosen CaseIgnored xs ≡ chosen Unambiguous xs
      taken xs (answered o) e m = only-first xs e ∙ sym e
      taken xs (refused why) e m = absurd (m (ap refused (chosen-refused Unambiguous xs e).1))

      by : (b : List ℕ) (o : Outcome (List Entry)) → entries (is_checked v) b ≡ o → (and_then o (λ es. chosen Unambiguous (all_named lower name es)) ≡ refused Ambiguous → ⊥)
          → and_then o (λ es. chosen CaseIgnored (all_named lower name es)) ≡ and_then o (λ es. chosen Unambiguous (all_named lower name es))
      by b (answered es) e m = taken (all_named lower name es) (chosen Unambiguous (all_named lower name es)) refl m
      by b (refused why) e m = refl

  -- wherever the third isn't refused by 9, the first comes to the same after as many sectors
  pub only-agrees : (cs : List Component) (icb : LongAd) (directory : Bool) → ((walk d Unambiguous v work cs icb directory).outcome ≡ refused Ambiguous → ⊥)
      → walk d CaseIgnored v work cs icb directory ≡ walk d Unambiguous v work cs icb directory
  unfolding seeking
  only-agrees [] icb directory n = refl
  only-agrees (c ∷ cs) icb false n = refl
  only-agrees (c ∷ cs) icb true n =
      let E = ran d (entering Unambiguous v work icb c.bytes) in
      let n' : (onward E.outcome E.count (on d Unambiguous v work c cs)).outcome ≡ refused Ambiguous → ⊥ = λ k. n (ap (λ (r : Ran Sought). r.outcome) (walk_is d Unambiguous v work c cs icb) ∙ k) in
      walk_is d CaseIgnored v work c cs icb
      ∙ rw (only_one icb c.bytes (λ k. n' (rw k refl)))
      (onward-same E.outcome E.count (on d CaseIgnored v work c cs) (on d Unambiguous v work c cs)
      (by E.outcome E.count n' (λ e k. only-agrees cs e.identifier.icb (is_directory e.identifier) k)))
      ∙ sym (walk_is d Unambiguous v work c cs icb)
    where
      by : (o : Outcome (Option Entry)) (n : ℕ) → ((onward o n (on d Unambiguous v work c cs)).outcome ≡ refused Ambiguous → ⊥)
          → ((e : Entry) → ((walk d Unambiguous v work cs e.identifier.icb (is_directory e.identifier)).outcome ≡ refused Ambiguous → ⊥)
          → walk d CaseIgnored v work cs e.identifier.icb (is_directory e.identifier) ≡ walk d Unambiguous v work cs e.identifier.icb (is_directory e.identifier))
          → (x : Option Entry) → o ≡ answered x → on d CaseIgnored v work c cs x ≡ on d Unambiguous v work c cs x
      by o m q ih None e = refl
      by o m q ih (Some y) e = ih y (λ k. q (rw e k))

  -- ---- the second choice and the third

  written_one : (icb : LongAd) (name : List ℕ) {e f : Entry} → Takes d AsWritten v work icb name e → Takes d Unambiguous v work icb name f → e ≡ f
  written_one icb name t u =
      let z : t.all ≡ u.all = common d v work icb t.bytes u.bytes t.all u.all (record { read = t.read; parsed = t.parsed }) (record { read = u.read; parsed = u.parsed }) in
      written-agrees name u.all (rw z at t.takes) u.takes

  -- where both reach an ICB, they come to the same after as many sectors
  pub written-agrees-only : (cs : List Component) (icb : LongAd) (directory : Bool) {i j : LongAd}
      → (walk d AsWritten v work cs icb directory).outcome ≡ answered (reached i) → (walk d Unambiguous v work cs icb directory).outcome ≡ answered (reached j)
      → walk d AsWritten v work cs icb directory ≡ walk d Unambiguous v work cs icb directory
  unfolding seeking
  written-agrees-only [] icb directory h k = refl
  written-agrees-only (c ∷ cs) icb false h k = refl
  written-agrees-only (c ∷ cs) icb true {i} {j} h k =
      let E = ran d (entering AsWritten v work icb c.bytes) in
      let F = ran d (entering Unambiguous v work icb c.bytes) in
      walk_is d AsWritten v work c cs icb
      ∙ by E.outcome F.outcome refl refl (λ e p q. written-agrees-only cs e.identifier.icb (is_directory e.identifier) p q)
      (sym (ap (λ (r : Ran Sought). r.outcome) (walk_is d AsWritten v work c cs icb)) ∙ h)
      (sym (ap (λ (r : Ran Sought). r.outcome) (walk_is d Unambiguous v work c cs icb)) ∙ k)
      ∙ sym (walk_is d Unambiguous v work c cs icb)
    where
      by : (o p : Outcome (Option Entry)) → (ran d (entering AsWritten v work icb c.bytes)).outcome ≡ o → (ran d (entering Unambiguous v work icb c.bytes)).outcome ≡ p
          → ((e : Entry) → (walk d AsWritten v work cs e.identifier.icb (is_directory e.identifier)).outcome ≡ answered (reached i)
          → (walk d Unambiguous v work cs e.identifier.icb (is_directory e.identifier)).outcome ≡ answered (reached j)
          → walk d AsWritten v work cs e.identifier.icb (is_directory e.identifier) ≡ walk d Unambiguous v work cs e.identifier.icb (is_directory e.identifier))
          → (onward o (ran d (entering AsWritten v work icb c.bytes)).count (on d AsWritten v work c cs)).outcome ≡ answered (reached i)
          → (onward p (ran d (entering Unambiguous v work icb c.bytes)).count (on d Unambiguous v work c cs)).outcome ≡ answered (reached j)
          → onward o (ran d (entering AsWritten v work icb c.bytes)).count (on d AsWritten v work c cs)
          ≡ onward p (ran d (entering Unambiguous v work icb c.bytes)).count (on d Unambiguous v work c cs)
      by (refused why) p x y ih h k = never h
      by (answered None) p x y ih h k = absurd (let z = rw ran-done at h in let w : ◌≡◌ {A = ℕ} 0 1 = cc in omega arith)
      by (answered (Some e)) (refused why) x y ih h k = never k
      by (answered (Some e)) (answered None) x y ih h k = absurd (let z = rw ran-done at k in let w : ◌≡◌ {A = ℕ} 0 1 = cc in omega arith)
      by (answered (Some e)) (answered (Some f)) x y ih h k =
          let t = enters-takes d AsWritten v work icb c.bytes x in
          let u = enters-takes d Unambiguous v work icb c.bytes y in
          let z : e ≡ f = written_one icb c.bytes t u in
          let n : (ran d (entering AsWritten v work icb c.bytes)).count ≡ (ran d (entering Unambiguous v work icb c.bytes)).count =
          ap (λ (r : Ran (Option Entry)). r.count) (one-taken d v work icb c.bytes AsWritten Unambiguous {e = f} (rw z at t) u) in
          let k' = rw (← z) at k in
          rw (n, ← z) (ap (after (ran d (entering Unambiguous v work icb c.bytes)).count) (ih e h k'))

  -- ---- as written: one entry of a directory has one name

  pub written_apart : (icb : LongAd) (name name' : List ℕ) (e : Entry) → Takes d AsWritten v work icb name e → Takes d AsWritten v work icb name' e → name ≡ name'
  written_apart icb name name' e t u =
      told-apart name name' e
      (found-answers as_is name t.all (takes_first_lem d AsWritten v work icb name t))
      (found-answers as_is name' u.all (takes_first_lem d AsWritten v work icb name' u))

-- ---- where no two names are equal with case ignored

module _ (d : Disc) (v : Mount) (work : ℕ) where
  apart-one : (c : Component) (cs : List Component) (icb : LongAd) → ApartOn d v work (c ∷ cs) icb true
      → ran d (entering Unambiguous v work icb c.bytes) ≡ ran d (entering CaseIgnored v work icb c.bytes)
  unfolding ApartOn find_in
  apart-one c cs icb a = alike d v work icb c.bytes Unambiguous CaseIgnored (λ b r. by b r (entries (is_checked v) b) refl)
    where
      by : (b : List ℕ) → (ran d (directory_bytes v work icb)).outcome ≡ answered b → (o : Outcome (List Entry)) → entries (is_checked v) b ≡ o
          → and_then o (λ es. chosen Unambiguous (all_named lower c.bytes es)) ≡ and_then o (λ es. chosen CaseIgnored (all_named lower c.bytes es))
      by b r (answered es) p = apart-agree c.bytes es (a b es r p).0
      by b r (refused why) p = refl

  -- what stands behind the entry that the first choice takes
  apart-behind : (c : Component) (cs : List Component) (icb : LongAd) → ApartOn d v work (c ∷ cs) icb true → {e : Entry} → Takes d CaseIgnored v work icb c.bytes e
      → ApartOn d v work cs e.identifier.icb (is_directory e.identifier)
  unfolding ApartOn
  apart-behind c cs icb a {e} t = (a t.bytes t.all t.read t.parsed).1 e (takes_first_lem d CaseIgnored v work icb c.bytes t)

  -- the first choice and the third come to the same after as many sectors,
  pub apart-only : (cs : List Component) (icb : LongAd) (directory : Bool) → ApartOn d v work cs icb directory
      → walk d Unambiguous v work cs icb directory ≡ walk d CaseIgnored v work cs icb directory
  unfolding seeking
  apart-only [] icb directory a = refl
  apart-only (c ∷ cs) icb false a = refl
  apart-only (c ∷ cs) icb true a =
      let E = ran d (entering CaseIgnored v work icb c.bytes) in
      walk_is d Unambiguous v work c cs icb
      ∙ rw (apart-one c cs icb a)
      (onward-same E.outcome E.count (on d Unambiguous v work c cs) (on d CaseIgnored v work c cs)
      (by (λ e t. apart-only cs e.identifier.icb (is_directory e.identifier) (apart-behind c cs icb a t))))
      ∙ sym (walk_is d CaseIgnored v work c cs icb)
    where
      by : ((e : Entry) → Takes d CaseIgnored v work icb c.bytes e
          → walk d Unambiguous v work cs e.identifier.icb (is_directory e.identifier) ≡ walk d CaseIgnored v work cs e.identifier.icb (is_directory e.identifier))
          → (x : Option Entry) → (ran d (entering CaseIgnored v work icb c.bytes)).outcome ≡ answered x → on d Unambiguous v work c cs x ≡ on d CaseIgnored v work c cs x
      by ih None q = refl
      by ih (Some e) q = ih e (enters-takes d CaseIgnored v work icb c.bytes q)

  -- what the second takes, the first does
  written-case : (c : Component) (cs : List Component) (icb : LongAd) → ApartOn d v work (c ∷ cs) icb true → {e : Entry} → Takes d AsWritten v work icb c.bytes e → Takes d CaseIgnored v work icb c.bytes e
  unfolding ApartOn
  written-case c cs icb a t =
      record { bytes = t.bytes; read = t.read; all = t.all; parsed = t.parsed; takes = apart-written c.bytes t.all (a t.bytes t.all t.read t.parsed).0 t.takes }

  -- the second is refused before a name is matched, or not at all
  written-refused : (icb : LongAd) (name : List ℕ) {why : Refusal} → (ran d (entering AsWritten v work icb name)).outcome ≡ refused why
      → ran d (entering AsWritten v work icb name) ≡ ran d (entering CaseIgnored v work icb name)
  unfolding find_in
  written-refused icb name {why} h =
      alike d v work icb name AsWritten CaseIgnored (λ b r. by b (entries (is_checked v) b) refl (sym (ap (λ o. and_then o (find_in (is_checked v) AsWritten name)) r) ∙ sym (entering-is d AsWritten v work icb name) ∙ h))
    where
      by : (b : List ℕ) (o : Outcome (List Entry)) → entries (is_checked v) b ≡ o → and_then o (λ es. chosen AsWritten (all_named as_is name es)) ≡ refused why
          → and_then o (λ es. chosen AsWritten (all_named as_is name es)) ≡ and_then o (λ es. chosen CaseIgnored (all_named lower name es))
      by b (answered es) p k = absurd (let z = chosen-refused AsWritten (all_named as_is name es) k in let y = z.0 in let w : ◌≡◌ {A = ℕ} 0 1 = cc in omega arith)
      by b (refused w) p k = refl

  -- and the second comes to the same, or is lost at a component that is written in another case than its entry, or has none
  pub apart-written-agrees : (cs : List Component) (icb : LongAd) (directory : Bool) → ApartOn d v work cs icb directory
      → (walk d AsWritten v work cs icb directory ≡ walk d CaseIgnored v work cs icb directory) ⊎ IsLost (walk d AsWritten v work cs icb directory)
  unfolding seeking
  apart-written-agrees [] icb directory a = inl refl
  apart-written-agrees (c ∷ cs) icb false a = inl refl
  apart-written-agrees (c ∷ cs) icb true a =
      by (ran d (entering AsWritten v work icb c.bytes)).outcome refl (λ e t. apart-written-agrees cs e.identifier.icb (is_directory e.identifier) (apart-behind c cs icb a t))
    where
      same : ran d (entering AsWritten v work icb c.bytes) ≡ ran d (entering CaseIgnored v work icb c.bytes)
          → ((x : Option Entry) → (ran d (entering AsWritten v work icb c.bytes)).outcome ≡ answered x → on d AsWritten v work c cs x ≡ on d CaseIgnored v work c cs x)
          → walk d AsWritten v work (c ∷ cs) icb true ≡ walk d CaseIgnored v work (c ∷ cs) icb true
      same e f =
          let E = ran d (entering AsWritten v work icb c.bytes) in
          walk_is d AsWritten v work c cs icb
          ∙ onward-same E.outcome E.count (on d AsWritten v work c cs) (on d CaseIgnored v work c cs) f
          ∙ ap (λ (r : Ran (Option Entry)). onward r.outcome r.count (on d CaseIgnored v work c cs)) e
          ∙ sym (walk_is d CaseIgnored v work c cs icb)

      behind : (e : Entry) → (ran d (entering AsWritten v work icb c.bytes)).outcome ≡ answered (Some e)
          → (walk d AsWritten v work cs e.identifier.icb (is_directory e.identifier) ≡ walk d CaseIgnored v work cs e.identifier.icb (is_directory e.identifier))
          ⊎ IsLost (walk d AsWritten v work cs e.identifier.icb (is_directory e.identifier))
          → (walk d AsWritten v work (c ∷ cs) icb true ≡ walk d CaseIgnored v work (c ∷ cs) icb true) ⊎ IsLost (walk d AsWritten v work (c ∷ cs) icb true)
      behind e q (inl p) =
          let t = enters-takes d AsWritten v work icb c.bytes q in
          inl
          (same (one-taken d v work icb c.bytes AsWritten CaseIgnored t (written-case c cs icb a t))
          (λ x k. let z : x ≡ Some e = (let y : answered x ≡ answered (Some e) = sym k ∙ q in cc) in rw z p))
      behind e q (inr l) = inr (record { component = l.component; is = ap (λ (r : Ran Sought). r.outcome) (walk_is d AsWritten v work c cs icb) ∙ rw q l.is })

      by : (o : Outcome (Option Entry)) → (ran d (entering AsWritten v work icb c.bytes)).outcome ≡ o
          → ((e : Entry) → Takes d CaseIgnored v work icb c.bytes e
          → (walk d AsWritten v work cs e.identifier.icb (is_directory e.identifier) ≡ walk d CaseIgnored v work cs e.identifier.icb (is_directory e.identifier))
          ⊎ IsLost (walk d AsWritten v work cs e.identifier.icb (is_directory e.identifier)))
          → (walk d AsWritten v work (c ∷ cs) icb true ≡ walk d CaseIgnored v work (c ∷ cs) icb true) ⊎ IsLost (walk d AsWritten v work (c ∷ cs) icb true)
      by (refused why) q ih = inl (same (written-refused icb c.bytes q) (λ x k. never (sym q ∙ k)))
      by (answered None) q ih = inr (record { component = c; is = ap (λ (r : Ran Sought). r.outcome) (walk_is d AsWritten v work c cs icb) ∙ rw (q, ran-done) refl })
      by (answered (Some e)) q ih = behind e q (ih e (written-case c cs icb a (enters-takes d AsWritten v work icb c.bytes q)))

-- ---- at which component of a path several entries match

module _ (d : Disc) (v : Mount) (work : ℕ) where
  -- the first such directory on the way refuses the walk, after the sectors of its read
  pub doubles-refused : (cs : List Component) (from : LongAd) (o : Doubles d v work cs from)
      → walk d Unambiguous v work cs from true
      ≡ record { outcome = refused Ambiguous; count = (walk d Unambiguous v work o.before from true).count + (ran d (directory_bytes v work o.directory)).count }
  unfolding entering find_in
  doubles-refused cs from o =
      rw o.parts (leads-on d Unambiguous v work o.before (o.next ∷ o.others) from o.directory o.led)
      ∙ ap (after (walk d Unambiguous v work o.before from true).count)
      (walk_is d Unambiguous v work o.next o.others o.directory
      ∙ rw (ran-known d (directory_bytes v work o.directory) (find_in (is_checked v) Unambiguous o.next.bytes), o.read, o.parsed, several-refused (all_named lower o.next.bytes o.all) o.several))

  -- and nothing else does, where no read is refused so by itself
  module _ (never-so : (icb : LongAd) → (ran d (directory_bytes v work icb)).outcome ≡ refused Ambiguous → ⊥) where
    several-here : (c : Component) (others : List Component) (icb : LongAd) → (ran d (entering Unambiguous v work icb c.bytes)).outcome ≡ refused Ambiguous → Doubles d v work (c ∷ others) icb
    unfolding find_in Leads
    several-here c others icb h = by (ran d (directory_bytes v work icb)).outcome refl (sym (entering-is d Unambiguous v work icb c.bytes) ∙ h)
      where
        listed : (b : List ℕ) → (ran d (directory_bytes v work icb)).outcome ≡ answered b → (p : Outcome (List Entry)) → entries (is_checked v) b ≡ p
            → and_then p (λ es. chosen Unambiguous (all_named lower c.bytes es)) ≡ refused Ambiguous → Doubles d v work (c ∷ others) icb
        listed b r (answered es) e k =
            record {
              before = [];
              next = c;
              others = others;
              parts = refl;
              directory = icb;
              led = refl;
              bytes = b;
              read = r;
              all = es;
              parsed = e;
              several = refused-several Unambiguous (all_named lower c.bytes es) k;
            }
        listed b r (refused why) e k = absurd (let z : why ≡ Ambiguous = cc in entries-refused (is_checked v) b (λ w. number w ≡ 9 → ⊥) (λ n. omega arith) (λ c n. omega arith) e (ap number z))

        by : (o : Outcome (List ℕ)) → (ran d (directory_bytes v work icb)).outcome ≡ o → and_then o (find_in (is_checked v) Unambiguous c.bytes) ≡ refused Ambiguous → Doubles d v work (c ∷ others) icb
        by (answered b) r k = listed b r (entries (is_checked v) b) refl k
        by (refused why) r k = absurd (never-so icb (let z : why ≡ Ambiguous = cc in rw z at r))

    pub refused-doubles : (cs : List Component) (from : LongAd) → (walk d Unambiguous v work cs from true).outcome ≡ refused Ambiguous → Doubles d v work cs from
    unfolding seeking Leads
    refused-doubles [] from h = never (let z = rw ran-done at h in sym z)
    refused-doubles (c ∷ cs) from h =
        by (ran d (entering Unambiguous v work from c.bytes)).outcome (ran d (entering Unambiguous v work from c.bytes)).count refl (λ icb k. refused-doubles cs icb k)
        (sym (ap (λ (r : Ran Sought). r.outcome) (walk_is d Unambiguous v work c cs from)) ∙ h)
      where
        file : {A : Type 0} (ds : List Component) (icb : LongAd) → (walk d Unambiguous v work ds icb false).outcome ≡ refused Ambiguous → A
        file [] icb k = never (let z = rw ran-done at k in sym z)
        file (x ∷ ds) icb k = never (let z = rw ran-done at k in sym z)

        into : (e : Entry) → (ran d (entering Unambiguous v work from c.bytes)).outcome ≡ answered (Some e)
            → ((icb : LongAd) → (walk d Unambiguous v work cs icb true).outcome ≡ refused Ambiguous → Doubles d v work cs icb)
            → (t : Bool) → is_directory e.identifier ≡ t → (walk d Unambiguous v work cs e.identifier.icb t).outcome ≡ refused Ambiguous → Doubles d v work (c ∷ cs) from
        into e q ih true t k =
            let o = ih e.identifier.icb k in
            record {
              before = c ∷ o.before;
              next = o.next;
              others = o.others;
              parts = ap (λ (x : List Component). c ∷ x) o.parts;
              directory = o.directory;
              led = record { entry = e; takes = enters-takes d Unambiguous v work from c.bytes q; directory = t; on = o.led };
              bytes = o.bytes;
              read = o.read;
              all = o.all;
              parsed = o.parsed;
              several = o.several;
            }
        into e q ih false t k = file cs e.identifier.icb k

        by : (o : Outcome (Option Entry)) (n : ℕ) → (ran d (entering Unambiguous v work from c.bytes)).outcome ≡ o
            → ((icb : LongAd) → (walk d Unambiguous v work cs icb true).outcome ≡ refused Ambiguous → Doubles d v work cs icb)
            → (onward o n (on d Unambiguous v work c cs)).outcome ≡ refused Ambiguous → Doubles d v work (c ∷ cs) from
        by (refused why) n q ih k = several-here c cs from (let z : why ≡ Ambiguous = cc in rw z at q)
        by (answered None) n q ih k = never (let z = rw ran-done at k in sym z)
        by (answered (Some e)) n q ih k = into e q ih (is_directory e.identifier) refl k

-- Where the components of a path lead, and what the last of them takes there. Assumes nothing.
use Rattle.std.specs.Prelude.{Option, Some, None}
use mathlib.Core.Path.{◌≡◌, refl, sym, ap, ◌∙◌}
use mathlib.Core.Bool.{Bool, true, false}
use mathlib.Core.List.{List, [], ◌∷◌, ◌++◌}
use Prim.Native.Nat.{ℕ, ◌+◌}
use native.Mathlib.Nat.{zero-add, add_assoc, add-zero}
use native.Mathlib.Omega.{arith}
use Rattle.disc.specs.declared.places.Mount.{Mount}
use Rattle.disc.specs.Places.{is_checked}
use Rattle.listings.specs.declared.matchings.Matching.{Matching}
use Rattle.disc.specs.Ask.{Disc, Outcome, and_then}
use Rattle.disc.specs.Ask.Outcome.{answered, refused}
use Rattle.disc.specs.Ran.{Ran, ran, after, onward}
use Rattle.disc.proofs.RanLaws.{ran-done, ran_then, never, ran-known}
use Rattle.records.specs.declared.allocations.LongAd.{LongAd}
use Rattle.identifiers.specs.Identifiers.{is_directory}
use Rattle.listings.specs.Entries.{Entry, entries}
use Rattle.listings.specs.Listings.{fold_in, answers_to, all_named, chosen, first_named, find_in}
use Rattle.listings.specs.Paths.{Component}
use Rattle.listings.proofs.Promises.{first-wins}
use Rattle.listings.proofs.MatchingLaws.{chosen-first, chosen-is-first, only-wins}
use Rattle.directories.specs.Directories.{directory_bytes}
use Rattle.directories.specs.Lookups.{Sought, entering, or_lost, seeking}
use Rattle.directories.specs.Lookups.Sought.{reached, lost}
use Rattle.listings.specs.Matchings.{NoneAnswers, takes_first}
use Rattle.directories.specs.Leads.{Takes, Leads, Led, last_in, walk}

-- ---- the words

-- a name takes an entry whose ICB is i
pub record TakesIcb (d : Disc) (matching : Matching) (v : Mount) (work : ℕ) (icb : LongAd) (name : List ℕ) (i : LongAd) : Type 0 where
  pub taken : Entry
  pub takes : Takes d matching v work icb name taken
  pub is : i ≡ taken.identifier.icb

-- ---- one component

module _ (d : Disc) (matching : Matching) (v : Mount) (work : ℕ) (icb : LongAd) (name : List ℕ) where
  -- the first entry of a name wins under the choices that take it
  pub first-takes : takes_first matching ≡ true → {b : List ℕ} → (ran d (directory_bytes v work icb)).outcome ≡ answered b
      → (before : List Entry) (e : Entry) (rest : List Entry) → entries (is_checked v) b ≡ answered (before ++ e ∷ rest) → NoneAnswers (fold_in matching) name before → answers_to (fold_in matching) name e ≡ true
      → Takes d matching v work icb name e
  first-takes f {b} r before e rest k n h =
      record {
        bytes = b;
        read = r;
        all = before ++ e ∷ rest;
        parsed = k;
        takes = chosen-first matching f (fold_in matching) name (before ++ e ∷ rest) ∙ ap answered (first-wins (fold_in matching) name before e rest n h);
      }

  -- and the only one under each
  pub only-takes : {b : List ℕ} → (ran d (directory_bytes v work icb)).outcome ≡ answered b
      → (before : List Entry) (e : Entry) (rest : List Entry) → entries (is_checked v) b ≡ answered (before ++ e ∷ rest)
      → NoneAnswers (fold_in matching) name before → answers_to (fold_in matching) name e ≡ true → NoneAnswers (fold_in matching) name rest
      → Takes d matching v work icb name e
  only-takes {b} r before e rest k n h m =
      record { bytes = b; read = r; all = before ++ e ∷ rest; parsed = k; takes = only-wins (fold_in matching) name matching before e rest n h m }

  -- what is taken is the first in any case
  pub takes_first_lem : {e : Entry} (t : Takes d matching v work icb name e) → first_named (fold_in matching) name t.all ≡ Some e
  takes_first_lem t = chosen-is-first matching (fold_in matching) name t.all t.takes

  pub entering-is : (ran d (entering matching v work icb name)).outcome ≡ and_then (ran d (directory_bytes v work icb)).outcome (find_in (is_checked v) matching name)
  unfolding entering
  entering-is = ap (λ (r : Ran (Option Entry)). r.outcome) (ran-known d (directory_bytes v work icb) (find_in (is_checked v) matching name))

  pub takes-enters : {e : Entry} → Takes d matching v work icb name e → ran d (entering matching v work icb name) ≡ record { outcome = answered (Some e); count = (ran d (directory_bytes v work icb)).count }
  unfolding entering find_in
  takes-enters t = ran-known d (directory_bytes v work icb) (find_in (is_checked v) matching name) ∙ rw (t.read, t.parsed, t.takes)

  pub enters-takes : {e : Entry} → (ran d (entering matching v work icb name)).outcome ≡ answered (Some e) → Takes d matching v work icb name e
  unfolding find_in
  enters-takes {e} h = by_bytes (ran d (directory_bytes v work icb)).outcome refl (sym entering-is ∙ h)
    where
      by_entries : (b : List ℕ) → (ran d (directory_bytes v work icb)).outcome ≡ answered b → (o : Outcome (List Entry)) → entries (is_checked v) b ≡ o
          → and_then o (λ es. chosen matching (all_named (fold_in matching) name es)) ≡ answered (Some e) → Takes d matching v work icb name e
      by_entries b r (answered es) p k = record { bytes = b; read = r; all = es; parsed = p; takes = k }
      by_entries b r (refused why) p k = never k

      by_bytes : (o : Outcome (List ℕ)) → (ran d (directory_bytes v work icb)).outcome ≡ o → and_then o (find_in (is_checked v) matching name) ≡ answered (Some e) → Takes d matching v work icb name e
      by_bytes (answered b) r k = by_entries b r (entries (is_checked v) b) refl k
      by_bytes (refused why) r k = never k

-- ---- one component and those behind it

module _ (d : Disc) (matching : Matching) (v : Mount) (work : ℕ) where
  abbrev pub on : Component → List Component → Option Entry → Ran Sought
  on c cs o = ran d (or_lost c o (λ e. seeking matching v work cs e.identifier.icb (is_directory e.identifier)))

  pub walk_is : (c : Component) (cs : List Component) (icb : LongAd)
      → (walk d matching v work) (c ∷ cs) icb true ≡ onward (ran d (entering matching v work icb c.bytes)).outcome (ran d (entering matching v work icb c.bytes)).count (on c cs)
  unfolding seeking
  walk_is c cs icb = ran_then d (entering matching v work icb c.bytes) (λ o. or_lost c o (λ e. seeking matching v work cs e.identifier.icb (is_directory e.identifier)))

  -- it goes on with what the first takes
  pub seek-takes : (c : Component) (cs : List Component) (icb : LongAd) {e : Entry} → Takes d matching v work icb c.bytes e
      → (walk d matching v work) (c ∷ cs) icb true ≡ after (ran d (directory_bytes v work icb)).count ((walk d matching v work) cs e.identifier.icb (is_directory e.identifier))
  seek-takes c cs icb t = walk_is c cs icb ∙ rw (takes-enters d matching v work icb c.bytes t)

  -- the first entry of its name wins, whatever stands behind it, under the choices that take it
  pub seek-first : takes_first matching ≡ true → (icb : LongAd) (c : Component) {b : List ℕ} → (ran d (directory_bytes v work icb)).outcome ≡ answered b
      → (before : List Entry) (e : Entry) (rest : List Entry) → entries (is_checked v) b ≡ answered (before ++ e ∷ rest) → NoneAnswers (fold_in matching) c.bytes before → answers_to (fold_in matching) c.bytes e ≡ true
      → (cs : List Component) → (walk d matching v work) (c ∷ cs) icb true ≡ after (ran d (directory_bytes v work icb)).count ((walk d matching v work) cs e.identifier.icb (is_directory e.identifier))
  seek-first f icb c r before e rest k n h cs = seek-takes c cs icb (first-takes d matching v work icb c.bytes f r before e rest k n h)

  -- a component under a file is not reached
  under : (cs : List Component) (c : Component) (others : List Component) (icb : LongAd) {x : Sought} {A : Type 0} → ((walk d matching v work) (cs ++ c ∷ others) icb false).outcome ≡ answered x
      → ((y : Component) → x ≡ lost y → A) → A
  unfolding seeking
  under [] c others icb h f = f c (let z = rw ran-done at h in cc)
  under (x ∷ cs) c others icb h f = f x (let z = rw ran-done at h in cc)

  -- ---- where components lead

  -- the walk goes on behind them, counts added
  pub leads-on : (cs more : List Component) (from to : LongAd) → Leads d matching v work cs from to → (walk d matching v work) (cs ++ more) from true ≡ after ((walk d matching v work) cs from true).count ((walk d matching v work) more to true)
  unfolding Leads seeking
  leads-on [] more from to l = rw (l, ran-done, zero-add)
  leads-on (c ∷ cs) more from to l =
      let i = l.entry.identifier.icb in
      seek-takes c (cs ++ more) from l.takes
      ∙ rw (l.directory, leads-on cs more i to l.on, seek-takes c cs from l.takes, l.directory, add_assoc)

  -- and they themselves reach that directory
  pub leads-reached : (cs : List Component) (from to : LongAd) → Leads d matching v work cs from to → ((walk d matching v work) cs from true).outcome ≡ answered (reached to)
  unfolding Leads seeking
  leads-reached [] from to l = rw (l, ran-done)
  leads-reached (c ∷ cs) from to l = rw (seek-takes c cs from l.takes, l.directory) (leads-reached cs l.entry.identifier.icb to l.on)

  -- what stands behind a component that is reached stands in a directory
  pub reached-led : (cs : List Component) (c : Component) (others : List Component) (from : LongAd) {i : LongAd} → ((walk d matching v work) (cs ++ c ∷ others) from true).outcome ≡ answered (reached i)
      → Led d matching v work cs from
  unfolding Leads
  reached-led [] c others from h = record { to = from; leads = refl }
  reached-led (x ∷ cs) c others from {i} h =
      by (ran d (entering matching v work from x.bytes)).outcome (ran d (entering matching v work from x.bytes)).count refl (λ icb k. reached-led cs c others icb k)
      (sym (ap (λ (r : Ran Sought). r.outcome) (walk_is x (cs ++ c ∷ others) from)) ∙ h)
    where
      into : (e : Entry) → (ran d (entering matching v work from x.bytes)).outcome ≡ answered (Some e) → ((icb : LongAd) → ((walk d matching v work) (cs ++ c ∷ others) icb true).outcome ≡ answered (reached i) → Led d matching v work cs icb)
          → (t : Bool) → is_directory e.identifier ≡ t → ((walk d matching v work) (cs ++ c ∷ others) e.identifier.icb t).outcome ≡ answered (reached i) → Led d matching v work (x ∷ cs) from
      into e q ih true t k =
          let l = ih e.identifier.icb k in
          record { to = l.to; leads = record { entry = e; takes = enters-takes d matching v work from x.bytes q; directory = t; on = l.leads } }
      into e q ih false t k = under cs c others e.identifier.icb k (λ y z. absurd (let w : ◌≡◌ {A = ℕ} 0 1 = cc in omega arith))

      by : (o : Outcome (Option Entry)) (n : ℕ) → (ran d (entering matching v work from x.bytes)).outcome ≡ o → ((icb : LongAd) → ((walk d matching v work) (cs ++ c ∷ others) icb true).outcome ≡ answered (reached i) → Led d matching v work cs icb)
          → (onward o n (on x (cs ++ c ∷ others))).outcome ≡ answered (reached i) → Led d matching v work (x ∷ cs) from
      by (refused why) n q ih k = never k
      by (answered None) n q ih k = absurd (let z = rw ran-done at k in let w : ◌≡◌ {A = ℕ} 0 1 = cc in omega arith)
      by (answered (Some e)) n q ih k = into e q ih (is_directory e.identifier) refl k

  -- ---- the last component

  -- the walk comes to what the choice takes of the entries of its name in the directory that the others lead to, or it is lost there, or refused
  pub last-sought : (cs : List Component) (c : Component) (from to : LongAd) → Leads d matching v work cs from to
      → {b : List ℕ} → (ran d (directory_bytes v work to)).outcome ≡ answered b → {es : List Entry} → entries (is_checked v) b ≡ answered es
      → (walk d matching v work) (cs ++ c ∷ []) from true ≡ record { outcome = last_in c (chosen matching (all_named (fold_in matching) c.bytes es)); count = ((walk d matching v work) cs from true).count + (ran d (directory_bytes v work to)).count }
  unfolding entering find_in seeking
  last-sought cs c from to l {b} r {es} p =
      leads-on cs (c ∷ []) from to l
      ∙ ap (after ((walk d matching v work) cs from true).count)
      (walk_is c [] to ∙ rw (ran-known d (directory_bytes v work to) (find_in (is_checked v) matching c.bytes), r, p) (by (chosen matching (all_named (fold_in matching) c.bytes es)) (ran d (directory_bytes v work to)).count))
    where
      by : (o : Outcome (Option Entry)) (n : ℕ) → onward o n (on c []) ≡ record { outcome = last_in c o; count = n }
      by (answered None) n = rw (ran-done, add-zero)
      by (answered (Some e)) n = rw (ran-done, add-zero)
      by (refused why) n = refl

  -- one that was reached was taken there
  pub last_taken : (c : Component) (icb : LongAd) {i : LongAd} → ((walk d matching v work) (c ∷ []) icb true).outcome ≡ answered (reached i) → TakesIcb d matching v work icb c.bytes i
  unfolding seeking
  last_taken c icb {i} h =
      by (ran d (entering matching v work icb c.bytes)).outcome (ran d (entering matching v work icb c.bytes)).count refl
      (sym (ap (λ (r : Ran Sought). r.outcome) (walk_is c [] icb)) ∙ h)
    where
      by : (o : Outcome (Option Entry)) (n : ℕ) → (ran d (entering matching v work icb c.bytes)).outcome ≡ o → (onward o n (on c [])).outcome ≡ answered (reached i) → TakesIcb d matching v work icb c.bytes i
      by (refused why) n q k = never k
      by (answered None) n q k = absurd (let z = rw ran-done at k in let w : ◌≡◌ {A = ℕ} 0 1 = cc in omega arith)
      by (answered (Some e)) n q k = record { taken = e; takes = enters-takes d matching v work icb c.bytes q; is = (let z = rw ran-done at k in cc) }

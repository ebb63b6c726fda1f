-- What a choice of matching doesn't tell apart: paths whose components are equal under its fold are looked up alike. Under the choices that ignore it,
-- that is ASCII case. Assumes nothing.
use Rattle.std.specs.Prelude.{Option, Some, None}
use mathlib.Core.Path.{◌≡◌, refl, ap, sym, ◌∙◌}
use mathlib.Core.Bool.{Bool, true, false}
use mathlib.Core.List.{List, [], ◌∷◌, map}
use Prim.Native.Nat.{ℕ, ◌+◌}
use native.Mathlib.Omega.{arith}
use Rattle.disc.specs.declared.places.Mount.{Mount}
use Rattle.disc.specs.Places.{is_checked}
use Rattle.listings.specs.declared.matchings.Matching.{Matching}
use Rattle.disc.specs.Ask.{Disc, Outcome, and_then}
use Rattle.disc.specs.Ask.Outcome.{answered, refused}
use Rattle.disc.specs.Ran.{Ran, ran, onward}
use Rattle.disc.proofs.RanLaws.{ran-done, ran-known}
use Rattle.records.specs.declared.allocations.LongAd.{LongAd}
use Rattle.identifiers.specs.Identifiers.{is_directory}
use Rattle.listings.specs.Entries.{Entry, entries}
use Rattle.listings.specs.Listings.{fold_in, all_named, chosen, find_in}
use Rattle.listings.specs.Paths.{Component, components}
use Rattle.listings.proofs.RecordLaws.{same-all}
use Rattle.directories.specs.Directories.{directory_bytes}
use Rattle.directories.specs.Lookups.{Sought, entering, seeking, seek_path, icb_of, lookup_of}
use Rattle.directories.proofs.LookupLaws.{look_is}
use Rattle.directories.proofs.PathLaws.{on, walk_is}
use Rattle.listings.specs.Matchings.{folded}
use Rattle.directories.specs.Leads.{walk}

same-entering : (d : Disc) (matching : Matching) (v : Mount) (work : ℕ) (icb : LongAd) (c c' : Component) → folded (fold_in matching) c ≡ folded (fold_in matching) c' → ran d (entering matching v work icb c.bytes) ≡ ran d (entering matching v work icb c'.bytes)
unfolding entering find_in
same-entering d matching v work icb c c' h =
    ran-known d (directory_bytes v work icb) (find_in (is_checked v) matching c.bytes)
    ∙ ap (λ o. record { outcome = o; count = (ran d (directory_bytes v work icb)).count }) (by (ran d (directory_bytes v work icb)).outcome)
    ∙ sym (ran-known d (directory_bytes v work icb) (find_in (is_checked v) matching c'.bytes))
  where
    by : (o : Outcome (List ℕ)) → and_then o (find_in (is_checked v) matching c.bytes) ≡ and_then o (find_in (is_checked v) matching c'.bytes)
    by (answered b) = in_all (entries (is_checked v) b)
      where
        in_all : (o : Outcome (List Entry)) → and_then o (λ es. chosen matching (all_named (fold_in matching) c.bytes es)) ≡ and_then o (λ es. chosen matching (all_named (fold_in matching) c'.bytes es))
        in_all (answered es) = ap (chosen matching) (same-all (fold_in matching) c c' h es)
        in_all (refused why) = refl
    by (refused why) = refl

-- two walks that come to the same ICB, or to the same refusal, after as many sectors
record Alike (r r' : Ran Sought) : Type 0 where
  to : and_then r.outcome icb_of ≡ and_then r'.outcome icb_of
  sectors : r.count ≡ r'.count

alike_is : (r r' : Ran Sought) → Alike r r'
    → ◌≡◌ {A = Ran LongAd} (record { outcome = and_then r.outcome icb_of; count = r.count }) (record { outcome = and_then r'.outcome icb_of; count = r'.count })
alike_is r r' a = rw (a.to, a.sectors)

alike-onward : (o : Outcome (Option Entry)) (n : ℕ) (f f' : Option Entry → Ran Sought) → ((x : Option Entry) → Alike (f x) (f' x)) → Alike (onward o n f) (onward o n f')
alike-onward (answered x) n f f' h = record { to = (h x).to; sectors = ap (λ m. n + m) (h x).sectors }
alike-onward (refused why) n f f' h = record { to = refl; sectors = refl }

module _ (d : Disc) (matching : Matching) (v : Mount) (work : ℕ) where
  alike-on : (cs cs' : List Component) (c c' : Component) → ((icb : LongAd) (directory : Bool) → Alike (walk d matching v work cs icb directory) (walk d matching v work cs' icb directory))
      → (o : Option Entry) → Alike (on d matching v work c cs o) (on d matching v work c' cs' o)
  alike-on cs cs' c c' h None = rw (ran-done, ran-done) (record { to = refl; sectors = refl })
  alike-on cs cs' c c' h (Some e) = h e.identifier.icb (is_directory e.identifier)

  alike : (cs cs' : List Component) → map (folded (fold_in matching)) cs ≡ map (folded (fold_in matching)) cs' → (icb : LongAd) (directory : Bool) → Alike (walk d matching v work cs icb directory) (walk d matching v work cs' icb directory)
  unfolding seeking
  alike [] [] h icb directory = record { to = refl; sectors = refl }
  alike [] (c' ∷ cs') h icb directory = absurd (let z : ◌≡◌ {A = ℕ} 0 1 = cc in omega arith)
  alike (c ∷ cs) [] h icb directory = absurd (let z : ◌≡◌ {A = ℕ} 0 1 = cc in omega arith)
  alike (c ∷ cs) (c' ∷ cs') h icb false = rw (ran-done, ran-done) (record { to = refl; sectors = refl })
  alike (c ∷ cs) (c' ∷ cs') h icb true =
      let p : folded (fold_in matching) c ≡ folded (fold_in matching) c' = cc in
      let q : map (folded (fold_in matching)) cs ≡ map (folded (fold_in matching)) cs' = cc in
      let r = ran d (entering matching v work icb c'.bytes) in
      rw (walk_is d matching v work c cs icb, walk_is d matching v work c' cs' icb, same-entering d matching v work icb c c' p)
      (alike-onward r.outcome r.count (on d matching v work c cs) (on d matching v work c' cs') (alike-on cs cs' c c' (λ i t. alike cs cs' q i t)))

-- paths whose components are equal under the fold come to the same
pub look-case : (d : Disc) (matching : Matching) (v : Mount) (work : ℕ) (root : LongAd) (path path' : List ℕ) → map (folded (fold_in matching)) (components path) ≡ map (folded (fold_in matching)) (components path')
    → ran d (lookup_of matching v work root path) ≡ ran d (lookup_of matching v work root path')
unfolding seek_path
look-case d matching v work root path path' h =
    look_is d matching v work root path
    ∙ alike_is (ran d (seek_path matching v work root path)) (ran d (seek_path matching v work root path')) (alike d matching v work (components path) (components path') h root true)
    ∙ sym (look_is d matching v work root path')

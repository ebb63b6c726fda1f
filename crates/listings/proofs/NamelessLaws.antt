-- A directory that differs in the bytes of names that are empty by their ids alone: the same listing, and the same entry of each name.
-- Assumes nothing.
use Rattle.std.specs.Prelude.{Some}
use mathlib.Core.Path.{◌≡◌, refl, sym, ap, ◌∙◌}
use mathlib.Core.Bool.{Bool, true, false}
use mathlib.Core.List.{List, [], ◌∷◌}
use mathlib.Core.Logic.{◌⊎◌, inl, inr}
use Prim.Native.Nat.{ℕ}
use Rattle.disc.specs.Choice.{pick}
use Rattle.disc.specs.Ask.Outcome.{answered}
use Rattle.names.specs.Names.{name_of, is_named}
use Rattle.names.proofs.Promises.{nameless-empty, nameless-named}
use Rattle.listings.specs.Entries.{Entry, name_in, entries}
use Rattle.listings.specs.Listings.{entry_record, records, listing, fold_in, answers_to, all_named, chosen, first_named, find_in, named_to, named_of}
use Rattle.listings.specs.declared.matchings.Matching.{Matching}
use Rattle.listings.specs.declared.matchings.Matching.TheVariants.{CaseIgnored, AsWritten, Unambiguous}
use Rattle.listings.specs.Nameless.{Emptied, Alike, AllAlike}

alike-name : {s t : List ℕ} → (s ≡ t) ⊎ Emptied s t → name_of s ≡ name_of t
alike-name (inl e) = ap name_of e
alike-name {s} {t} (inr p) = nameless-empty s p.one ∙ sym (nameless-empty t p.other)

alike-named : (fold : ℕ → ℕ) (component : List ℕ) {s t : List ℕ} → (s ≡ t) ⊎ Emptied s t → is_named fold s component ≡ is_named fold t component
alike-named fold component (inl e) = ap (λ r. is_named fold r component) e
alike-named fold component {s} {t} (inr p) = nameless-named fold s t component p.one p.other p.long

module _ {e f : Entry} (p : Alike e f) where
  alike-record : entry_record e ≡ entry_record f
  unfolding entry_record name_in
  alike-record = rw (p.identified, alike-name p.named)

  alike-answers : (fold : ℕ → ℕ) (component : List ℕ) → answers_to fold component e ≡ answers_to fold component f
  unfolding answers_to
  alike-answers fold component = rw (p.identified, alike-named fold component p.named)

-- the same records
pub alike-records : (es fs : List Entry) → AllAlike es fs → records es ≡ records fs
unfolding records AllAlike
alike-records [] [] p = refl
alike-records [] (f ∷ fs) p = absurd p
alike-records (e ∷ es) [] p = absurd p
alike-records (e ∷ es) (f ∷ fs) p = rw (alike-record p.0, alike-records es fs p.1)

-- the entries of a component are alike too
alike_all : (fold : ℕ → ℕ) (component : List ℕ) (es fs : List Entry) → AllAlike es fs → AllAlike (all_named fold component es) (all_named fold component fs)
unfolding all_named AllAlike
alike_all fold component [] [] p = tt
alike_all fold component [] (f ∷ fs) p = absurd p
alike_all fold component (e ∷ es) [] p = absurd p
alike_all fold component (e ∷ es) (f ∷ fs) p = rw (alike-answers p.0 fold component) (by (all_named fold component es) (all_named fold component fs) (answers_to fold component f) (alike_all fold component es fs p.1))
  where
    by : (xs ys : List Entry) (t : Bool) → AllAlike xs ys → AllAlike (pick t (e ∷ xs) xs) (pick t (f ∷ ys) ys)
    by xs ys true q = (p.0, q)
    by xs ys false q = q

-- and what is done with them gives the same ICB and the same mark, or the same refusal
alike-chosen : (m : Matching) (es fs : List Entry) → AllAlike es fs → named_of (chosen m es) ≡ named_of (chosen m fs)
unfolding chosen AllAlike
alike-chosen m [] [] p = refl
alike-chosen m [] (f ∷ fs) p = absurd p
alike-chosen m (e ∷ es) [] p = absurd p
alike-chosen m (e ∷ []) (f ∷ []) p = rw p.0.identified
alike-chosen m (e ∷ []) (f ∷ f' ∷ fs) p = absurd p.1
alike-chosen m (e ∷ e' ∷ es) (f ∷ []) p = absurd p.1
alike-chosen CaseIgnored (e ∷ e' ∷ es) (f ∷ f' ∷ fs) p = rw p.0.identified
alike-chosen AsWritten (e ∷ e' ∷ es) (f ∷ f' ∷ fs) p = rw p.0.identified
alike-chosen Unambiguous (e ∷ e' ∷ es) (f ∷ f' ∷ fs) p = refl

-- the same ICB and the same mark, or none, for every component
pub alike-first : (fold : ℕ → ℕ) (component : List ℕ) (es fs : List Entry) → AllAlike es fs → named_to (first_named fold component es) ≡ named_to (first_named fold component fs)
unfolding first_named AllAlike
alike-first fold component [] [] p = refl
alike-first fold component [] (f ∷ fs) p = absurd p
alike-first fold component (e ∷ es) [] p = absurd p
alike-first fold component (e ∷ es) (f ∷ fs) p =
    rw (alike-answers p.0 fold component)
    (elim (answers_to fold component f) as (λ b. named_to (pick b (Some e) (first_named fold component es)) ≡ named_to (pick b (Some f) (first_named fold component fs)))
    [ true ↦ rw p.0.identified | false ↦ alike-first fold component es fs p.1 ])

-- of a directory's bytes: the listing, and what is found by a component under each choice
module _ (check : Bool) (raw other : List ℕ) {es fs : List Entry} (h : entries check raw ≡ answered es) (k : entries check other ≡ answered fs) (p : AllAlike es fs) where
  pub alike-listing : listing check raw ≡ listing check other
  unfolding listing
  alike-listing = rw (h, k, alike-records es fs p)

  pub alike-found : (m : Matching) (component : List ℕ) → named_of (find_in check m component raw) ≡ named_of (find_in check m component other)
  unfolding find_in
  alike-found m component =
      rw (h, k) (alike-chosen m (all_named (fold_in m) component es) (all_named (fold_in m) component fs) (alike_all (fold_in m) component es fs p))

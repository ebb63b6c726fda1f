-- Laws of the items of a list of paths, in the form that the code asks for. Assumes nothing.
use mathlib.Core.Path.{◌≡◌, refl, sym, ap, ◌∙◌}
use mathlib.Core.Bool.{Bool, true, false}
use mathlib.Core.List.{List, [], ◌∷◌}
use Prim.Native.Nat.{ℕ, suc, ◌+◌, ◌<◌, ◌≤◌, zero-le}
use native.Mathlib.Numerals.{add-one}
use native.Mathlib.Omega.{arith}
use lib.ListN.{length, take, drop}
use lib.Dec.{eqb}
use borrow.Author.Tests.{eq-eqb, ne_eqb}
use Rattle.disc.specs.Choice.{pick}
use Rattle.std.proofs.Common.{Option, cond}
use Rattle.std.specs.List.{AllWithin, HoldsAt, filter}
use Rattle.std.specs.Option.{MatchOption, unwrap_or}
use Rattle.std.proofs.lemmas.Iterator.{index_from_first}
use Rattle.std.proofs.lemmas.List.Sums.{length-filter}
use Rattle.std.proofs.lemmas.List.Recursion.{is_count_by}
use Rattle.cue_stacks.specs.Stacks.{item, items_behind, items}

-- ---- what is counted: the bytes before the first zero, and an item behind the first for each zero

pub item-counted : (s : List ℕ) (r : Option ℕ)
    → MatchOption r (AllWithin (λ b. b ≡ 0 → ⊥) s 0 (length s)) (λ i. (i < length s) × HoldsAt (λ b. b ≡ 0) s i × AllWithin (λ b. b ≡ 0 → ⊥) s 0 i) → length (item s) ≡ unwrap_or r (length s)
unfolding item
item-counted = index_from_first (λ s. length (item s)) (λ b. b ≡ 0) (λ b. b ≡ 0 → ⊥) refl (λ b s h. simp (eq-eqb _ _ h)) (λ b s h. simp (ne_eqb _ _ h) (rw add-one))

pub zeros-counted : (s : List ℕ) → length (items_behind s) ≡ length (filter (λ b. eqb b 0) s)
unfolding items_behind
zeros-counted s = is_count_by (λ t. length (items_behind t)) (λ b. eqb b 0) refl (λ b t. by t (eqb b 0)) s ∙ sym (length-filter (λ b. eqb b 0) s)
  where
    by : (t : List ℕ) (z : Bool) → length (pick z (item t ∷ items_behind t) (items_behind t)) ≡ cond z (1 + length (items_behind t)) (length (items_behind t))
    by t true = omega arith
    by t false = refl

-- ---- an item where it stands

pub item-short : (s : List ℕ) → length (item s) ≤ length s
unfolding item
item-short [] = zero-le
item-short (b ∷ s) = by (eqb b 0) (item-short s)
  where
    by : (t : Bool) → length (item s) ≤ length s → length (pick t [] (b ∷ item s)) ≤ suc (length s)
    by true h = zero-le
    by false h = omega arith

pub item-front : (s : List ℕ) → take (length (item s)) s ≡ item s
unfolding item
item-front [] = refl
item-front (b ∷ s) = by (eqb b 0) (item-front s)
  where
    by : (t : Bool) → take (length (item s)) s ≡ item s → take (length (pick t [] (b ∷ item s))) (b ∷ s) ≡ pick t [] (b ∷ item s)
    by true h = refl
    by false h = ap (λ l. b ∷ l) h

-- no item stands behind one that ends with the bytes
pub behind-none : (s : List ℕ) → length s ≤ length (item s) → items_behind s ≡ []
unfolding item items_behind
behind-none [] h = refl
behind-none (b ∷ s) h = by (eqb b 0) (behind-none s) h
  where
    by : (t : Bool) → (length s ≤ length (item s) → items_behind s ≡ []) → suc (length s) ≤ length (pick t [] (b ∷ item s)) → pick t (item s ∷ items_behind s) (items_behind s) ≡ []
    by true ih k = absurd (omega arith)
    by false ih k = ih (omega arith)

-- behind any other stand the items of what is behind its zero
pub behind-zero : (s : List ℕ) → length (item s) < length s → items_behind s ≡ items (drop (suc (length (item s))) s)
unfolding item items_behind
behind-zero [] h = absurd (omega arith)
behind-zero (b ∷ s) h = by (eqb b 0) (behind-zero s) h
  where
    by : (t : Bool) → (length (item s) < length s → items_behind s ≡ items (drop (suc (length (item s))) s)) → length (pick t [] (b ∷ item s)) < suc (length s)
        → pick t (item s ∷ items_behind s) (items_behind s) ≡ items (drop (length (pick t [] (b ∷ item s))) s)
    by true ih k = refl
    by false ih k = ih (omega arith)

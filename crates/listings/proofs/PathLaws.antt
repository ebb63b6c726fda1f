-- Laws of a path's components, in the form that the code asks for. Assumes nothing.
use mathlib.Core.Path.{◌≡◌, refl, ap}
use mathlib.Core.Bool.{Bool, true, false}
use mathlib.Core.List.{List, [], ◌∷◌}
use Prim.Native.Nat.{ℕ, suc, ◌+◌, ◌<◌, ◌≤◌, zero-le}
use native.Mathlib.Nat.{add-zero, add-suc, suc-add}
use native.Mathlib.Numerals.{add-one}
use native.Mathlib.Omega.{arith}
use lib.ListN.{length, take, drop, length-drop}
use lib.Seq.{drop-drop}
use lib.Dec.{eqb}
use borrow.Author.Tests.{eq-eqb, ne_eqb}
use Rattle.disc.proofs.PickLaws.{pick-both}
use Rattle.disc.specs.Choice.{pick}
use Rattle.std.proofs.Common.{Option}
use Rattle.std.specs.List.{AllWithin, HoldsAt}
use Rattle.std.specs.Option.{MatchOption, unwrap_or}
use Rattle.std.proofs.lemmas.Iterator.{index_from_first}
use Rattle.listings.specs.Paths.{Component, front, behind, components_from, components, slashes, unless_empty, InPath}

-- ---- what is counted: the slashes before the first other byte, and the bytes before the first slash

pub slashes-counted : (s : List ℕ) (r : Option ℕ)
    → MatchOption r (AllWithin (λ b. b ≡ 0x2f) s 0 (length s)) (λ i. (i < length s) × HoldsAt (λ b. b ≡ 0x2f → ⊥) s i × AllWithin (λ b. b ≡ 0x2f) s 0 i) → slashes s ≡ unwrap_or r (length s)
unfolding slashes
slashes-counted = index_from_first slashes (λ b. b ≡ 0x2f → ⊥) (λ b. b ≡ 0x2f) refl (λ b s h. simp (ne_eqb _ _ h)) (λ b s h. simp (eq-eqb _ _ h) (rw add-one))

pub front-counted : (s : List ℕ) (r : Option ℕ)
    → MatchOption r (AllWithin (λ b. b ≡ 0x2f → ⊥) s 0 (length s)) (λ i. (i < length s) × HoldsAt (λ b. b ≡ 0x2f) s i × AllWithin (λ b. b ≡ 0x2f → ⊥) s 0 i) → length (front s) ≡ unwrap_or r (length s)
unfolding front
front-counted = index_from_first (λ s. length (front s)) (λ b. b ≡ 0x2f) (λ b. b ≡ 0x2f → ⊥) refl (λ b s h. simp (eq-eqb _ _ h)) (λ b s h. simp (ne_eqb _ _ h) (rw add-one))

-- ---- components, by what stands at the front

-- slashes at the front do not count
pub behind-slashes : (at : ℕ) (s : List ℕ) → components_from (at + slashes s) (drop (slashes s) s) ≡ components_from at s
unfolding components_from front behind slashes
behind-slashes at [] = refl
behind-slashes at (b ∷ s) = by-slash (eqb b 0x2f) refl (behind-slashes (suc at) s)
  where
    by-slash : (t : Bool) → eqb b 0x2f ≡ t → components_from (suc at + slashes s) (drop (slashes s) s) ≡ components_from (suc at) s
        → components_from (at + pick t (suc (slashes s)) 0) (drop (pick t (suc (slashes s)) 0) (b ∷ s)) ≡ components_from at (b ∷ s)
    by-slash true e ih = rw (e, add-suc, ← suc-add) ih
    by-slash false e ih = rw add-zero

pub no-more-slashes : (s : List ℕ) → slashes (drop (slashes s) s) ≡ 0
unfolding slashes
no-more-slashes [] = refl
no-more-slashes (b ∷ s) = by-slash (eqb b 0x2f) refl (no-more-slashes s)
  where
    by-slash : (t : Bool) → eqb b 0x2f ≡ t → slashes (drop (slashes s) s) ≡ 0 → slashes (drop (pick t (suc (slashes s)) 0) (b ∷ s)) ≡ 0
    by-slash true e ih = ih
    by-slash false e ih = rw e

pub slashes-long : (s : List ℕ) → slashes s ≤ length s
unfolding slashes
slashes-long [] = zero-le
slashes-long (b ∷ s) = pick-both (λ n. n ≤ length (b ∷ s)) (eqb b 0x2f) (omega (arith, slashes-long s)) zero-le

pub front_long : (s : List ℕ) → length (front s) ≤ length s
unfolding front
front_long [] = zero-le
front_long (b ∷ s) = pick-both (λ (l : List ℕ). length l ≤ length (b ∷ s)) (eqb b 0x2f) {x = []} {y = b ∷ front s} zero-le (omega (arith, front_long s))

pub front-is : (s : List ℕ) → take (length (front s)) s ≡ front s
unfolding front
front-is [] = refl
front-is (b ∷ s) = pick-both (λ l. take (length l) (b ∷ s) ≡ l) (eqb b 0x2f) refl (ap (λ (l : List ℕ). b ∷ l) (front-is s))

behind-is : (at : ℕ) (s : List ℕ) → behind at s ≡ components_from (at + length (front s)) (drop (length (front s)) s)
unfolding front behind components_from
behind-is at [] = refl
behind-is at (b ∷ s) = by-slash (eqb b 0x2f) refl (behind-is (suc at) s)
  where
    by-slash : (t : Bool) → eqb b 0x2f ≡ t → behind (suc at) s ≡ components_from (suc at + length (front s)) (drop (length (front s)) s)
        → pick t (unless_empty (front s) (suc at) (behind (suc at) s)) (behind (suc at) s) ≡ components_from (at + length (pick t [] (b ∷ front s))) (drop (length (pick t [] (b ∷ front s))) (b ∷ s))
    by-slash true e ih = rw (e, add-zero)
    by-slash false e ih = rw (add-suc, ← suc-add) ih

-- no slash in front: a component, and those behind it
pub first-component : (at : ℕ) (s : List ℕ) → slashes s ≡ 0 → 0 < length s
    → components_from at s ≡ record { bytes = front s; at = at } ∷ components_from (at + length (front s)) (drop (length (front s)) s)
unfolding components_from front slashes
first-component at [] z h = absurd (omega arith)
first-component at (b ∷ s) z h = by-slash (eqb b 0x2f) refl z
  where
    by-slash : (t : Bool) → eqb b 0x2f ≡ t → pick t (suc (slashes s)) 0 ≡ 0
        → components_from at (b ∷ s) ≡ record { bytes = front (b ∷ s); at = at } ∷ components_from (at + length (front (b ∷ s))) (drop (length (front (b ∷ s))) (b ∷ s))
    by-slash true e k = absurd (omega arith)
    by-slash false e k = rw (← behind-is at (b ∷ s)) (rw e)

pub front-some : (s : List ℕ) → slashes s ≡ 0 → 0 < length s → 1 ≤ length (front s)
unfolding front slashes
front-some [] z h = absurd (omega arith)
front-some (b ∷ s) z h = by-slash (eqb b 0x2f) z
  where
    by-slash : (t : Bool) → pick t (suc (slashes s)) 0 ≡ 0 → 1 ≤ length (pick t [] (b ∷ front s))
    by-slash true k = absurd (omega arith)
    by-slash false k = omega arith

pub component-within : (path : List ℕ) (at : ℕ) {e : ℕ} → at < length path → e ≡ at + length (front (drop at path)) → e ≤ length path
component-within path at h q = omega (arith, q, front_long (drop at path), length-drop at path)

-- ---- a component stands at its place

unfoldable pub AllInPath : List ℕ → List Component → Type 0
AllInPath path [] = Unit {0}
AllInPath path (c ∷ cs) = InPath path c × AllInPath path cs

module _ (path : List ℕ) where
  -- the first of what stands at `at`, and others
  front-stands : (at : ℕ) (s : List ℕ) → drop at path ≡ s → (cs : List Component) → AllInPath path cs → AllInPath path (unless_empty (front s) at cs)
  unfolding AllInPath
  front-stands at s e cs h = by (front s) (rw e (front-is s)) (omega (arith, front_long s, ap length e, length-drop at path))
    where
      by : (c : List ℕ) → take (length c) (drop at path) ≡ c → (0 < length c → at + length c ≤ length path) → AllInPath path (unless_empty c at cs)
      by [] q l = h
      by (b ∷ c) q l = (record { bytes = q; inside = l (omega arith) }, h)

  behind-stand : (at : ℕ) (s : List ℕ) → drop at path ≡ s → AllInPath path (behind at s)
  unfolding AllInPath behind
  behind-stand at [] e = tt
  behind-stand at (b ∷ s) e =
      let k : drop (suc at) path ≡ s = rw (← add-one at, ← drop-drop 1 at path, e) in
      let h = behind-stand (suc at) s k in
      pick-both (AllInPath path) (eqb b 0x2f) (front-stands (suc at) s k (behind (suc at) s) h) h

pub components-stand : (path : List ℕ) → AllInPath path (components path)
unfolding components components_from
components-stand path = front-stands path 0 path refl (behind 0 path) (behind-stand path 0 path refl)

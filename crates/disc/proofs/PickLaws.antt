-- What a choice by a test comes to, from the fact that the test tells: `search picks` closes a return of a function that branches as
-- its definition does. Assumes nothing.
use mathlib.Core.Path.{◌≡◌, refl}
use mathlib.Core.Bool.{Bool, true, false}
use mathlib.Core.List.{List}
use Prim.Native.Nat.{ℕ, ◌<◌, ◌≤◌}
use native.Mathlib.Omega.{arith}
use lib.ListN.{length}
use lib.Dec.{ltb, leb, eqb}
use borrow.Author.Rules.{rules}
use borrow.Author.Tests.{eq-eqb, ne_eqb, lt-ltb, le-ltb, le-leb, lt-leb, leb-true}
use Rattle.disc.specs.Choice.{pick}

module _ (A : Type 0) (a b : ℕ) (x y r : A) where
  pub pick-lt : a < b → r ≡ x → r ≡ pick (ltb a b) x y
  pick-lt h e = rw (lt-ltb a b h) e

  pub pick-le : b ≤ a → r ≡ y → r ≡ pick (ltb a b) x y
  pick-le h e = rw (le-ltb a b h) e

  pub pick-leb : a ≤ b → r ≡ x → r ≡ pick (leb a b) x y
  pick-leb h e = rw (le-leb a b h) e

  pub pick-ltb : b < a → r ≡ y → r ≡ pick (leb a b) x y
  pick-ltb h e = rw (lt-leb a b h) e

  pub pick-eq : a ≡ b → r ≡ x → r ≡ pick (eqb a b) x y
  pick-eq h e = rw (eq-eqb a b h) e

  pub pick-ne : (a ≡ b → ⊥) → r ≡ y → r ≡ pick (eqb a b) x y
  pick-ne h e = rw (ne_eqb a b h) e

module _ (A : Type 0) (b c : Bool) (x y r : A) where
  pub pick_yes : c ≡ b → c ≡ true → r ≡ x → r ≡ pick b x y
  pick_yes e h k = rw (← e, h) k

  pub pick_no : c ≡ b → c ≡ false → r ≡ y → r ≡ pick b x y
  pick_no e h k = rw (← e, h) k

pub pick-length : (A : Type 0) (b : Bool) (x y : List A) (r : ℕ) → r ≡ pick b (length x) (length y) → r ≡ length (pick b x y)
pick-length A true x y r e = e
pick-length A false x y r e = e

pub ruleset picks = (pick-lt, pick-le, pick-leb, pick-ltb, pick-eq, pick-ne, pick_yes, pick_no, pick-length, rules)

-- what holds of both sides
pub pick-both : {A : Type 0} (P : A → Type 0) (b : Bool) {x y : A} → P x → P y → P (pick b x y)
pick-both P true p q = p
pick-both P false p q = q

-- ---- the other way: what a choice came to tells which side it took

-- no test passes and fails
pub not-both : {A : Type 0} → ◌≡◌ {A = Bool} false true → A
not-both {A} e = absurd (let z : ◌≡◌ {A = ℕ} 0 1 = cc in omega arith)

-- it gave what only its first side gives
pub picked : {A : Type 0} (P : A → Type 0) (b : Bool) (x y : A) → P (pick b x y) → (P y → ⊥) → (b ≡ true) × P x
picked P true x y h n = (refl, h)
picked P false x y h n = absurd (n h)

-- the same where the test is for n bytes: they are there
pub picked-size : {A : Type 0} (n : ℕ) (s : List ℕ) (x y z : A) → pick (leb n (length s)) x y ≡ z → (y ≡ z → ⊥) → (n ≤ length s) × (x ≡ z)
picked-size n s x y z e never =
    let p = picked (λ a. a ≡ z) (leb n (length s)) x y e never in
    (leb-true n (length s) p.0, p.1)

-- The first six bytes of a sector, its structure type and its identifier (ECMA-167 2/9.1), and the structure that they make it.
-- Assumes nothing.
use mathlib.Core.Path.{◌≡◌, refl, ap, sym, ◌∙◌}
use mathlib.Core.Bool.{Bool, true, false, ◌&&◌, ◌||◌}
use mathlib.Core.List.{List, [], ◌∷◌}
use mathlib.Core.Logic.{◌⊎◌, inl, inr}
use Prim.Native.Nat.{ℕ, ◌<◌, ◌≤◌}
use native.Mathlib.Omega.{arith}
use lib.ListN.{length, get_or, take}
use lib.Seq.{get_or-take}
use lib.Dec.{eqb}
use borrow.Author.Tests.{eqb-true}
use Rattle.disc.specs.Choice.{pick}
use Rattle.disc.proofs.PickLaws.{not-both}
use Rattle.descriptors.specs.Recognition.{identified, begins, nsr, terminates, other, identity_of, structure_of}
use Rattle.descriptors.specs.declared.recognition.Structure.{Structure}
use Rattle.descriptors.specs.declared.recognition.Structure.TheVariants.{Beginning, Nsr, Terminating, Other, Unknown}
use Rattle.probes.specs.Fronts.{BEA01, NSR02, NSR03, TEA01, CD001, CDW02}

-- what a structure tells of them; of an unknown one nothing is needed
abbrev pub Told : List ℕ → Structure → Type 0
Told f Beginning = f ≡ BEA01
Told f Nsr = (f ≡ NSR02) ⊎ (f ≡ NSR03)
Told f Terminating = f ≡ TEA01
Told f Other = (f ≡ CD001) ⊎ (f ≡ CDW02)
Told f Unknown = Unit {0}

-- ---- from the bytes to the structure

front-decides : (s : List ℕ) → structure_of (take 6 s) ≡ structure_of s
unfolding structure_of identity_of identified nsr other
front-decides s = rw (at 0 (omega arith), at 1 (omega arith), at 2 (omega arith), at 3 (omega arith), at 4 (omega arith), at 5 (omega arith))
  where
    at : (i : ℕ) → i < 6 → get_or (take 6 s) i 0 ≡ get_or s i 0
    at i h = get_or-take 6 s i 0 h

module _ (s : List ℕ) where
  pub bea01 : take 6 s ≡ BEA01 → structure_of s ≡ Beginning
  unfolding structure_of identity_of identified nsr other
  bea01 e = sym (front-decides s) ∙ ap structure_of e

  pub nsr02 : take 6 s ≡ NSR02 → structure_of s ≡ Nsr
  unfolding structure_of identity_of identified nsr other
  nsr02 e = sym (front-decides s) ∙ ap structure_of e

  pub nsr03 : take 6 s ≡ NSR03 → structure_of s ≡ Nsr
  unfolding structure_of identity_of identified nsr other
  nsr03 e = sym (front-decides s) ∙ ap structure_of e

  pub tea01 : take 6 s ≡ TEA01 → structure_of s ≡ Terminating
  unfolding structure_of identity_of identified nsr other
  tea01 e = sym (front-decides s) ∙ ap structure_of e

  pub cd001 : take 6 s ≡ CD001 → structure_of s ≡ Other
  unfolding structure_of identity_of identified nsr other
  cd001 e = sym (front-decides s) ∙ ap structure_of e

  pub cdw02 : take 6 s ≡ CDW02 → structure_of s ≡ Other
  unfolding structure_of identity_of identified nsr other
  cdw02 e = sym (front-decides s) ∙ ap structure_of e

-- ---- and back

six-bytes : (s : List ℕ) → 6 ≤ length s → take 6 s ≡ get_or s 0 0 ∷ get_or s 1 0 ∷ get_or s 2 0 ∷ get_or s 3 0 ∷ get_or s 4 0 ∷ get_or s 5 0 ∷ []
six-bytes (a ∷ b ∷ c ∷ d ∷ e ∷ f ∷ s) h = refl
six-bytes [] h = absurd (omega arith)
six-bytes (a ∷ []) h = absurd (omega arith)
six-bytes (a ∷ b ∷ []) h = absurd (omega arith)
six-bytes (a ∷ b ∷ c ∷ []) h = absurd (omega arith)
six-bytes (a ∷ b ∷ c ∷ d ∷ []) h = absurd (omega arith)
six-bytes (a ∷ b ∷ c ∷ d ∷ e ∷ []) h = absurd (omega arith)

all_true : (a b c d e : Bool) → (a && b && c && d && e) ≡ true → (a ≡ true) × (b ≡ true) × (c ≡ true) × (d ≡ true) × (e ≡ true)
all_true true true true true e q = (refl, refl, refl, refl, q)
all_true true true true false e q = not-both q
all_true true true false d e q = not-both q
all_true true false c d e q = not-both q
all_true false b c d e q = not-both q

-- what a choice comes to, by its test
by-test : (P : Structure → Type 0) (t : Bool) {x y : Structure} → (t ≡ true → P x) → P y → P (pick t x y)
by-test P true f p = f refl
by-test P false f p = p

either : {f g h : List ℕ} (a b : Bool) → (a ≡ true → f ≡ g) → (b ≡ true → f ≡ h) → (a || b) ≡ true → (f ≡ g) ⊎ (f ≡ h)
either true b p q e = inl (p refl)
either false b p q e = inr (q e)

module _ (s : List ℕ) (h : 6 ≤ length s) where
  -- the letters, each by its test
  spelt : get_or s 0 0 ≡ 0 → (a b c d e : ℕ) → identified s a b c d e ≡ true → take 6 s ≡ 0 ∷ a ∷ b ∷ c ∷ d ∷ e ∷ []
  unfolding identified
  spelt z a b c d e t =
      let p = all_true (eqb (get_or s 1 0) a) (eqb (get_or s 2 0) b) (eqb (get_or s 3 0) c) (eqb (get_or s 4 0) d) (eqb (get_or s 5 0) e) t in
      six-bytes s h ∙ rw (z, eqb-true _ a p.0, eqb-true _ b p.1, eqb-true _ c p.2, eqb-true _ d p.3, eqb-true _ e p.4)

  identity-told : get_or s 0 0 ≡ 0 → Told (take 6 s) (identity_of s)
  unfolding identity_of nsr other
  identity-told z =
      by-test (Told (take 6 s)) (begins s) (spelt z 66 69 65 48 49)
      (by-test (Told (take 6 s)) (nsr s) (either (identified s 78 83 82 48 50) (identified s 78 83 82 48 51) (spelt z 78 83 82 48 50) (spelt z 78 83 82 48 51))
      (by-test (Told (take 6 s)) (terminates s) (spelt z 84 69 65 48 49)
      (by-test (Told (take 6 s)) (other s) (either (identified s 67 68 48 48 49) (identified s 67 68 87 48 50) (spelt z 67 68 48 48 49) (spelt z 67 68 87 48 50))
      tt)))

  pub told : Told (take 6 s) (structure_of s)
  unfolding structure_of
  told = by-test (Told (take 6 s)) (eqb (get_or s 0 0) 0) (λ z. identity-told (eqb-true (get_or s 0 0) 0 z)) tt

-- A d-string compared with a component, byte by byte and unit by unit, as the code asks. Assumes nothing.
use mathlib.Core.Path.{◌≡◌, refl, sym, ap, ◌∙◌}
use mathlib.Core.Bool.{Bool, true, false}
use mathlib.Core.List.{List, [], ◌∷◌, ◌++◌}
use Prim.Native.Nat.compare
use Prim.Native.Nat.{ℕ, zero, suc, ◌+◌, ◌-◌, ◌*◌, ◌/◌, ◌%◌, ◌<◌, ◌≤◌, zero-le, min}
use native.Mathlib.Numerals.{add-one}
use native.Mathlib.Omega.{arith}
use lib.ListN.{length, get_or, drop, drop_of_length-le}
use lib.Seq.{drop-cons}
use lib.Dec.{eqb, leb}
use borrow.Author.Tests.{eq-eqb, ne_eqb, lt-ltb, le-ltb, le-leb, lt-leb}
use Rattle.disc.proofs.PickLaws.{not-both}
use Rattle.disc.specs.Choice.{pick}
use Rattle.disc.specs.Ask.{Outcome}
use Rattle.names.specs.declared.dstrings.Form.{Form}
use Rattle.names.specs.declared.dstrings.Form.TheVariants.{Empty, Units, Bad}
use Rattle.names.specs.declared.matching.Fold.{Fold}
use Rattle.names.specs.declared.matching.Fold.TheVariants.{Lower, AsIs}
use Rattle.names.specs.declared.matching.NamePlace.{NamePlace}
use Rattle.names.specs.Names.{surrogate, encode, name_of, lower, fold_of, same_name, matched, is_named}
use Rattle.names.specs.Inner.Units.{Formed, text_of, unit_at, unit_bytes}
use Rattle.names.specs.Inner.Matching.{Matched, Plain, Comparing}
use Rattle.names.proofs.UnitLaws.{ascii-bytes}
use Rattle.names.proofs.BodyLaws.{at_next, text-next, text-zero, text-end}
use Rattle.names.proofs.NameLaws.{found}

-- ---- a byte

pub same_alike : (f : Fold) (a b : ℕ) → a ≡ b → true ≡ eqb (fold_of f a) (fold_of f b)
same_alike f a b e = sym (eq-eqb (fold_of f a) (fold_of f b) (ap (fold_of f) e))

module _ (f : Fold) (a b : ℕ) where
  pub same-lower : f ≡ Lower → {x y : ℕ} → x ≡ lower a → y ≡ lower b → eqb x y ≡ eqb (fold_of f a) (fold_of f b)
  same-lower e p q = rw (e, p, q) refl

  pub same-apart : f ≡ AsIs → (a ≡ b → ⊥) → false ≡ eqb (fold_of f a) (fold_of f b)
  same-apart e n = rw e (sym (ne_eqb a b n))

module _ (fold : ℕ → ℕ) (b : ℕ) {t : List ℕ} {at : ℕ} where
  pub byte-none : length t ≤ at → Matched fold (b ∷ []) t at (record { same = false; at = at })
  unfolding same_name
  byte-none h = record { rest = λ more. rw (drop_of_length-le t) }

  pub byte-some : at < length t → {r : Bool} → r ≡ eqb (fold b) (fold (get_or t at 0)) → Matched fold (b ∷ []) t at (record { same = r; at = at + 1 })
  unfolding same_name
  byte-some h e = record { rest = λ more. rw (add-one, drop-cons t at 0, e) }

-- ---- bytes in turn: the first byte, a, has come to p

module _ {fold : ℕ → ℕ} {a : ℕ} {w t : List ℕ} {at : ℕ} {p : NamePlace} (m : Matched fold (a ∷ []) t at p) where
  stops : p.same ≡ false → Matched fold (a ∷ w) t at p
  stops h = record { rest = λ more. m.rest (w ++ more) ∙ rw h }

  goes : p.same ≡ true → {q : NamePlace} → Matched fold w t p.at q → Matched fold (a ∷ w) t at q
  goes h k = record { rest = λ more. m.rest (w ++ more) ∙ rw h (k.rest more) }

-- ---- a unit

module _ {fold : ℕ → ℕ} (u : ℕ) {t : List ℕ} {at : ℕ} {p : NamePlace} where
  module _ (k : 0x80 ≤ u) (l : u < 0x800) (m : Matched fold ((0xc0 + u / 64) ∷ []) t at p) where
    pub two-stop : p.same ≡ false → Matched fold (encode u) t at p
    unfolding encode
    two-stop h = rw (le-ltb u 0x80 k, lt-ltb u 0x800 l) (stops m h)

    pub two-go : p.same ≡ true → {q : NamePlace} → Matched fold ((0x80 + u % 64) ∷ []) t p.at q → Matched fold (encode u) t at q
    unfolding encode
    two-go h n = rw (le-ltb u 0x80 k, lt-ltb u 0x800 l) (goes m h n)

  module _ (k : 0x800 ≤ u) (m : Matched fold ((0xe0 + u / 4096) ∷ []) t at p) where
    three-bytes : encode u ≡ (0xe0 + u / 4096) ∷ (0x80 + u / 64 % 64) ∷ (0x80 + u % 64) ∷ []
    unfolding encode
    three-bytes = simp (le-ltb u 0x80 (omega arith), le-ltb u 0x800 k)

    pub three-stop : p.same ≡ false → Matched fold (encode u) t at p
    three-stop h = rw three-bytes (stops m h)

    module _ (h : p.same ≡ true) {q : NamePlace} (n : Matched fold ((0x80 + u / 64 % 64) ∷ []) t p.at q) where
      pub three-stop-later : q.same ≡ false → Matched fold (encode u) t at q
      three-stop-later i = rw three-bytes (goes m h (stops n i))

      pub three-go : q.same ≡ true → {z : NamePlace} → Matched fold ((0x80 + u % 64) ∷ []) t q.at z → Matched fold (encode u) t at z
      three-go i o = rw three-bytes (goes m h (goes n i o))

  pub unit-one : u < 0x80 → Matched fold (u ∷ []) t at p → Matched fold (unit_bytes u) t at p
  unit-one k m = rw (ascii-bytes u k) m

  module _ {r : Bool} (e : r ≡ surrogate u) where
    pub unit-long : r ≡ false → Matched fold (encode u) t at p → Matched fold (unit_bytes u) t at p
    unfolding unit_bytes
    unit-long h m = rw (← e, h) m

pub unit-none : {fold : ℕ → ℕ} (u : ℕ) {t : List ℕ} {at : ℕ} {r : Bool} → r ≡ surrogate u → r ≡ true → Matched fold (unit_bytes u) t at (record { same = true; at = at })
unfolding unit_bytes
unit-none u e h = rw (← e, h) (record { rest = λ more. refl })

-- A unit that is matched as one byte.
module _ {fold : ℕ → ℕ} {u b : ℕ} where
  pub plain-not : ◌≡◌ {A = Bool} false true → Plain fold u b
  plain-not e = not-both e

  pub plain-yes : {r : Bool} → (u ≡ 0 → ⊥) → u ≤ 0x7f → r ≡ eqb (fold u) (fold b) → r ≡ true → Plain fold u b
  plain-yes z a e y = record { some = z; ascii = omega arith; same = sym e ∙ y }

-- ---- the loops

-- Where a name has ended, the component has to.
used-up : (fold : ℕ → ℕ) (t : List ℕ) (j : ℕ) → leb (length t) j ≡ same_name fold [] (drop j t)
unfolding same_name
used-up fold [] zero = le-leb 0 0 zero-le
used-up fold [] (suc j) = le-leb 0 (suc j) zero-le
used-up fold (x ∷ t) zero = lt-leb (suc (length t)) 0 (omega arith)
used-up fold (x ∷ t) (suc j) = rw compare.suc-suc (used-up fold t j)

module _ {fold : ℕ → ℕ} {step i₀ j₀ i j : ℕ} {s t : List ℕ} (c : Comparing fold step s t i₀ j₀ i j) where
  module _ (h : step ≤ length s - i) {u : ℕ} (e : u ≡ unit_at s i step) where
    module _ (z : u ≡ 0 → ⊥) {p : NamePlace} (m : Matched fold (unit_bytes u) t j p) where
      turn : pick p.same (same_name fold (text_of step (drop (i + step) s)) (drop p.at t)) false ≡ same_name fold (text_of step (drop i₀ s)) (drop j₀ t)
      turn = sym (m.rest (text_of step (drop (i + step) s))) ∙ rw (← text-next c.at h e z) c.rest

      pub compare-next : p.same ≡ true → Comparing fold step s t i₀ j₀ (i + step) p.at
      compare-next k = record { at = at_next c.at h e; rest = rw k at turn }

      pub compare-stop : p.same ≡ false → false ≡ same_name fold (text_of step (drop i₀ s)) (drop j₀ t)
      compare-stop k = rw k at turn

    plain-next : j < length t → Plain fold u (get_or t j 0) → Comparing fold step s t i₀ j₀ (i + step) (j + 1)
    plain-next k l = compare-next l.some (unit-one u l.ascii (byte-some fold u k (sym l.same))) refl

  done : text_of step (drop i s) ≡ [] → leb (length t) j ≡ same_name fold (text_of step (drop i₀ s)) (drop j₀ t)
  done e = used-up fold t j ∙ (rw e at c.rest)

  pub compare-zero : step ≤ length s - i → {u : ℕ} → u ≡ unit_at s i step → u ≡ 0 → leb (length t) j ≡ same_name fold (text_of step (drop i₀ s)) (drop j₀ t)
  compare-zero h e z = done (text-zero c.at h e z)

  pub compare-end : length s - i < step → leb (length t) j ≡ same_name fold (text_of step (drop i₀ s)) (drop j₀ t)
  compare-end h = done (text-end c.at h)

-- ---- the loop over the front: n units are one byte each

units-fit : (step n k m : ℕ) → 1 ≤ step → step ≤ 2 → n < k → k ≤ m / step → n * step + step ≤ m
units-fit zero n k m h l a b = absurd (omega arith)
units-fit (suc zero) n k m h l a b = omega arith
units-fit (suc (suc zero)) n k m h l a b = omega arith
units-fit (suc (suc (suc step))) n k m h l a b = absurd (omega arith)

one_more : (step n : ℕ) → 1 ≤ step → step ≤ 2 → n * step + 1 + step ≡ (n + 1) * step + 1
one_more zero n h l = absurd (omega arith)
one_more (suc zero) n h l = omega arith
one_more (suc (suc zero)) n h l = omega arith
one_more (suc (suc (suc step))) n h l = absurd (omega arith)

module _ {fold : ℕ → ℕ} {step n k : ℕ} {s t : List ℕ} (c : Comparing fold step s t 1 0 (n * step + 1) n) (h : n < k) (l : k ≡ min ((length s - 1) / step) (length t)) where
  pub front_fits : n * step + 1 + step ≤ length s
  front_fits =
      let m : k ≤ (length s - 1) / step = omega arith in
      omega (arith, units-fit step n k (length s - 1) c.at.body.one c.at.body.two h m, c.at.body.some_byte)

  pub front-there : n < length t
  front-there = omega arith

  -- Here r is what `is_plain` returned.
  pub front-next : {u : ℕ} → u ≡ unit_at s (n * step + 1) step → {r : Bool} → (r ≡ true → Plain fold u (get_or t n 0)) → r ≡ true → Comparing fold step s t 1 0 ((n + 1) * step + 1) (n + 1)
  front-next e p y = rw (← one_more step n c.at.body.one c.at.body.two) (plain-next c (omega (arith, front_fits)) e front-there (p y))

-- ---- a d-string and a component

module _ (fold : ℕ → ℕ) (s t : List ℕ) where
  pub named-long : 255 < length s → false ≡ is_named fold s t
  unfolding is_named
  named-long h = rw (lt-ltb 255 (length s) h)

  module _ (h : length s ≤ 255) {f : Form} (p : Formed s f) where
    matches-by : {o : Outcome (List ℕ)} → name_of s ≡ o → matched fold o t ≡ is_named fold s t
    unfolding is_named
    matches-by e = rw (le-ltb 255 (length s) h, e)

    pub named-bad : f ≡ Bad → false ≡ is_named fold s t
    named-bad e = matches-by (found p e)

    pub named-empty : f ≡ Empty → eqb (length t) 0 ≡ is_named fold s t
    unfolding same_name
    named-empty e = empty-matches t ∙ matches-by (found p e)
      where
        empty-matches : (t : List ℕ) → eqb (length t) 0 ≡ same_name fold [] t
        empty-matches [] = refl
        empty-matches (b ∷ t) = ne_eqb _ _ (λ (e : suc (length t) ≡ 0). omega arith)

    -- Here n units have been compared, and q is what the rest says.
    pub named-text : (step n : ℕ) → f ≡ Units step → Comparing fold step s t 1 0 (n * step + 1) n → {q : Bool} → q ≡ same_name fold (text_of step (drop (n * step + 1) s)) (drop n t) → q ≡ is_named fold s t
    named-text step n e c m = m ∙ c.rest ∙ matches-by (found p e)

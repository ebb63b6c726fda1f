-- The names of the files one behind another, in the form that their iterator and the tests ask for. Assumes nothing.
use mathlib.Core.Path.{◌≡◌, refl, ap, sym, ◌∙◌}
use mathlib.Core.Bool.{Bool, true, false, not, cond, ◌&&◌, ◌||◌}
use mathlib.Core.List.{List, [], ◌∷◌}
use Prim.Native.Nat.{ℕ, suc, ◌+◌, ◌-◌, ◌<◌, ◌≤◌, min, zero-le}
use native.Mathlib.Omega.{arith}
use lib.ListN.{length, take, drop, length-drop, drop_of_length-le}
use lib.Seq.{take-length}
use lib.Dec.{eqb, ltb}
use borrow.Author.Tests.{ne_eqb, le-ltb, eqb-false, ltb-true, ltb-false}
use Rattle.std.specs.Bool.{IsTrue}
use Rattle.std.specs.List.{position, position_or_len, list_all, list_any, slice_get, zip}
use Rattle.std.specs.Option.{MatchOption, option_copied, unwrap_or}
use Rattle.std.proofs.Common.{Bor, Option, Some, None}
use Rattle.disc.specs.Choice.{pick}
use Rattle.names.specs.Names.{until_zero, lower, same_name}
use Rattle.writers.specs.Refusing.{names_from, names_in, ends_from, is_ended, is_plain, all_plain, is_good, is_among, are_good, good_names}

-- ---- the first name

first-zero : (s : List ℕ) → position_or_len (λ b. eqb b 0) s ≡ length (until_zero s)
unfolding until_zero
first-zero [] = refl
first-zero (b ∷ s) = by (eqb b 0) (first-zero s)
  where
    by : (t : Bool) → position_or_len (λ c. eqb c 0) s ≡ length (until_zero s) → cond (not t) (1 + position_or_len (λ c. eqb c 0) s) 0 ≡ length (pick t [] (b ∷ until_zero s))
    by true h = refl
    by false h = omega (arith, h)

pub name-front : (s : List ℕ) → take (length (until_zero s)) s ≡ until_zero s
unfolding until_zero
name-front [] = refl
name-front (b ∷ s) = by (eqb b 0) (name-front s)
  where
    by : (t : Bool) → take (length (until_zero s)) s ≡ until_zero s → take (length (pick t [] (b ∷ until_zero s))) (b ∷ s) ≡ pick t [] (b ∷ until_zero s)
    by true h = refl
    by false h = ap (λ l. b ∷ l) h

pub name-short : (s : List ℕ) → length (until_zero s) ≤ length s
unfolding until_zero
name-short [] = zero-le
name-short (b ∷ s) = by (eqb b 0) (name-short s)
  where
    by : (t : Bool) → length (until_zero s) ≤ length s → length (pick t [] (b ∷ until_zero s)) ≤ suc (length s)
    by true h = zero-le
    by false h = omega arith

-- what is behind it
from_false : (s : List ℕ) → names_from false s ≡ names_from true (drop (suc (length (until_zero s))) s)
unfolding names_from until_zero
from_false [] = refl
from_false (b ∷ s) = by (eqb b 0) refl (from_false s)
  where
    by : (t : Bool) → eqb b 0 ≡ t → names_from false s ≡ names_from true (drop (suc (length (until_zero s))) s)
        → names_from t s ≡ names_from true (drop (length (pick t [] (b ∷ until_zero s))) s)
    by true e ih = refl
    by false e ih = ih

pub name-end : (s : List ℕ) {r : Option ℕ} → r ≡ position (λ b. eqb b 0) s → unwrap_or r (length s) ≡ length (until_zero s)
name-end s e = rw e (by (ltb n (length s)) refl)
  where
    n : ℕ
    n = position_or_len (λ b. eqb b 0) s

    by : (t : Bool) → ltb n (length s) ≡ t → unwrap_or (cond t (Some n) None) (length s) ≡ length (until_zero s)
    by true h = first-zero s
    by false h = omega (arith, ltb-false n (length s) h, first-zero s, name-short s)

first-from : (s : List ℕ) → 0 < length s → names_from true s ≡ until_zero s ∷ names_from true (drop (suc (length (until_zero s))) s)
unfolding names_from until_zero
first-from [] h = absurd (omega arith)
first-from (b ∷ s) h = by (eqb b 0) refl
  where
    by : (t : Bool) → eqb b 0 ≡ t → pick t [] (b ∷ until_zero s) ∷ names_from t s ≡ pick t [] (b ∷ until_zero s) ∷ names_from true (drop (length (pick t [] (b ∷ until_zero s))) s)
    by true e = refl
    by false e = ap (λ l. (b ∷ until_zero s) ∷ l) (from_false s)

-- what is left behind it and its zero byte
pub name-split : (s : List ℕ) → (length s ≡ 0 → ⊥) → {end m : ℕ} → end ≡ length (until_zero s) → m ≡ min (length s) (end + 1) → names_in s ≡ take end s ∷ names_in (take (length s - m) (drop m s))
name-split s h {end} {m} e k =
    first-from s (omega arith) ∙ rw (e, name-front s) (ap (λ l. until_zero s ∷ names_in l) (cut (length (until_zero s)) (omega arith)))
  where
    rest : (n : ℕ) → n ≤ length s → take (length s - n) (drop n s) ≡ drop n s
    rest n g = let l : length (drop n s) ≡ length s - n = length-drop n s in rw (← l) (take-length (drop n s))

    cut : (n : ℕ) → m ≡ min (length s) (suc n) → drop (suc n) s ≡ take (length s - m) (drop m s)
    cut n q = by (ltb n (length s)) refl
      where
        by : (t : Bool) → ltb n (length s) ≡ t → drop (suc n) s ≡ take (length s - m) (drop m s)
        by true g = let l : m ≡ suc n = let z = ltb-true n (length s) g in omega arith in rw (rest m (omega arith), l)
        by false g =
            let z : length s ≤ n = ltb-false n (length s) g in
            let l : m ≡ length s = omega arith in
            let past : length s ≤ suc n = omega arith in
            let end : length s ≤ m = omega arith in
            drop_of_length-le s past ∙ sym (rest m (omega arith) ∙ drop_of_length-le s end)

pub names-none : (s : List ℕ) → length s ≡ 0 → names_in s ≡ []
unfolding names_from
names-none [] h = refl
names-none (b ∷ s) h = absurd (omega arith)

-- no more names than bytes
pub names-few : (begins : Bool) (s : List ℕ) → length (names_from begins s) ≤ length s
unfolding names_from
names-few begins [] = zero-le
names-few true (b ∷ s) = omega (arith, names-few (eqb b 0) s)
names-few false (b ∷ s) = omega (arith, names-few (eqb b 0) s)

-- the last one has its zero byte where the last byte is one
module _ {r : Bool} {P : Bor ℕ → Type 0} (k : (x : Bor ℕ) → P x → r ≡ eqb x.now 0) where
  last-zero : (b : ℕ) (s : List ℕ) (o : Option (Bor ℕ)) → option_copied o ≡ slice_get (b ∷ s) (length s) → MatchOption o (IsTrue r) P → r ≡ is_ended (b ∷ s)
  unfolding ends_from
  last-zero b [] None e m = absurd cc
  last-zero b [] (Some x) e m = let q : x.now ≡ b = cc in rw (← q) (k x m)
  last-zero b (c ∷ s) o e m = last-zero c s o e m

  pub ended-is : (s : List ℕ) (o : Option (Bor ℕ)) → option_copied o ≡ slice_get s (length s - 1) → MatchOption o (IsTrue r) P → r ≡ is_ended s
  unfolding ends_from
  ended-is [] None e m = m
  ended-is [] (Some x) e m = absurd cc
  ended-is (b ∷ s) o e m = let h : suc (length s) - 1 ≡ length s = omega arith in last-zero b s o (rw h at e) m

-- ---- plain bytes, good names

all-plain : (s : List ℕ) → list_all is_plain s ≡ all_plain s
unfolding all_plain
all-plain [] = refl
all-plain (b ∷ s) = by (is_plain b) (all-plain s)
  where
    by : (t : Bool) → list_all is_plain s ≡ all_plain s → (t && list_all is_plain s) ≡ pick t (all_plain s) false
    by true h = h
    by false h = refl

pub good-is : (name : List ℕ) → 1 ≤ length name → length name ≤ 127 → list_all is_plain name ≡ is_good name
unfolding is_good
good-is name n h = rw (ne_eqb (length name) 0 (λ e. omega arith), le-ltb 127 (length name) h) (all-plain name)

pub good-not : (name : List ℕ) → ((1 ≤ length name) × (length name ≤ 127) → ⊥) → false ≡ is_good name
unfolding is_good
good-not name h = by (eqb (length name) 0) (ltb 127 (length name)) refl refl
  where
    by : (a b : Bool) → eqb (length name) 0 ≡ a → ltb 127 (length name) ≡ b → false ≡ pick a false (pick b false (all_plain name))
    by true b p q = refl
    by false true p q = refl
    by false false p q = let z = eqb-false (length name) 0 p in absurd (h (omega arith, ltb-false 127 (length name) q))

-- ---- two names

pub same_differs : (a b : List ℕ) → (length a ≡ length b → ⊥) → false ≡ same_name lower a b
unfolding same_name
same_differs [] [] h = absurd (h refl)
same_differs [] (y ∷ b) h = refl
same_differs (x ∷ a) [] h = refl
same_differs (x ∷ a) (y ∷ b) h = by (eqb (lower x) (lower y)) (same_differs a b (λ e. h (ap suc e)))
  where
    by : (t : Bool) → false ≡ same_name lower a b → false ≡ pick t (same_name lower a b) false
    by true e = e
    by false e = refl

abbrev pub same_bytes : ℕ × ℕ → Bool
same_bytes p = eqb (lower p.0) (lower p.1)

pub same-is : (a b : List ℕ) → length a ≡ length b → list_all same_bytes (zip a b) ≡ same_name lower a b
unfolding same_name
same-is [] [] h = refl
same-is [] (y ∷ b) h = absurd (omega arith)
same-is (x ∷ a) [] h = absurd (omega arith)
same-is (x ∷ a) (y ∷ b) h = by (eqb (lower x) (lower y)) (same-is a b (omega arith))
  where
    by : (t : Bool) → list_all same_bytes (zip a b) ≡ same_name lower a b → (t && list_all same_bytes (zip a b)) ≡ pick t (same_name lower a b) false
    by true e = e
    by false e = refl

-- ---- a name among others

pub among-is : (name : List ℕ) (others : List (List ℕ)) → list_any (same_name lower name) others ≡ is_among name others
unfolding is_among
among-is name [] = refl
among-is name (m ∷ ms) = by (same_name lower name m) (among-is name ms)
  where
    by : (t : Bool) → list_any (same_name lower name) ms ≡ is_among name ms → (t || list_any (same_name lower name) ms) ≡ pick t true (is_among name ms)
    by true e = refl
    by false e = e

-- ---- all names: those that are left say what all say

pub record Judging (names : List ℕ) (left : List (List ℕ)) : Type 0 where
  pub rest : are_good left ≡ good_names names

pub judge-unended : (names : List ℕ) {b : Bool} → b ≡ is_ended names → b ≡ false → false ≡ good_names names
unfolding good_names
judge-unended names e h = rw (← e, h)

pub judge-starts : (names : List ℕ) {b : Bool} → b ≡ is_ended names → b ≡ true → Judging names (names_in names)
unfolding good_names
judge-starts names e h = record { rest = rw (← e, h) }

module _ {names : List ℕ} {left : List (List ℕ)} (p : Judging names left) where
  module _ {name : List ℕ} {others : List (List ℕ)} (e : left ≡ name ∷ others) {b : Bool} (f : b ≡ is_good name) where
    pub judge-bad : b ≡ false → false ≡ good_names names
    unfolding are_good
    judge-bad h = let q : are_good left ≡ false = rw (e, ← f, h) in sym q ∙ p.rest

    module _ (h : b ≡ true) {a : Bool} (g : a ≡ is_among name others) where
      pub judge-again : a ≡ true → false ≡ good_names names
      unfolding are_good
      judge-again k = let q : are_good left ≡ false = rw (e, ← f, h, ← g, k) in sym q ∙ p.rest

      pub judge-next : a ≡ false → Judging names others
      unfolding are_good
      judge-next k = let q : are_good left ≡ are_good others = rw (e, ← f, h, ← g, k) in record { rest = sym q ∙ p.rest }

  pub judge-ends : left ≡ [] → true ≡ good_names names
  unfolding are_good
  judge-ends e = let q : are_good left ≡ true = rw e in sym q ∙ p.rest

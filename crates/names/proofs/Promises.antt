-- What is proved of names: how long one is, which are empty, what matching is, that a contract by `Wrote` leaves one result, and cases 9 to 13 of the
-- worked table. Assumes nothing.
use Rattle.std.specs.Prelude.{Result, Ok}
use mathlib.Core.Path.{◌≡◌, refl, sym, ap, ◌∙◌}
use mathlib.Core.Bool.{Bool, true, false}
use mathlib.Core.List.{List, [], ◌∷◌, map}
use mathlib.Core.Logic.{◌⊎◌, inl, inr}
use Prim.Native.Nat.{ℕ, suc, ◌+◌, ◌-◌, ◌*◌, ◌%◌, ◌<◌, ◌≤◌, zero-le}
use native.Mathlib.Omega.{arith}
use lib.ListN.{length, get_or, take}
use lib.Dec.{eqb, ltb}
use borrow.Author.Tests.{eqb-true, eq-eqb, lt-ltb, le-ltb}
use Rattle.disc.proofs.PickLaws.{pick-both}
use Rattle.disc.specs.Choice.{pick}
use Rattle.disc.specs.Ask.{Outcome}
use Rattle.disc.specs.Ask.Outcome.{answered, refused}
use Rattle.disc.specs.declared.refusals.Refusal.{Refusal}
use Rattle.disc.specs.declared.refusals.Refusal.TheVariants.{Malformed}
use Rattle.names.specs.Names.{Wrote, pairs, until_zero, surrogate, drop_surrogates, encode, utf8, nameless, name_of, name_of_field, written, size_of, lower, as_is, same_name, is_named, name_answer, size_answer}
use Rattle.names.proofs.BodyLaws.{short-bytes, short-pairs}
use Rattle.disc.specs.Parts.{Bytes}

-- ---- d-strings

-- Under id 8 no code point would be dropped as a surrogate.
pub bytes-kept : (s : List ℕ) → Bytes s → drop_surrogates (until_zero s) ≡ until_zero s
unfolding until_zero drop_surrogates surrogate
bytes-kept [] b = refl
bytes-kept (u ∷ s) b =
    let l : u < 256 = (b 0).fits in
    elim (eqb u 0) as (λ z. drop_surrogates (pick z [] (u ∷ until_zero s)) ≡ pick z [] (u ∷ until_zero s)) [ true ↦ refl | false ↦ simp (lt-ltb u 0xd800 (omega arith)) (ap (λ (r : List ℕ). u ∷ r) (bytes-kept s (λ i. b (suc i)))) ]

-- A name of at most two bytes for each of n.
abbrev Short : ℕ → Outcome (List ℕ) → Type 0
Short n name = length (written name) ≤ 2 * n

short-after : (id : ℕ) (s : List ℕ) → Bytes s → Short (length s) (name_of (id ∷ s))
unfolding name_of
short-after id s b =
    let n = length s in
    let whole : length (utf8 (until_zero s)) ≤ 2 * n = rw (bytes-kept s b) at (short-bytes s b) in
    pick-both (Short n) (nameless id) zero-le
    (pick-both (Short n) (eqb id 8) whole
    (pick-both (Short n) (eqb id 16) (pick-both (Short n) (eqb (n % 2) 1) zero-le (short-pairs s))
    zero-le))

-- A name has at most two bytes of UTF-8 for each byte of the body.
pub name-short : (s : List ℕ) → Bytes s → length (written (name_of s)) ≤ 2 * (length s - 1)
unfolding name_of
name-short [] b = zero-le
name-short (id ∷ s) b = omega (arith, short-after id s (λ i. b (suc i)))

-- A name from at most 255 recorded bytes has at most 508.
pub at-most-508 : (s : List ℕ) → Bytes s → length s ≤ 255 → length (written (name_of s)) ≤ 508
at-most-508 s b h = omega (arith, name-short s b)

-- The same of what `name_size` answers, r.
pub name-size-508 : (s : List ℕ) {r : Result ℕ Refusal} {n : ℕ} → Bytes s → length s ≤ 255 → r ≡ size_of (name_of s) → r ≡ Ok n → n ≤ 508
name-size-508 s b h e k = sized (name_of s) (sym e ∙ k) (at-most-508 s b h)
  where
    sized : (o : Outcome (List ℕ)) {n m : ℕ} → size_of o ≡ Ok n → length (written o) ≤ m → n ≤ m
    sized (refused why) e h = absurd (let z : ◌≡◌ {A = ℕ} 0 1 = cc in omega arith)
    sized (answered name) {n} e h = let z : n ≡ length name = cc in omega arith

-- A name is empty where its id says so, whatever stands behind the id, and however much.
pub nameless-empty : (s : List ℕ) → nameless (get_or s 0 0) ≡ true → name_of s ≡ answered []
unfolding name_of
nameless-empty [] h = refl
nameless-empty (id ∷ body) h = rw h

-- So are the names that later discs keep of deleted entries.
pub deleted-empty : (body : List ℕ) → (name_of (254 ∷ body) ≡ answered []) × (name_of (255 ∷ body) ≡ answered [])
deleted-empty body = (nameless-empty (254 ∷ body) refl, nameless-empty (255 ∷ body) refl)

-- Two such names of one length name the same components.
pub nameless-named : (fold : ℕ → ℕ) (s t component : List ℕ) → nameless (get_or s 0 0) ≡ true → nameless (get_or t 0 0) ≡ true → length s ≡ length t → is_named fold s component ≡ is_named fold t component
unfolding is_named
nameless-named fold s t component h k l = rw (nameless-empty s h, nameless-empty t k, l)

-- A d-string that is refused is malformed, and so is a field.
pub name-refused : (s : List ℕ) {why : Refusal} → name_of s ≡ refused why → why ≡ Malformed
unfolding name_of
name-refused [] e = absurd (let z : ◌≡◌ {A = ℕ} 0 1 = cc in omega arith)
name-refused (id ∷ body) {why} e = told (nameless id) (eqb id 8) (eqb id 16) (eqb (length body % 2) 1) [] _ _ e
  where
    told : (a b c d : Bool) (x y z : List ℕ)
        → pick a (answered x) (pick b (answered y) (pick c (pick d (refused Malformed) (answered z)) (refused Malformed))) ≡ refused why → why ≡ Malformed
    told true b c d x y z k = absurd (let z : ◌≡◌ {A = ℕ} 0 1 = cc in omega arith)
    told false true c d x y z k = absurd (let z : ◌≡◌ {A = ℕ} 0 1 = cc in omega arith)
    told false false true true x y z k = cc
    told false false true false x y z k = absurd (let z : ◌≡◌ {A = ℕ} 0 1 = cc in omega arith)
    told false false false d x y z k = cc

pub field-refused : (f : List ℕ) {why : Refusal} → name_of_field f ≡ refused why → why ≡ Malformed
unfolding name_of_field
field-refused f {why} e = told (eqb (length f) 0) (ltb (length f - 1) (get_or f (length f - 1) 0)) e
  where
    told : (a b : Bool) → pick a (answered []) (pick b (refused Malformed) (name_of (take (get_or f (length f - 1) 0) f))) ≡ refused why → why ≡ Malformed
    told true b k = absurd (let z : ◌≡◌ {A = ℕ} 0 1 = cc in omega arith)
    told false true k = cc
    told false false k = name-refused _ k

-- A contract by `Wrote` leaves one result.
pub wrote_one : {t b a a' : List ℕ} {r r' : ℕ} → Wrote t b a r → Wrote t b a' r' → (r ≡ r') × (a ≡ a')
wrote_one p q = (cc, cc)

-- ---- matching

-- A capital letter is folded to the letter 32 above.
pub folds-letters : (b : ℕ) → 0x41 ≤ b → b ≤ 0x5a → lower b ≡ b + 32
unfolding lower
folds-letters b h k = simp (le-ltb b 0x41 h, lt-ltb b 0x5b (omega arith))

-- Nothing else is folded.
pub folds-nothing-else : (b : ℕ) → (b < 0x41) ⊎ (0x5a < b) → lower b ≡ b
unfolding lower
folds-nothing-else b (inl h) = simp (lt-ltb b 0x41 h)
folds-nothing-else b (inr h) = simp (le-ltb b 0x41 (omega arith), le-ltb b 0x5b (omega arith))

both_true : (a b : Bool) → pick a b false ≡ true → (a ≡ true) × (b ≡ true)
both_true true b e = (refl, e)
both_true false b e = absurd (let z : ◌≡◌ {A = ℕ} 0 1 = cc in omega arith)

-- Whatever the fold is, matching under it is one relation: an equivalence.
module _ (fold : ℕ → ℕ) where
  same-to : (a b : List ℕ) → same_name fold a b ≡ true → map fold a ≡ map fold b
  unfolding same_name
  same-to [] [] e = refl
  same-to [] (y ∷ t) e = absurd (let z : ◌≡◌ {A = ℕ} 0 1 = cc in omega arith)
  same-to (x ∷ s) [] e = absurd (let z : ◌≡◌ {A = ℕ} 0 1 = cc in omega arith)
  same-to (x ∷ s) (y ∷ t) e =
      let h = both_true (eqb (fold x) (fold y)) (same_name fold s t) e in
      let p : fold x ≡ fold y = eqb-true (fold x) (fold y) h.0 in
      let q = same-to s t h.1 in
      cc

  same_from : (a b : List ℕ) → map fold a ≡ map fold b → same_name fold a b ≡ true
  unfolding same_name
  same_from [] [] e = refl
  same_from [] (y ∷ t) e = absurd (let z : ◌≡◌ {A = ℕ} 0 1 = cc in omega arith)
  same_from (x ∷ s) [] e = absurd (let z : ◌≡◌ {A = ℕ} 0 1 = cc in omega arith)
  same_from (x ∷ s) (y ∷ t) e =
      let p : fold x ≡ fold y = cc in
      let q : map fold s ≡ map fold t = cc in
      rw (eq-eqb (fold x) (fold y) p) (same_from s t q)

  -- Two names match exactly where they are equal once folded.
  pub same-folded : (a b : List ℕ) → (same_name fold a b ≡ true → map fold a ≡ map fold b) × (map fold a ≡ map fold b → same_name fold a b ≡ true)
  same-folded a b = (same-to a b, same_from a b)

  pub same-reflexive : (a : List ℕ) → same_name fold a a ≡ true
  same-reflexive a = same_from a a refl

  pub same-symmetric : (a b : List ℕ) → same_name fold a b ≡ true → same_name fold b a ≡ true
  same-symmetric a b e = same_from b a (sym (same-to a b e))

  pub same-transitive : (a b c : List ℕ) → same_name fold a b ≡ true → same_name fold b c ≡ true → same_name fold a c ≡ true
  same-transitive a b c e f = same_from a c (same-to a b e ∙ same-to b c f)

map-as-is : (a : List ℕ) → map as_is a ≡ a
map-as-is [] = refl
map-as-is (x ∷ a) = ap (λ (r : List ℕ). x ∷ r) (map-as-is a)

-- Byte for byte, two names match exactly where they are the same bytes.
pub same-as-is : (a b : List ℕ) → (same_name as_is a b ≡ true → a ≡ b) × (a ≡ b → same_name as_is a b ≡ true)
same-as-is a b = (
  λ e. sym (map-as-is a) ∙ same-to as_is a b e ∙ map-as-is b,
  λ e. same_from as_is a b (ap (map as_is) e),
)

-- So whatever matches byte for byte matches with ASCII case ignored.
pub same-lower : (a b : List ℕ) → same_name as_is a b ≡ true → same_name lower a b ≡ true
same-lower a b e = same_from lower a b (ap (map lower) ((same-as-is a b).0 e))

-- ---- the worked table

-- Cases 9 to 13, together, by the answer number and the name.
pub worked :
    (name_answer (name_of (0x08 ∷ 0x41 ∷ 0x00 ∷ 0x42 ∷ [])) ≡ record { number = 0; value = 0x41 ∷ [] })
    × (name_answer (name_of (0x10 ∷ 0x00 ∷ 0x41 ∷ 0xd8 ∷ 0x00 ∷ 0x00 ∷ 0x42 ∷ [])) ≡ record { number = 0; value = 0x41 ∷ 0x42 ∷ [] })
    × (name_answer (name_of (0x10 ∷ 0x00 ∷ 0x41 ∷ 0x00 ∷ [])) ≡ record { number = 2; value = [] })
    × (name_answer (name_of (0x08 ∷ 0xe9 ∷ [])) ≡ record { number = 0; value = 0xc3 ∷ 0xa9 ∷ [] })
    × (name_answer (name_of (0xfe ∷ [])) ≡ record { number = 0; value = [] })
unfolding pairs until_zero surrogate drop_surrogates encode utf8 name_of
worked = (refl, refl, refl, refl, refl)

-- ---- a size that is told has the name's number, and is the name's length

pub size-answers : (o : Outcome (List ℕ)) → size_answer (size_of o) ≡ record { number = (name_answer o).number; value = length (name_answer o).value }
size-answers (answered name) = refl
size-answers (refused why) = refl

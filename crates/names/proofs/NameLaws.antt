-- A whole d-string and a whole field, by the tests of the code. Assumes nothing.
use Rattle.std.specs.Prelude.{Option, Some, None, Result, Ok, Err}
use mathlib.Core.Path.{◌≡◌, refl}
use mathlib.Core.Bool.{Bool, true, false}
use mathlib.Core.List.{List, [], ◌∷◌}
use Prim.Native.Nat.{ℕ, suc, ◌-◌, ◌%◌, ◌<◌, ◌≤◌, zero-le}
use native.Mathlib.Omega.{arith}
use lib.ListN.{length, get_or, take, drop, length-take}
use lib.Dec.{lit≤}
use borrow.Author.Tests.{eq-eqb, ne_eqb, lt-ltb, le-ltb}
use Rattle.disc.specs.Moves.{over}
use Rattle.disc.specs.Ran.{told}
use Rattle.disc.specs.Replies.{Replied}
use Rattle.disc.specs.declared.refusals.Refusal.TheVariants.{Malformed, NoRoom}
use Rattle.disc.specs.declared.replies.Reply.{Reply}
use Rattle.names.specs.declared.dstrings.Form.{Form}
use Rattle.names.specs.declared.dstrings.Form.TheVariants.{Empty, Units, Bad}
use Rattle.names.specs.Names.{Wrote, nameless, name_of, name_of_field, written, size_of}
use Rattle.names.specs.Inner.Units.{Body, Formed, FieldMeasured, units, text_of, name_as, front_name}
use Rattle.disc.proofs.ReplyLaws.{reply-refused}
use Rattle.names.proofs.Promises.{bytes-kept}
use Rattle.disc.specs.Parts.{Bytes}
use Rattle.disc.specs.declared.refusals.Refusal.{Refusal}

-- ---- which form a d-string has

pub form-empty : (s : List ℕ) → length s ≡ 0 → Formed s Empty
unfolding name_of
form-empty [] z = record { name = refl; body = tt }
form-empty (id ∷ s) z = absurd (omega arith)

-- Here r is what `is_nameless` says of the id.
pub form-none : (s : List ℕ) → (length s ≡ 0 → ⊥) → {r : Bool} → r ≡ nameless (get_or s 0 0) → r ≡ true → Formed s Empty
unfolding name_of
form-none [] z e h = absurd (z refl)
form-none (id ∷ s) z e h = record { name = rw (← e, h); body = tt }

pub form-bytes : (s : List ℕ) → Bytes s → get_or s 0 0 ≡ 8 → Formed s (Units 1)
unfolding name_of text_of units
form-bytes [] b h = absurd (omega arith)
form-bytes (id ∷ s) b h = record { name = rw (h, bytes-kept s (λ i. b (suc i))); body = record { some_byte = omega arith; one = lit≤ tt; two = lit≤ tt } }

pub form-odd : (s : List ℕ) → get_or s 0 0 ≡ 16 → length s % 2 ≡ 0 → Formed s Bad
unfolding name_of
form-odd [] h k = absurd (omega arith)
form-odd (id ∷ s) h k = record { name = rw (h, eq-eqb (length s % 2) 1 (omega arith)); body = tt }

pub form-pairs : (s : List ℕ) → get_or s 0 0 ≡ 16 → (length s % 2 ≡ 0 → ⊥) → Formed s (Units 2)
unfolding name_of text_of units
form-pairs [] h k = absurd (omega arith)
form-pairs (id ∷ s) h k =
    record { name = rw (h, ne_eqb (length s % 2) 1 (λ e. k (omega arith))); body = record { some_byte = omega arith; one = lit≤ tt; two = lit≤ tt } }

pub form-bad : (s : List ℕ) → (length s ≡ 0 → ⊥) → {r : Bool} → r ≡ nameless (get_or s 0 0) → r ≡ false → (get_or s 0 0 ≡ 8 → ⊥) → (get_or s 0 0 ≡ 16 → ⊥) → Formed s Bad
unfolding name_of
form-bad [] z e a b c = absurd (z refl)
form-bad (id ∷ s) z e a b c = record { name = rw (← e, a) (simp (ne_eqb id 8 b, ne_eqb id 16 c)); body = tt }

-- ---- what `form_of` found, f

nothing-over : (d : List ℕ) → d ≡ over [] d
nothing-over [] = refl
nothing-over (x ∷ d) = refl

module _ {s : List ℕ} {f : Form} (p : Formed s f) where
  pub found : {g : Form} → f ≡ g → name_of s ≡ name_as g s
  found e = rw (← e) p.name

  pub has_body : {step : ℕ} → f ≡ Units step → Body s step
  has_body e = rw e at p.body

  pub size-empty : f ≡ Empty → Ok 0 ≡ size_of (name_of s)
  size-empty e = rw (found e)

  pub size-units : (step : ℕ) {n : ℕ} → f ≡ Units step → n ≡ length (text_of step (drop 1 s)) → Ok n ≡ size_of (name_of s)
  size-units step e h = rw (found e, h)

  pub size-bad : f ≡ Bad → Err Malformed ≡ size_of (name_of s)
  size-bad e = rw (found e)

  module _ {d : List ℕ} where
    pub write-empty : f ≡ Empty → Wrote (written (name_of s)) d d 0
    write-empty e = rw (found e) (record { count = refl; bytes = nothing-over d })

    pub write-units : (step : ℕ) {n : ℕ} {d' : List ℕ} → f ≡ Units step → Wrote (text_of step (drop 1 s)) d d' n → Wrote (written (name_of s)) d d' n
    write-units step e h = rw (found e) h

    pub write-bad : f ≡ Bad → Wrote (written (name_of s)) d d 0
    write-bad e = rw (found e) (record { count = refl; bytes = nothing-over d })

-- ---- a field

module _ {f : List ℕ} where
  pub field-empty : length f ≡ 0 → FieldMeasured f (Some 0)
  unfolding name_of_field name_of
  field-empty z = record { name = simp (eq-eqb _ _ z); within = zero-le }

  module _ (z : length f ≡ 0 → ⊥) (n : ℕ) (e : n ≡ get_or f (length f - 1) 0) where
    pub field-bad : length f - 1 < n → FieldMeasured f None
    unfolding name_of_field
    field-bad h = record { name = rw (← e) (simp (ne_eqb _ _ z, lt-ltb _ _ h)); within = tt }

    pub field-front : n ≤ length f - 1 → FieldMeasured f (Some n)
    unfolding name_of_field
    field-front h = record { name = rw (← e) (simp (ne_eqb _ _ z, le-ltb _ _ h)); within = omega arith }

-- Here r is what `measured` found of the field f.
module _ {f : List ℕ} {r : Option ℕ} (m : FieldMeasured f r) where
  front : {q : Option ℕ} → r ≡ q → name_of_field f ≡ front_name q f
  front e = rw (← e) m.name

  pub front-within : {n : ℕ} → r ≡ Some n → n ≤ length f
  front-within e = rw e at m.within

  pub front_long : {n : ℕ} → r ≡ Some n → n ≡ length (take n f)
  front_long e = let w = front-within e in simp length-take (omega arith)

  pub front-size : (n : ℕ) {v : Result ℕ Refusal} → r ≡ Some n → v ≡ size_of (name_of (take n f)) → v ≡ size_of (name_of_field f)
  front-size n e s = rw (front e) s

  pub front-none : r ≡ None → Err Malformed ≡ size_of (name_of_field f)
  front-none e = rw (front e)

  module _ {d : List ℕ} {p : Reply} where
    pub front-wrote : (n : ℕ) {d' : List ℕ} → r ≡ Some n → Replied NoRoom (told (name_of (take n f))) d d' p → Replied NoRoom (told (name_of_field f)) d d' p
    front-wrote n e w = rw (front e) w

    pub front-left : r ≡ None → p ≡ record { answer = 2; count = 0; length = 0 } → Replied NoRoom (told (name_of_field f)) d d p
    front-left e q = rw (front e) (reply-refused Malformed 0 0 refl q)

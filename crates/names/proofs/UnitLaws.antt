-- One unit's bytes by the tests of the code, and bytes stored past the end. Assumes nothing.
use mathlib.Core.Path.{◌≡◌, refl, ap, ◌∙◌}
use mathlib.Core.Bool.{Bool, true, false}
use mathlib.Core.List.{List, [], ◌∷◌}
use Prim.Native.Nat.{ℕ, suc, ◌+◌, ◌*◌, ◌/◌, ◌%◌, ◌<◌, ◌≤◌}
use native.Mathlib.Numerals.{add-one, add-two}
use native.Mathlib.Omega.{arith}
use lib.ListN.{length, set}
use lib.Seq.{set_out, sets}
use borrow.Author.Tests.{lt-ltb, le-ltb}
use Rattle.disc.specs.Moves.{over}
use Rattle.names.specs.Names.{surrogate, encode}
use Rattle.names.specs.Inner.Units.{WroteAt, unit_bytes}

-- ---- stores

-- A store past the end changes nothing.
pub stored-out : (d : List ℕ) (at b : ℕ) → length d ≤ at → d ≡ set d at b
stored-out d at b h = rw (set_out d at b h)

sets-nil : (v : List ℕ) (n : ℕ) → sets [] n v ≡ []
sets-nil [] n = refl
sets-nil (x ∷ v) n = sets-nil v (suc n)

sets-suc : (v d : List ℕ) (x n : ℕ) → sets (x ∷ d) (suc n) v ≡ x ∷ sets d n v
sets-suc [] d x n = refl
sets-suc (y ∷ v) d x n = sets-suc v (set d n y) x (suc n)

-- Stores from the front on, whether they fit or not.
pub sets_over : (v d : List ℕ) → sets d 0 v ≡ over v d
sets_over [] [] = refl
sets_over [] (x ∷ d) = refl
sets_over (y ∷ v) [] = sets-nil v 1
sets_over (y ∷ v) (x ∷ d) = sets-suc v d y 0 ∙ ap (λ l. y ∷ l) (sets_over v d)

-- ---- ASCII

pub ascii-bytes : (u : ℕ) → u < 0x80 → unit_bytes u ≡ u ∷ []
unfolding unit_bytes surrogate encode
ascii-bytes u k = rw (lt-ltb u 0xd800 (omega arith), lt-ltb u 0x80 k)

pub one-long : (u : ℕ) → u < 0x80 → 1 ≡ length (unit_bytes u)
one-long u k = rw (ascii-bytes u k)

-- ---- one unit, with r what the code's `surrogate(u)` returned, and d what was lent

module _ (u : ℕ) {r : Bool} (e : r ≡ surrogate u) where
  pub put-none : r ≡ true → {at : ℕ} {d : List ℕ} → WroteAt at (unit_bytes u) d d at
  unfolding unit_bytes
  put-none h = rw (← e, h) (record { count = omega arith; bytes = refl })

  module _ (h : r ≡ false) where
    one_byte : u < 0x80 → unit_bytes u ≡ u ∷ []
    unfolding unit_bytes encode
    one_byte k = rw (← e, h) (simp (lt-ltb u 0x80 k))

    two_bytes : 0x80 ≤ u → u < 0x800 → unit_bytes u ≡ (0xc0 + u / 64) ∷ (0x80 + u % 64) ∷ []
    unfolding unit_bytes encode
    two_bytes k l = rw (← e, h) (simp (le-ltb u 0x80 k, lt-ltb u 0x800 l))

    three-bytes : 0x800 ≤ u → unit_bytes u ≡ (0xe0 + u / 4096) ∷ (0x80 + u / 64 % 64) ∷ (0x80 + u % 64) ∷ []
    unfolding unit_bytes encode
    three-bytes k = rw (← e, h) (simp (le-ltb u 0x80 (omega arith), le-ltb u 0x800 k))

    module _ (at : ℕ) {d d₁ : List ℕ} where
      pub put_one : u < 0x80 → d₁ ≡ set d at u → WroteAt at (unit_bytes u) d d₁ (at + 1)
      put_one k s = rw (one_byte k) (record { count = refl; bytes = s })

      module _ {d₂ : List ℕ} where
        pub put_two : 0x80 ≤ u → u < 0x800 → d₁ ≡ set d at (0xc0 + u / 64) → d₂ ≡ set d₁ (at + 1) (0x80 + u % 64) → WroteAt at (unit_bytes u) d d₂ (at + 2)
        put_two k l s t = rw (two_bytes k l) (record { count = refl; bytes = rw (t, s, add-one) })

        pub put_three : {d₃ : List ℕ} → 0x800 ≤ u → d₁ ≡ set d at (0xe0 + u / 4096) → d₂ ≡ set d₁ (at + 1) (0x80 + u / 64 % 64) → d₃ ≡ set d₂ (at + 2) (0x80 + u % 64) → WroteAt at (unit_bytes u) d d₃ (at + 3)
        put_three k s t v = rw (three-bytes k) (record { count = refl; bytes = rw (v, t, s, add-one, add-two) })

-- ---- a unit of two bytes

pub pair_is : (x y a b : ℕ) → x ≡ a → y ≡ b → x * 256 + y ≡ a * 256 + b
pair_is x y a b p q = cc

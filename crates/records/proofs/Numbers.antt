-- Laws of little-endian numbers: what is written is read again, and what is read is written again.
-- Assumes nothing.
use Prim.Native.Nat.{ℕ, zero, suc, ◌+◌, ◌*◌, ◌/◌, ◌%◌, ◌<◌, ◌≤◌, ◌^◌}
use mathlib.Core.Path.{◌≡◌, refl, ap, sym, ◌∙◌}
use mathlib.Core.List.{List, [], ◌∷◌}
use native.Mathlib.Nat.{le_of_suc-le-suc, not-suc-le-zero, zero-add, add-mul-div_right, div-eq_of_lt, div-div-eq-div-mul, mod-add-div', add-mul-mod_self_right, mod-eq_of_lt}
use lib.Dec.{lit<}
use native.Mathlib.Omega.{arith}
use lib.ListN.{length, take, get_or-eq_default}
use Rattle.records.specs.Bytes.{byte, u16at, u32at, u64at, le16, le32}
use Rattle.records.specs.Allocations.{raw_of}
use Rattle.disc.specs.Parts.{Bytes}

pub u16-le16 : (n : ℕ) → n < 2 ^ 16 → u16at (le16 n) 0 ≡ n
u16-le16 n h = omega arith

-- a byte below a number: the byte, and the number again
low : (a m : ℕ) → a < 256 → (a + m * 256) % 256 ≡ a
low a m h = add-mul-mod_self_right a m 256 ∙ mod-eq_of_lt h

above : (a m : ℕ) → a < 256 → (a + m * 256) / 256 ≡ m
above a m h = add-mul-div_right a m (lit< tt) ∙ rw (div-eq_of_lt h) (zero-add m)

-- two bytes, and four, are those of the number that they make
pair : (a b : ℕ) → a < 256 → b < 256 → le16 (a + b * 256) ≡ a ∷ b ∷ []
pair a b ha hb = rw (low a b ha, above a b ha, mod-eq_of_lt hb)

module _ (a b c d : ℕ) (ha : a < 256) (hb : b < 256) (hc : c < 256) (hd : d < 256) where
  quad : le32 (a + b * 256 + c * 65536 + d * 16777216) ≡ a ∷ b ∷ c ∷ d ∷ []
  quad =
      let n = a + (b + (c + d * 256) * 256) * 256 in
      let e : a + b * 256 + c * 65536 + d * 16777216 ≡ n = omega arith in
      let e₁ : n / 256 ≡ b + (c + d * 256) * 256 = above a (b + (c + d * 256) * 256) ha in
      let e₂ : n / 65536 ≡ c + d * 256 = sym (div-div-eq-div-mul n 256 256) ∙ rw e₁ (above b (c + d * 256) hb) in
      let e₃ : n / 16777216 ≡ d = sym (div-div-eq-div-mul n 65536 256) ∙ rw e₂ (above c d hc) in
      rw (e, e₁, e₂, e₃, low a (b + (c + d * 256) * 256) ha, low b (c + d * 256) hb, low c d hc, mod-eq_of_lt hd)

pub le16-u16 : (s : List ℕ) → Bytes s → (i : ℕ) → le16 (u16at s i) ≡ byte s i ∷ byte s (i + 1) ∷ []
le16-u16 s h i = pair (byte s i) (byte s (i + 1)) (h i).fits (h (i + 1)).fits

pub le32-u32 : (s : List ℕ) → Bytes s → (i : ℕ) → le32 (u32at s i) ≡ byte s i ∷ byte s (i + 1) ∷ byte s (i + 2) ∷ byte s (i + 3) ∷ []
le32-u32 s h i = quad (byte s i) (byte s (i + 1)) (byte s (i + 2)) (byte s (i + 3)) (h i).fits (h (i + 1)).fits (h (i + 2)).fits (h (i + 3)).fits

pub u32-fits : (s : List ℕ) → Bytes s → (i : ℕ) → u32at s i < 2 ^ 32
u32-fits s h i = omega (arith, (h i).fits, (h (i + 1)).fits, (h (i + 2)).fits, (h (i + 3)).fits)

pub u32-le32 : (n : ℕ) → n < 2 ^ 32 → u32at (le32 n) 0 ≡ n
u32-le32 n h =
    let t : n / 16777216 < 256 = omega arith in
    let e₂ = div-div-eq-div-mul n 256 256 in
    let e₃ = div-div-eq-div-mul n 65536 256 in
    rw (mod-eq_of_lt t)
    (sums n (n / 256) (n / 65536) (n / 16777216) (n % 256) (n / 256 % 256) (n / 65536 % 256) (mod-add-div' n 256)
    (rw e₂ at (mod-add-div' (n / 256) 256))
    (rw e₃ at (mod-add-div' (n / 65536) 256)))
  where
    sums : (n q₁ q₂ q₃ r₀ r₁ r₂ : ℕ) → r₀ + q₁ * 256 ≡ n → r₁ + q₂ * 256 ≡ q₁ → r₂ + q₃ * 256 ≡ q₂ → r₀ + r₁ * 256 + r₂ * 65536 + q₃ * 16777216 ≡ n
    sums n q₁ q₂ q₃ r₀ r₁ r₂ a b c = omega arith

-- a raw length is its two parts
pub raw-whole : (n : ℕ) → n < 2 ^ 32 → raw_of (n % 0x4000_0000) (n / 0x4000_0000) ≡ n
raw-whole n h = omega arith

-- the n bytes of s from i on
abbrev pub from : List ℕ → ℕ → ℕ → List ℕ
from s i zero = []
from s i (suc n) = byte s i ∷ from s (suc i) n

from_tail : (x : ℕ) (s : List ℕ) (i n : ℕ) → from (x ∷ s) (suc i) n ≡ from s i n
from_tail x s i zero = refl
from_tail x s i (suc n) = ap (λ (l : List ℕ). byte s i ∷ l) (from_tail x s (suc i) n)

pub from-take : (s : List ℕ) (n : ℕ) → n ≤ length s → from s 0 n ≡ take n s
from-take s zero h = refl
from-take [] (suc n) h = absurd (not-suc-le-zero h)
from-take (x ∷ s) (suc n) h = ap (λ (l : List ℕ). x ∷ l) (from_tail x s 0 n ∙ from-take s n (le_of_suc-le-suc h))

-- ---- past the end every number is 0

pub byte_past : (s : List ℕ) (i : ℕ) → length s ≤ i → 0 ≡ byte s i
byte_past s i h = sym (get_or-eq_default s 0 h)

pub u16-past : (s : List ℕ) (i : ℕ) → length s ≤ i → 0 ≡ u16at s i
u16-past s i h = rw (← byte_past s i h, ← byte_past s (i + 1) (omega arith))

pub u32-past : (s : List ℕ) (i : ℕ) → length s ≤ i → 0 ≡ u32at s i
u32-past s i h =
    rw (← byte_past s i h, ← byte_past s (i + 1) (omega arith), ← byte_past s (i + 2) (omega arith), ← byte_past s (i + 3) (omega arith))

pub u64-past : (s : List ℕ) (i : ℕ) → length s ≤ i → 0 ≡ u64at s i
u64-past s i h = rw (← u32-past s i h, ← u32-past s (i + 4) (omega arith))

pub u64-parts : (s : List ℕ) (i : ℕ) {a b r : ℕ} → a ≡ u32at s i → b ≡ u32at s (i + 4) → r ≡ a + b * 0x1_0000_0000 → r ≡ u64at s i
u64-parts s i p q e = rw (e, p, q)

-- The rules of the tables: one test over each, which the prover computes, and what it says at each entry; and where the code looks. Assumes nothing.
use mathlib.Core.Path.{◌≡◌, refl, sym, ap, ◌∙◌}
use mathlib.Core.Bool.{Bool, true, false, ◌&&◌}
use mathlib.Core.List.{List, [], ◌∷◌, ◌++◌}
use Prim.Native.Nat.{ℕ, zero, suc, ◌+◌, ◌*◌, ◌/◌, ◌%◌, ◌^◌, ◌<◌}
use native.Mathlib.Nat.{add-zero, zero-add, add-suc, suc-add, le_of_suc-le-suc, not-suc-le-zero}
use native.Mathlib.Omega.{arith}
use lib.Bits.{bit_xor, xor_lt}
use lib.Dec.{eqb}
use lib.ListN.{length, get_or}
use mir.Val.{Fits}
use mir.Syntax.{w64}
use borrow.Author.Tests.{eqb-true}
use Rattle.crcs.specs.Crcs.{eight_bits, remainder}
use Rattle.crcs.specs.Inner.Tables.{Remainders, Further, eight_on, byte_by, four_by}
use Rattle.crcs.specs.Remainders.{remainders_from}

both : (a b : Bool) → (a && b) ≡ true → (a ≡ true) × (b ≡ true)
both true b e = (refl, e)
both false b e = let z : false ≡ true = e in (e, cc)

-- ---- the rules

at_each : (t : List ℕ) (i : ℕ) → remainders_from i t ≡ true → (k : ℕ) → k < length t → get_or t k 0 ≡ remainder (i + k)
at_each [] i e k h = absurd (not-suc-le-zero h)
at_each (x ∷ t) i e zero h = rw (add-zero i) (eqb-true x (remainder i) (both (eqb x (remainder i)) _ e).0)
at_each (x ∷ t) i e (suc k) h =
    at_each t (suc i) (both (eqb x (remainder i)) _ e).1 k (le_of_suc-le-suc h) ∙ ap remainder (suc-add i k ∙ sym (add-suc i k))

-- The test turned into the rule.
pub table-rule : (t : List ℕ) → length t ≡ 256 → remainders_from 0 t ≡ true → Remainders t
table-rule t n e = record { at = λ b h. at_each t 0 e b (omega arith) ∙ ap remainder (zero-add b) }

on-each : (t u : List ℕ) → eight_on t u ≡ true → (i : ℕ) → i < length u → get_or u i 0 ≡ eight_bits (get_or t i 0)
on-each t [] e i h = absurd (not-suc-le-zero h)
on-each [] (y ∷ u) e i h = let z : false ≡ true = e in cc
on-each (x ∷ t) (y ∷ u) e zero h = eqb-true y (eight_bits x) (both (eqb y (eight_bits x)) _ e).0
on-each (x ∷ t) (y ∷ u) e (suc i) h = on-each t u (both (eqb y (eight_bits x)) _ e).1 i (le_of_suc-le-suc h)

-- The same of the further tables.
pub further-rule : (t u : List ℕ) → length t ≡ 256 → length u ≡ 768 → eight_on (t ++ u) u ≡ true → Further t u
further-rule t u n m e = record { long = n; at = λ i h. on-each (t ++ u) u e i (omega arith) }

-- ---- where the code looks

module _ (c b : ℕ) (hc : c < 2 ^ 16) (hb : b < 2 ^ 8) where
  -- What moves out is a place of a table.
  pub out-byte : bit_xor (c / 256) b < 256
  out-byte = xor_lt 8 (c / 256) b (omega arith) hb

  pub out-fits : Fits w64 (bit_xor (c / 256) b * 2)
  out-fits = record { fits = omega (arith, out-byte) }

  -- and behind two tables, the place of the third
  pub high_fits : Fits w64 (512 + bit_xor (c / 256) b)
  high_fits = record { fits = omega (arith, out-byte) }

  pub high-inside : 512 + bit_xor (c / 256) b < 768
  high-inside = omega (arith, out-byte)

  pub high-scaled : Fits w64 ((512 + bit_xor (c / 256) b) * 2)
  high-scaled = record { fits = omega (arith, out-byte) }

  -- What is left meets a byte too.
  low_byte : bit_xor (c % 256) b < 256
  low_byte = xor_lt 8 (c % 256) b (omega arith) hb

  pub low_fits : Fits w64 (256 + bit_xor (c % 256) b)
  low_fits = record { fits = omega (arith, low_byte) }

  pub low-inside : 256 + bit_xor (c % 256) b < 768
  low-inside = omega (arith, low_byte)

  pub low-scaled : Fits w64 ((256 + bit_xor (c % 256) b) * 2)
  low-scaled = record { fits = omega (arith, low_byte) }

pub byte-by : (t : List ℕ) (c b : ℕ) → bit_xor (c % 256 * 256) (get_or t (bit_xor (c / 256) b) 0) ≡ byte_by t c b
unfolding byte_by
byte-by t c b = refl

pub four-by : (t u : List ℕ) (c b0 b1 b2 b3 : ℕ)
    → bit_xor (bit_xor (get_or u (512 + bit_xor (c / 256) b0) 0) (get_or u (256 + bit_xor (c % 256) b1) 0)) (bit_xor (get_or u b2 0) (get_or t b3 0)) ≡ four_by t u c b0 b1 b2 b3
unfolding four_by
four-by t u c b0 b1 b2 b3 = refl

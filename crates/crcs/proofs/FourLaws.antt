-- Laws of the tables in use: by tables that keep their rules a byte's step, and the step of four, are the steps by bits, and so is what all bytes come to.
-- Assumes nothing.
use mathlib.Core.Path.{◌≡◌, refl, sym, ap, ap₂, ◌∙◌}
use mathlib.Core.List.{List, [], ◌∷◌, ◌++◌}
use Prim.Native.Nat.{ℕ, suc, ◌+◌, ◌*◌, ◌/◌, ◌%◌, ◌^◌, ◌<◌}
use native.Mathlib.Nat.{add-zero}
use native.Mathlib.Omega.{arith}
use lib.Bits.{bit_xor, xor_lt, xor_comm, xor_block}
use lib.Dec.{lit<}
use lib.ListN.{length, get_or, get_or-append}
use lib.Seq.{get_or-append-add}
use Rattle.disc.specs.Parts.{Bytes}
use Rattle.crcs.specs.Crcs.{eight_bits, one_byte, crc_from, remainder}
use Rattle.crcs.specs.Inner.Tables.{Remainders, Further, byte_by, bytes_by, four_by, crc_by}
use Rattle.crcs.proofs.XorLaws.{xor_assoc}
use Rattle.crcs.proofs.CrcLaws.{eight_fits, eight-linear, byte-is, byte_fits}

-- ---- the steps by bits

-- A byte that comes to two registers XORed: each goes eight bits on, and the byte leaves its remainder.
on-two : (x y b : ℕ) → x < 2 ^ 16 → y < 2 ^ 16 → b < 256 → one_byte (bit_xor x y) b ≡ bit_xor (bit_xor (eight_bits x) (eight_bits y)) (remainder b)
unfolding one_byte remainder
on-two x y b hx hy hb =
    eight-linear (bit_xor x y) (b * 256) (xor_lt 16 x y hx hy) (omega arith)
    ∙ ap (λ (z : ℕ). bit_xor z (eight_bits (b * 256))) (eight-linear x y hx hy)

-- A byte moved up, beside another.
moved_up : (a b : ℕ) → bit_xor (a * 256) (b * 256) ≡ bit_xor a b * 256
moved_up a b =
    sym (ap₂ bit_xor (add-zero (a * 256)) (add-zero (b * 256))) ∙ xor_block 8 a b 0 0 (lit< tt) (lit< tt) ∙ add-zero (bit_xor a b * 256)

left-fits : (b : ℕ) → remainder b < 2 ^ 16
unfolding remainder
left-fits b = eight_fits (b * 256)

-- Two bytes: each meets one of the register's, and the first one's remainder goes on.
two_bytes : (c b0 b1 : ℕ) → c < 2 ^ 16 → b0 < 256 → b1 < 256
    → one_byte (one_byte c b0) b1 ≡ bit_xor (eight_bits (remainder (bit_xor (c / 256) b0))) (remainder (bit_xor (c % 256) b1))
unfolding one_byte remainder
two_bytes c b0 b1 hc h0 h1 =
    let left = eight_bits (bit_xor (c / 256) b0 * 256) in
    let fits : bit_xor (c % 256) b1 < 2 ^ 8 = xor_lt 8 (c % 256) b1 (omega arith) h1 in
    ap (λ (x : ℕ). eight_bits (bit_xor x (b1 * 256))) (byte-is c b0 hc h0 ∙ xor_comm (c % 256 * 256) left)
    ∙ ap eight_bits (xor_assoc left (c % 256 * 256) (b1 * 256) ∙ ap (bit_xor left) (moved_up (c % 256) b1))
    ∙ eight-linear left (bit_xor (c % 256) b1 * 256) (eight_fits _) (omega arith)

-- And two more.
pub four_bytes : (c b0 b1 b2 b3 : ℕ) → c < 2 ^ 16 → b0 < 256 → b1 < 256 → b2 < 256 → b3 < 256
    → one_byte (one_byte (one_byte (one_byte c b0) b1) b2) b3
    ≡ bit_xor (bit_xor (eight_bits (eight_bits (eight_bits (remainder (bit_xor (c / 256) b0))))) (eight_bits (eight_bits (remainder (bit_xor (c % 256) b1)))))
    (bit_xor (eight_bits (remainder b2)) (remainder b3))
four_bytes c b0 b1 b2 b3 hc h0 h1 h2 h3 =
    let h = eight_bits (remainder (bit_xor (c / 256) b0)) in
    let l = remainder (bit_xor (c % 256) b1) in
    let e = bit_xor (eight_bits h) (eight_bits l) in
    let fits : e < 2 ^ 16 = xor_lt 16 (eight_bits h) (eight_bits l) (eight_fits h) (eight_fits l) in
    ap (λ (x : ℕ). one_byte (one_byte x b2) b3) (two_bytes c b0 b1 hc h0 h1)
    ∙ ap (λ (x : ℕ). one_byte x b3) (on-two h l b2 (eight_fits _) (left-fits _) h2)
    ∙ on-two e (remainder b2) b3 fits (left-fits b2) h3
    ∙ ap (λ (x : ℕ). bit_xor (bit_xor x (eight_bits (remainder b2))) (remainder b3)) (eight-linear (eight_bits h) (eight_bits l) (eight_fits h) (eight_fits l))
    ∙ xor_assoc (bit_xor (eight_bits (eight_bits h)) (eight_bits (eight_bits l))) (eight_bits (remainder b2)) (remainder b3)

-- ---- by tables

module _ (t : List ℕ) (r : Remainders t) where
  pub byte_step : (c b : ℕ) → c < 2 ^ 16 → b < 256 → byte_by t c b ≡ one_byte c b
  unfolding byte_by
  byte_step c b hc hb = ap (bit_xor (c % 256 * 256)) (r.at (bit_xor (c / 256) b) (xor_lt 8 (c / 256) b (omega arith) hb)) ∙ sym (byte-is c b hc hb)

  pub by-table : (s : List ℕ) (c : ℕ) → Bytes s → c < 2 ^ 16 → bytes_by t c s ≡ crc_from c s
  unfolding bytes_by crc_from
  by-table [] c h hc = refl
  by-table (b ∷ s) c h hc =
      ap (λ (x : ℕ). bytes_by t x s) (byte_step c b hc (h 0).fits) ∙ by-table s (one_byte c b) (λ i. h (suc i)) (byte_fits c b)

  module _ (u : List ℕ) (f : Further t u) where
    first : (b : ℕ) → b < 256 → get_or u b 0 ≡ eight_bits (remainder b)
    first b h = f.at b (omega arith) ∙ ap eight_bits (get_or-append t u 0 b (omega (arith, f.long)) ∙ r.at b h)

    -- An entry behind the first table of u stands 256 places behind its own in u.
    next : (k : ℕ) → k < 512 → get_or u (256 + k) 0 ≡ eight_bits (get_or u k 0)
    next k h =
        let e : 256 + k ≡ length t + k = omega (arith, f.long) in
        f.at (256 + k) (omega arith) ∙ ap eight_bits (ap (λ (i : ℕ). get_or (t ++ u) i 0) e ∙ get_or-append-add t u k 0)

    second : (b : ℕ) → b < 256 → get_or u (256 + b) 0 ≡ eight_bits (eight_bits (remainder b))
    second b h = next b (omega arith) ∙ ap eight_bits (first b h)

    third : (b : ℕ) → b < 256 → get_or u (512 + b) 0 ≡ eight_bits (eight_bits (eight_bits (remainder b)))
    third b h =
        let e : 512 + b ≡ 256 + (256 + b) = omega arith in
        ap (λ (i : ℕ). get_or u i 0) e ∙ next (256 + b) (omega arith) ∙ ap eight_bits (second b h)

    pub four-step : (c b0 b1 b2 b3 : ℕ) → c < 2 ^ 16 → b0 < 256 → b1 < 256 → b2 < 256 → b3 < 256
        → four_by t u c b0 b1 b2 b3 ≡ one_byte (one_byte (one_byte (one_byte c b0) b1) b2) b3
    unfolding four_by
    four-step c b0 b1 b2 b3 hc h0 h1 h2 h3 =
        (λ i. bit_xor
        (bit_xor (third (bit_xor (c / 256) b0) (xor_lt 8 (c / 256) b0 (omega arith) h0) i) (second (bit_xor (c % 256) b1) (xor_lt 8 (c % 256) b1 (omega arith) h1) i))
        (bit_xor (first b2 h2 i) (r.at b3 h3 i)))
        ∙ sym (four_bytes c b0 b1 b2 b3 hc h0 h1 h2 h3)

    pub by-tables : (s : List ℕ) (c : ℕ) → Bytes s → c < 2 ^ 16 → crc_by t u c s ≡ crc_from c s
    unfolding crc_by crc_from
    by-tables [] c h hc = refl
    by-tables (b0 ∷ []) c h hc = by-table (b0 ∷ []) c h hc
    by-tables (b0 ∷ b1 ∷ []) c h hc = by-table (b0 ∷ b1 ∷ []) c h hc
    by-tables (b0 ∷ b1 ∷ b2 ∷ []) c h hc = by-table (b0 ∷ b1 ∷ b2 ∷ []) c h hc
    by-tables (b0 ∷ b1 ∷ b2 ∷ b3 ∷ s) c h hc =
        ap (λ (x : ℕ). crc_by t u x s) (four-step c b0 b1 b2 b3 hc (h 0).fits (h 1).fits (h 2).fits (h 3).fits)
        ∙ by-tables s (one_byte (one_byte (one_byte (one_byte c b0) b1) b2) b3) (λ i. h (suc (suc (suc (suc i))))) (byte_fits _ b3)

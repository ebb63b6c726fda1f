-- Laws of what a change does to the register: no two registers, and no two bytes, come to one. Assumes nothing.
use mathlib.Core.Path.{◌≡◌, sym, ap, ◌∙◌}
use mathlib.Core.Logic.{⊎_elim}
use mathlib.Core.List.{List, [], ◌∷◌}
use Prim.Native.Nat.{ℕ, suc, ◌+◌, ◌*◌, ◌%◌, ◌^◌, ◌<◌, ◌≤◌}
use native.Mathlib.Omega.{arith}
use lib.Bits.{bit_xor, xor_lt, xor_self, xor_shifted}
use Rattle.disc.proofs.ImageLaws.{split}
use Rattle.crcs.specs.Crcs.{one_bit, eight_bits, one_byte, crc_from}
use Rattle.crcs.proofs.XorLaws.{xor_assoc, xor-equal, xor-left, xor-right}
use Rattle.crcs.proofs.CrcLaws.{two, four, bit-clear, bit-set, bit-fits, bit-linear, eight_fits, eight-linear, eight-low, byte_fits}
use Rattle.disc.specs.Parts.{Bytes}

-- Two registers that a function takes to one are one.
abbrev OneToOne : (ℕ → ℕ) → Type 0
OneToOne f = (a b : ℕ) → a < 2 ^ 16 → b < 2 ^ 16 → f a ≡ f b → a ≡ b

-- The polynomial is odd, and what moves up is even: nothing but an empty register is left empty.
bit-zero : (c : ℕ) → one_bit c ≡ 0 → c < 2 ^ 16 → c ≡ 0
bit-zero c e k = ⊎_elim
    (λ (h : 0x8000 ≤ c). let f : c * 2 % 0x10000 ≡ 0x1021 = xor-equal (c * 2 % 0x10000) 0x1021 (sym (bit-set c h) ∙ e) in omega arith)
    (λ (h : c < 0x8000). let f : c * 2 ≡ 0 = sym (bit-clear c h) ∙ e in omega arith)
    (split 0x8000 c)

bit-one : OneToOne one_bit
bit-one a b ha hb e =
    xor-equal a b
    (bit-zero (bit_xor a b) (bit-linear a b ha hb ∙ ap (λ (x : ℕ). bit_xor x (one_bit b)) e ∙ xor_self (one_bit b)) (xor_lt 16 a b ha hb))

again : (f : ℕ → ℕ) → ((c : ℕ) → f c < 2 ^ 16) → OneToOne f → OneToOne (λ c. f (f c))
again f fits o a b ha hb e = o a b ha hb (o (f a) (f b) (fits a) (fits b) e)

pub eight-one : OneToOne eight_bits
unfolding eight_bits
eight-one = again four (λ c. bit-fits (one_bit (two c))) (again two (λ c. bit-fits (one_bit c)) (again one_bit bit-fits bit-one))

-- ---- bytes

-- A byte in the top eight bits, beside a register.
met : (c b : ℕ) → c < 2 ^ 16 → b < 256 → bit_xor c (b * 256) < 2 ^ 16
met c b hc hb = xor_lt 16 c (b * 256) hc (omega arith)

pub byte-register : (b c d : ℕ) → b < 256 → c < 2 ^ 16 → d < 2 ^ 16 → one_byte c b ≡ one_byte d b → c ≡ d
unfolding one_byte
byte-register b c d hb hc hd e = xor-right (b * 256) c d (eight-one _ _ (met c b hc hb) (met d b hd hb) e)

pub byte-taken : (c a b : ℕ) → c < 2 ^ 16 → a < 256 → b < 256 → one_byte c a ≡ one_byte c b → a ≡ b
unfolding one_byte
byte-taken c a b hc ha hb e =
    let same : a * 256 ≡ b * 256 = xor-left c (a * 256) (b * 256) (eight-one _ _ (met c a hc ha) (met c b hc hb) e) in
    omega arith

-- Bytes behind bring no two registers together.
pub bytes-register : (s : List ℕ) (c d : ℕ) → Bytes s → c < 2 ^ 16 → d < 2 ^ 16 → crc_from c s ≡ crc_from d s → c ≡ d
unfolding crc_from
bytes-register [] c d h hc hd e = e
bytes-register (b ∷ s) c d h hc hd e =
    byte-register b c d (h 0).fits hc hd
    (bytes-register s (one_byte c b) (one_byte d b) (λ i. h (suc i)) (byte_fits c b) (byte_fits d b) e)

-- Two bytes are XORed in as one number of 16 bits, which then moves out.
pair_is : (c a b : ℕ) → c < 2 ^ 16 → a < 256 → b < 256 → one_byte (one_byte c a) b ≡ eight_bits (eight_bits (bit_xor c (a * 256 + b)))
unfolding one_byte
pair_is c a b hc ha hb =
    let whole : bit_xor c (a * 256 + b) ≡ bit_xor (bit_xor c (a * 256)) b = ap (bit_xor c) (sym (xor_shifted a 8 b hb)) ∙ sym (xor_assoc c (a * 256) b) in
    ap eight_bits
    (sym (ap eight_bits whole ∙ eight-linear (bit_xor c (a * 256)) b (met c a hc ha) (omega arith)
    ∙ ap (bit_xor (eight_bits (bit_xor c (a * 256)))) (eight-low b hb)))

pub pair-taken : (c a b a' b' : ℕ) → c < 2 ^ 16 → a < 256 → b < 256 → a' < 256 → b' < 256 → one_byte (one_byte c a) b ≡ one_byte (one_byte c a') b'
    → (a ≡ a') × (b ≡ b')
pair-taken c a b a' b' hc ha hb ha' hb' e =
    let same : eight_bits (eight_bits (bit_xor c (a * 256 + b))) ≡ eight_bits (eight_bits (bit_xor c (a' * 256 + b'))) =
    sym (pair_is c a b hc ha hb) ∙ e ∙ pair_is c a' b' hc ha' hb' in
    let one : a * 256 + b ≡ a' * 256 + b' =
    xor-left c _ _ (again eight_bits eight_fits eight-one _ _ (xor_lt 16 c _ hc (omega arith)) (xor_lt 16 c _ hc (omega arith)) same) in
    (omega arith, omega arith)

-- Laws of the register: a bit, and so a byte, passes through XOR, and what is left of a byte is what the table has. Assumes nothing.
use mathlib.Core.Path.{◌≡◌, refl, sym, ap, ap₂, ◌∙◌}
use mathlib.Core.Logic.{⊎_elim}
use Prim.Native.Nat.{ℕ, ◌+◌, ◌*◌, ◌/◌, ◌%◌, ◌^◌, ◌<◌, ◌≤◌}
use native.Mathlib.Nat.{add-zero}
use native.Mathlib.Omega.{arith}
use lib.Bits.{bit_xor, xor_lt, xor_shr, xor_mod, xor_comm, xor_block, xor_shifted, xor_zero_r}
use lib.Dec.{lit<}
use borrow.Author.Tests.{lt-ltb, le-ltb}
use Rattle.disc.proofs.ImageLaws.{split}
use Rattle.crcs.specs.Crcs.{one_bit, eight_bits, one_byte, remainder}
use Rattle.crcs.proofs.XorLaws.{digit, xor-medial, xor-double}

-- ---- one bit

-- Where the top bit is clear, the register moves up; where it is set, it comes back as the polynomial.
pub bit-clear : (c : ℕ) → c < 0x8000 → one_bit c ≡ c * 2
unfolding one_bit
bit-clear c h = rw (lt-ltb c 0x8000 h) refl

pub bit-set : (c : ℕ) → 0x8000 ≤ c → one_bit c ≡ bit_xor (c * 2 % 0x10000) 0x1021
unfolding one_bit
bit-set c h = rw (le-ltb c 0x8000 h) refl

-- What leaves the register is gone: 16 bits are left of any number.
pub bit-fits : (c : ℕ) → one_bit c < 2 ^ 16
bit-fits c = ⊎_elim
    (λ (h : 0x8000 ≤ c). rw (bit-set c h) (xor_lt 16 (c * 2 % 0x10000) 0x1021 (omega arith) (lit< tt)))
    (λ (h : c < 0x8000). rw (bit-clear c h) (omega arith))
    (split 0x8000 c)

-- Both at once: the top bit times the polynomial.
bit_is : (c : ℕ) → c < 2 ^ 16 → one_bit c ≡ bit_xor (c % 0x8000 * 2) (c / 0x8000 * 0x1021)
bit_is c k = ⊎_elim
    (λ (h : 0x8000 ≤ c).
    let e : c / 0x8000 ≡ 1 = omega arith in
    let f : c * 2 % 0x10000 ≡ c % 0x8000 * 2 = omega arith in
    bit-set c h ∙ rw (e, f) refl)
    (λ (h : c < 0x8000).
    let e : c / 0x8000 ≡ 0 = omega arith in
    let f : c % 0x8000 ≡ c = omega arith in
    bit-clear c h ∙ rw (e, f) (sym (xor_zero_r (c * 2))))
    (split 0x8000 c)

-- Of two top bits the polynomial comes in where one is set, and not where both are.
tops : (x y : ℕ) → x < 2 → y < 2 → bit_xor x y * 0x1021 ≡ bit_xor (x * 0x1021) (y * 0x1021)
tops x y hx hy =
    digit (λ x. bit_xor x y * 0x1021 ≡ bit_xor (x * 0x1021) (y * 0x1021)) refl
    (digit (λ y. bit_xor 1 y * 0x1021 ≡ bit_xor (1 * 0x1021) (y * 0x1021)) refl refl y hy) x hx

-- A function of registers passes through XOR.
abbrev Linear : (ℕ → ℕ) → Type 0
Linear f = (a b : ℕ) → a < 2 ^ 16 → b < 2 ^ 16 → f (bit_xor a b) ≡ bit_xor (f a) (f b)

pub bit-linear : Linear one_bit
bit-linear a b ha hb =
    bit_is (bit_xor a b) (xor_lt 16 a b ha hb)
    ∙ ap₂ (λ (x y : ℕ). bit_xor (x * 2) (y * 0x1021)) (xor_mod a b 15) (xor_shr a b 15)
    ∙ ap₂ bit_xor (xor-double (a % 0x8000) (b % 0x8000)) (tops (a / 0x8000) (b / 0x8000) (omega arith) (omega arith))
    ∙ xor-medial (a % 0x8000 * 2) (b % 0x8000 * 2) (a / 0x8000 * 0x1021) (b / 0x8000 * 0x1021)
    ∙ sym (ap₂ bit_xor (bit_is a ha) (bit_is b hb))

-- ---- eight bits

-- A function that passes through XOR, and gives registers, does so twice.
twice : (f : ℕ → ℕ) → ((c : ℕ) → f c < 2 ^ 16) → Linear f → Linear (λ c. f (f c))
twice f fits l a b ha hb = ap f (l a b ha hb) ∙ l (f a) (f b) (fits a) (fits b)

pub eight_fits : (c : ℕ) → eight_bits c < 2 ^ 16
unfolding eight_bits
eight_fits c = bit-fits (one_bit (one_bit (one_bit (one_bit (one_bit (one_bit (one_bit c)))))))

abbrev pub two : ℕ → ℕ
two c = one_bit (one_bit c)

abbrev pub four : ℕ → ℕ
four c = two (two c)

pub eight-linear : Linear eight_bits
unfolding eight_bits
eight-linear = twice four (λ c. bit-fits (one_bit (two c))) (twice two (λ c. bit-fits (one_bit c)) (twice one_bit bit-fits bit-linear))

-- A low byte moves up whole.
pub eight-low : (l : ℕ) → l < 256 → eight_bits l ≡ l * 256
unfolding eight_bits
eight-low l h =
    rw (
      bit-clear l (omega arith),
      bit-clear (l * 2) (omega arith),
      bit-clear (l * 2 * 2) (omega arith),
      bit-clear (l * 2 * 2 * 2) (omega arith),
      bit-clear (l * 2 * 2 * 2 * 2) (omega arith),
      bit-clear (l * 2 * 2 * 2 * 2 * 2) (omega arith),
      bit-clear (l * 2 * 2 * 2 * 2 * 2 * 2) (omega arith),
      bit-clear (l * 2 * 2 * 2 * 2 * 2 * 2 * 2) (omega arith),
    )
    (omega arith)

-- ---- one byte

-- A byte that comes in meets the high byte alone.
byte_meets : (c b : ℕ) → bit_xor c (b * 256) ≡ bit_xor (c % 256) (bit_xor (c / 256) b * 256)
byte_meets c b =
    let h = c / 256 in
    let l = c % 256 in
    let low : l < 2 ^ 8 = omega arith in
    let e : c ≡ h * 2 ^ 8 + l = omega arith in
    ap₂ bit_xor e (sym (add-zero (b * 256))) ∙ xor_block 8 h b l 0 low (lit< tt) ∙ ap (λ (x : ℕ). bit_xor h b * 256 + x) (xor_zero_r l)
    ∙ sym (xor_shifted (bit_xor h b) 8 l low) ∙ xor_comm (bit_xor h b * 256) l

-- By the table: the low byte moves up, and what moves out comes back as its remainder.
pub byte-is : (c b : ℕ) → c < 2 ^ 16 → b < 256 → one_byte c b ≡ bit_xor (c % 256 * 256) (remainder (bit_xor (c / 256) b))
unfolding one_byte remainder
byte-is c b hc hb =
    let k = bit_xor (c / 256) b in
    let fits : k < 2 ^ 8 = xor_lt 8 (c / 256) b (omega arith) hb in
    ap eight_bits (byte_meets c b) ∙ eight-linear (c % 256) (k * 256) (omega arith) (omega arith)
    ∙ ap (λ (x : ℕ). bit_xor x (eight_bits (k * 256))) (eight-low (c % 256) (omega arith))

pub byte_fits : (c b : ℕ) → one_byte c b < 2 ^ 16
unfolding one_byte
byte_fits c b = eight_fits (bit_xor c (b * 256))

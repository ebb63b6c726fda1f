-- Laws of XOR beside the logic's own: it joins in any order, and two numbers whose XOR is 0 are equal. Assumes nothing.
use mathlib.Core.Path.{◌≡◌, refl, sym, ap, ap₂, ◌∙◌}
use Prim.Native.Nat.{ℕ, zero, suc, ◌+◌, ◌*◌, ◌/◌, ◌%◌, ◌<◌}
use native.Mathlib.Nat.{mod-lt, le_of_suc-le-suc, not-suc-le-zero, add-zero}
use lib.Arith.{bin_ind}
use lib.Bits.{bit_xor, differ, xor_step, xor_shr, xor_mod, xor_comm, xor_block, xor_zero_r, xor_self}
use lib.Dec.{lit<}

-- What holds of both digits holds of a number below 2.
pub digit : (P : ℕ → Type 0) → P 0 → P 1 → (x : ℕ) → x < 2 → P x
digit P p q zero h = p
digit P p q (suc zero) h = q
digit P p q (suc (suc x)) h = absurd (not-suc-le-zero (le_of_suc-le-suc (le_of_suc-le-suc h)))

last : (n : ℕ) → n % 2 < 2
last n = mod-lt n (lit< tt)

module _ (x y : ℕ) (hx : x < 2) (hy : y < 2) where
  digit-xor : bit_xor x y ≡ differ x y
  digit-xor = digit (λ x. bit_xor x y ≡ differ x y) refl (digit (λ y. bit_xor 1 y ≡ differ 1 y) refl refl y hy) x hx

  differ-assoc : (z : ℕ) → z < 2 → differ (differ x y) z ≡ differ x (differ y z)
  differ-assoc z hz =
      digit (λ x. differ (differ x y) z ≡ differ x (differ y z)) refl
      (digit (λ y. differ (differ 1 y) z ≡ differ 1 (differ y z)) refl (digit (λ z. z ≡ differ 1 (differ 1 z)) refl refl z hz) y hy) x hx

-- the lowest digit of a XOR
xor-last : (a b : ℕ) → bit_xor a b % 2 ≡ differ (a % 2) (b % 2)
xor-last a b = xor_mod a b 1 ∙ digit-xor (a % 2) (b % 2) (last a) (last b)

pub xor_assoc : (a b c : ℕ) → bit_xor (bit_xor a b) c ≡ bit_xor a (bit_xor b c)
xor_assoc a =
    bin_ind (λ (n : ℕ). (b c : ℕ) → bit_xor (bit_xor n b) c ≡ bit_xor n (bit_xor b c)) (λ b c. refl)
    (λ n ih b c.
    xor_step (bit_xor n b) c
    ∙ ap₂ (λ (x y : ℕ). bit_xor x (c / 2) * 2 + differ y (c % 2)) (xor_shr n b 1) (xor-last n b)
    ∙ ap₂ (λ (x y : ℕ). x * 2 + y) (ih (b / 2) (c / 2)) (differ-assoc (n % 2) (b % 2) (last n) (last b) (c % 2) (last c))
    ∙ sym (ap₂ (λ (x y : ℕ). bit_xor (n / 2) x * 2 + differ (n % 2) y) (xor_shr b c 1) (xor-last b c))
    ∙ sym (xor_step n (bit_xor b c))) a

-- Four numbers, the middle two exchanged.
pub xor-medial : (a b c d : ℕ) → bit_xor (bit_xor a b) (bit_xor c d) ≡ bit_xor (bit_xor a c) (bit_xor b d)
xor-medial a b c d =
    xor_assoc a b (bit_xor c d)
    ∙ ap (bit_xor a) (sym (xor_assoc b c d) ∙ ap (λ (x : ℕ). bit_xor x d) (xor_comm b c) ∙ xor_assoc c b d)
    ∙ sym (xor_assoc a c (bit_xor b d))

pub xor-equal : (a b : ℕ) → bit_xor a b ≡ 0 → a ≡ b
xor-equal a b e =
    sym (xor_zero_r a) ∙ ap (bit_xor a) (sym (xor_self b)) ∙ sym (xor_assoc a b b) ∙ ap (λ (x : ℕ). bit_xor x b) e

-- What two numbers are XORed with can be taken away, on either side.
pub xor-left : (c a b : ℕ) → bit_xor c a ≡ bit_xor c b → a ≡ b
xor-left c a b e =
    sym (undone a) ∙ ap (bit_xor c) e ∙ undone b
  where
    undone : (x : ℕ) → bit_xor c (bit_xor c x) ≡ x
    undone x = sym (xor_assoc c c x) ∙ ap (λ (z : ℕ). bit_xor z x) (xor_self c)

pub xor-right : (c a b : ℕ) → bit_xor a c ≡ bit_xor b c → a ≡ b
xor-right c a b e = xor-left c a b (xor_comm c a ∙ e ∙ xor_comm b c)

-- Doubling passes through.
pub xor-double : (a b : ℕ) → bit_xor a b * 2 ≡ bit_xor (a * 2) (b * 2)
xor-double a b =
    sym (add-zero (bit_xor a b * 2)) ∙ sym (xor_block 1 a b 0 0 (lit< tt) (lit< tt))
    ∙ ap₂ bit_xor (add-zero (a * 2)) (add-zero (b * 2))

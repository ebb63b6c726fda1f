-- What the functions that print cite: a number by another spelling has the same digits. And a number has one number of digits. Assumes nothing.
use Rattle.std.specs.Prelude.{Option, Some, None}
use mathlib.Core.Path.{◌≡◌, refl, sym, subst, ◌∙◌}
use Prim.Native.Nat.{ℕ, ◌-◌, ◌^◌, ◌≤◌, ◌<◌}
use native.Mathlib.Nat.{pow-le-pow_right, le_of_suc-le-suc, lt_of_not-le}
use native.Mathlib.Omega.{arith}
use Rattle.io.specs.Digits.{IsDigitCount}
use Rattle.programs.specs.Words.{PartitionDigits}

same_digits : (b least : ℕ) {n m k : ℕ} → n ≡ m → IsDigitCount b least n k → IsDigitCount b least m k
same_digits b least {n} {m} {k} e p = subst (λ x. IsDigitCount b least x k) e p

pub decimal-same : {n m k : ℕ} → n ≡ m → IsDigitCount 10 1 n k → IsDigitCount 10 1 m k
decimal-same e p = same_digits 10 1 e p

pub hex-same : {n m k : ℕ} → n ≡ m → IsDigitCount 16 2 n k → IsDigitCount 16 2 m k
hex-same e p = same_digits 16 2 e p

pub unnamed-digits : {p : Option ℕ} → p ≡ None → PartitionDigits p 0
unnamed-digits e = subst (λ q. PartitionDigits q 0) (sym e) refl

pub named-digits : {p : Option ℕ} {n k : ℕ} → p ≡ Some n → IsDigitCount 10 1 n k → PartitionDigits p k
named-digits {p} {n} {k} e h = subst (λ q. PartitionDigits q k) (sym e) h

-- ---- the contracts leave one result

-- what k' digits hold doesn't want more of them
no_more : (b least n k k' : ℕ) → 0 < b → IsDigitCount b least n k → IsDigitCount b least n k' → k' < k → ⊥
no_more b least n k k' h p q over =
    let enough : least ≤ k' = q.0 in
    let held : n < b ^ k' = q.1 in
    let some : b ^ (k - 1) ≤ n = p.2 (omega arith) in
    let more : b ^ k' ≤ b ^ (k - 1) = pow-le-pow_right h (omega arith) in
    omega arith

at_most : (b least n k k' : ℕ) → 0 < b → IsDigitCount b least n k → IsDigitCount b least n k' → k ≤ k'
at_most b least n k k' h p q = le_of_suc-le-suc (lt_of_not-le (no_more b least n k k' h p q))

fewest-one : (b least n k k' : ℕ) → 0 < b → IsDigitCount b least n k → IsDigitCount b least n k' → k ≡ k'
fewest-one b least n k k' h p q =
    let there : k ≤ k' = at_most b least n k k' h p q in
    let back : k' ≤ k = at_most b least n k' k h q p in
    omega arith

pub decimal-one : (least n k k' : ℕ) → IsDigitCount 10 least n k → IsDigitCount 10 least n k' → k ≡ k'
decimal-one least n k k' p q = fewest-one 10 least n k k' (omega arith) p q

pub hex-one : (least n k k' : ℕ) → IsDigitCount 16 least n k → IsDigitCount 16 least n k' → k ≡ k'
hex-one least n k k' p q = fewest-one 16 least n k k' (omega arith) p q

pub partition-one : (p : Option ℕ) (k k' : ℕ) → PartitionDigits p k → PartitionDigits p k' → k ≡ k'
partition-one None k k' e f = e ∙ sym f
partition-one (Some n) k k' e f = decimal-one 1 n k k' e f

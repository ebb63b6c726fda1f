-- A record by its fields, each as the call that read it ensures. Assumes nothing.
use Prim.Native.Nat.{ℕ, ◌+◌, ◌/◌, ◌%◌}
use mathlib.Core.Path.{◌≡◌}
use mathlib.Core.List.{List, [], ◌∷◌}
use Rattle.records.specs.Bytes.{byte, u16at, u32at, two, six}
use Rattle.records.specs.Allocations.{extent_of, short_of, long_of, ext_of}

module _ (s : List ℕ) (i : ℕ) {a b : ℕ} where
  pub extent-fields : a ≡ u32at s i → b ≡ u32at s (i + 4) → record { length = a; location = b } ≡ extent_of s i
  extent-fields p q = rw (p, q)

  pub short-fields : a ≡ u32at s i → b ≡ u32at s (i + 4) → record { length = a % 0x4000_0000; extent_type = a / 0x4000_0000; block_location = b } ≡ short_of s i
  short-fields p q = rw (p, q)

  pub six-fields : {c d e f : ℕ} → a ≡ byte s i → b ≡ byte s (i + 1) → c ≡ byte s (i + 2) → d ≡ byte s (i + 3) → e ≡ byte s (i + 4) → f ≡ byte s (i + 5)
      → a ∷ b ∷ c ∷ d ∷ e ∷ f ∷ [] ≡ six s i
  six-fields p q r t u v = rw (p, q, r, t, u, v)

  pub long-fields : {c : ℕ} {uses : List ℕ} → a ≡ u32at s i → b ≡ u32at s (i + 4) → c ≡ u16at s (i + 8) → uses ≡ six s (i + 10)
      → record {
        length = a % 0x4000_0000;
        extent_type = a / 0x4000_0000;
        location = record { block = b; partition_ref = c };
        implementation_use = uses;
      } ≡ long_of s i
  long-fields p q r t = rw (p, q, r, t)

  pub ext-fields : {c d e : ℕ} {uses : List ℕ} → a ≡ u32at s i → b ≡ u32at s (i + 4) → c ≡ u32at s (i + 8) → d ≡ u32at s (i + 12) → e ≡ u16at s (i + 16) → uses ≡ two s (i + 18)
      → record {
        length = a % 0x4000_0000;
        extent_type = a / 0x4000_0000;
        recorded_length = b % 0x4000_0000;
        information_length = c;
        location = record { block = d; partition_ref = e };
        implementation_use = uses;
      } ≡ ext_of s i
  ext-fields p q r t u v = rw (p, q, r, t, u, v)

-- A record that starts past the end is all zeros. Assumes nothing.
use Prim.Native.Nat.{ℕ, ◌+◌, ◌≤◌}
use mathlib.Core.Path.{◌≡◌}
use mathlib.Core.List.{List}
use native.Mathlib.Omega.{arith}
use lib.ListN.{length}
use Rattle.records.specs.Allocations.{extent_of, short_of, long_of, no_long, ext_of, no_ext}
use Rattle.records.specs.declared.allocations.LongAd.{LongAd}
use Rattle.records.specs.declared.allocations.ExtAd.{ExtAd}
use Rattle.records.proofs.Numbers.{byte_past, u16-past, u32-past}

module _ (s : List ℕ) (i : ℕ) (h : length s ≤ i) where
  pub extent-past : record { length = 0; location = 0 } ≡ extent_of s i
  extent-past = rw (← u32-past s i h, ← u32-past s (i + 4) (omega arith))

  pub short-past : record { length = 0; extent_type = 0; block_location = 0 } ≡ short_of s i
  short-past = rw (← u32-past s i h, ← u32-past s (i + 4) (omega arith))

  pub long-past : {r : LongAd} → r ≡ no_long → r ≡ long_of s i
  long-past e =
      rw (
        e,
        ← u32-past s i h,
        ← u32-past s (i + 4) (omega arith),
        ← u16-past s (i + 8) (omega arith),
        ← byte_past s (i + 10) (omega arith),
        ← byte_past s (i + 10 + 1) (omega arith),
        ← byte_past s (i + 10 + 2) (omega arith),
        ← byte_past s (i + 10 + 3) (omega arith),
        ← byte_past s (i + 10 + 4) (omega arith),
        ← byte_past s (i + 10 + 5) (omega arith),
      )

  pub ext-past : {r : ExtAd} → r ≡ no_ext → r ≡ ext_of s i
  ext-past e =
      rw (
        e,
        ← u32-past s i h,
        ← u32-past s (i + 4) (omega arith),
        ← u32-past s (i + 8) (omega arith),
        ← u32-past s (i + 12) (omega arith),
        ← u16-past s (i + 16) (omega arith),
        ← byte_past s (i + 18) (omega arith),
        ← byte_past s (i + 18 + 1) (omega arith),
      )

-- Laws of a reported count. Assumes nothing.
use mathlib.Core.Path.{◌≡◌}
use Prim.Native.Nat.{ℕ, ◌+◌}
use native.Mathlib.Omega.{arith}
use Rattle.disc.specs.Counts.{reported}

-- what is reported of two counts that were reported is what is reported of their sum, for every pair
pub reported-sum : (a b : ℕ) → reported (reported a + reported b) ≡ reported (a + b)
reported-sum a b = omega arith

-- What the loop that sums cites. Assumes nothing.
use mathlib.Core.Path.{◌≡◌, sym, ◌∙◌}
use mathlib.Core.List.{List}
use Prim.Native.Nat.{ℕ, ◌+◌, ◌*◌, ◌%◌, ◌≤◌, ◌<◌, ◌^◌}
use native.Mathlib.Omega.{arith}
use native.Mathlib.Numerals.{add-one}
use lib.ListN.{length, get_or, drop, drop_of_length-le}
use lib.Seq.{drop-cons}
use Rattle.programs.specs.Lent.{summed}

-- the sum of b has come to s with the bytes before i
pub record Summing (b : List ℕ) (s i : ℕ) : Type 0 where
  pub within : i ≤ length b
  pub small : s < 2 ^ 32
  pub rest : summed s (drop i b) ≡ summed 0 b

module _ {b : List ℕ} {s i : ℕ} (p : Summing b s i) where
  pub sum-next : {w : ℕ} → i < length b → w ≡ get_or b i 0 → Summing b ((s * 31 + w) % 4294967296) (i + 1)
  unfolding summed
  sum-next {w} h e =
      record {
        within = omega arith;
        small = omega arith;
        rest = sym (sym p.rest ∙ rw (add-one, drop-cons b i 0, e));
      }

  pub sum-ends : length b ≤ i → s ≡ summed 0 b
  unfolding summed
  sum-ends h = rw (drop_of_length-le b h) at p.rest

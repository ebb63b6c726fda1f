-- What the loop that looks for a byte that isn't 0 cites. Assumes nothing.
use mathlib.Core.Path.{◌≡◌, sym, ◌∙◌}
use mathlib.Core.Bool.{true, false}
use mathlib.Core.List.{List}
use Prim.Native.Nat.{ℕ, ◌+◌, ◌≤◌, ◌<◌}
use native.Mathlib.Omega.{arith}
use native.Mathlib.Numerals.{add-one}
use lib.ListN.{length, get_or, drop, drop_of_length-le}
use lib.Seq.{drop-cons}
use borrow.Author.Tests.{eq-eqb, ne_eqb}
use Rattle.programs.specs.Lent.{all_zero}

-- the bytes of b before i are 0
pub record Zeroed (b : List ℕ) (i : ℕ) : Type 0 where
  pub within : i ≤ length b
  pub rest : all_zero (drop i b) ≡ all_zero b

module _ {b : List ℕ} {i : ℕ} (p : Zeroed b i) where
  module _ (h : i < length b) where
    pub zero-next : get_or b i 0 ≡ 0 → Zeroed b (i + 1)
    unfolding all_zero
    zero-next e = record { within = omega arith; rest = sym (sym p.rest ∙ rw (add-one, drop-cons b i 0, eq-eqb _ _ e)) }

    pub zero-not : (get_or b i 0 ≡ 0 → ⊥) → false ≡ all_zero b
    unfolding all_zero
    zero-not e = sym (sym p.rest ∙ rw (drop-cons b i 0, ne_eqb _ _ e))

  pub zero-ends : length b ≤ i → true ≡ all_zero b
  unfolding all_zero
  zero-ends h = rw (drop_of_length-le b h) at p.rest

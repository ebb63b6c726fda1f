-- For the private functions of matching: how far a comparison has come. The public contract cites `Names` alone.
use Rattle.std.specs.Prelude.{ℕ, ◌<◌, ◌≡◌, true, false, List, ◌++◌, drop, eqb}
use Rattle.disc.specs.Choice.{pick}
use Rattle.names.specs.declared.matching.NamePlace.{NamePlace}
use Rattle.names.specs.Names.{same_name}
use Rattle.names.specs.Inner.Units.{At, text_of}

-- The bytes v of a name were compared with the component t from `at` on. Whatever follows them in the name is compared with t from the place r on, or
-- the names differ already.
pub record Matched (fold : ℕ → ℕ) (v t : List ℕ) (at : ℕ) (r : NamePlace) : Type 0 where
  pub rest : (more : List ℕ) → same_name fold (v ++ more) (drop at t) ≡ pick r.same (same_name fold more (drop r.at t)) false

-- The unit u is ASCII, not 0, and matches the byte b of a component.
pub record Plain (fold : ℕ → ℕ) (u b : ℕ) : Type 0 where
  pub some : u ≡ 0 → ⊥
  pub ascii : u < 0x80
  pub same : eqb (fold u) (fold b) ≡ true

-- The comparison of the d-string s from i₀ on with the component t from j₀ on has come to i and j: comparing the rest gives the result of the whole.
pub record Comparing (fold : ℕ → ℕ) (step : ℕ) (s t : List ℕ) (i₀ j₀ i j : ℕ) : Type 0 where
  pub at : At step s i
  pub rest : same_name fold (text_of step (drop i s)) (drop j t) ≡ same_name fold (text_of step (drop i₀ s)) (drop j₀ t)

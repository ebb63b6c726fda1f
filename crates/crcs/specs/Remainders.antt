-- A table of remainders, entry by entry.
use Rattle.std.specs.Prelude.{true, Bool, ◌&&◌, [], List, ◌∷◌, suc, ℕ, eqb}
use Rattle.crcs.specs.Crcs.{remainder}

-- Each entry is the remainder of its index, counted from i.
abbrev pub remainders_from : ℕ → List ℕ → Bool
remainders_from i [] = true
remainders_from i (x ∷ t) = eqb x (remainder i) && remainders_from (suc i) t

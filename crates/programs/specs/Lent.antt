-- What the programs do with bytes that they lend.
use Rattle.std.specs.Prelude.{ℕ, ◌+◌, ◌-◌, ◌*◌, ◌%◌, Bool, true, false, List, [], ◌∷◌, length, take, drop, eqb, ltb}
use Rattle.disc.specs.Choice.{pick}

-- the bytes from a to e, or none where they aren't there
abbrev pub part_of : List ℕ → ℕ → ℕ → List ℕ
part_of s a e = pick (ltb (length s) e) [] (pick (ltb e a) [] (take (e - a) (drop a s)))

-- the bytes of s summed onto k, so that the sum depends on where each stands
unfoldable pub summed : ℕ → List ℕ → ℕ
summed k [] = k
summed k (b ∷ s) = summed ((k * 31 + b) % 4294967296) s

-- every byte of s is 0
unfoldable pub all_zero : List ℕ → Bool
all_zero [] = true
all_zero (b ∷ s) = pick (eqb b 0) (all_zero s) false

-- What is counted for a list of paths: RULES 8.29 and 8.32.
use Rattle.std.specs.Prelude.{ℕ, ◌+◌, List, [], ◌∷◌}
use Rattle.disc.specs.Counts.{reported}
use Rattle.disc.specs.Ran.{Ran}

-- the count of a path read alone; `read` gives its run
abbrev pub count_alone : (List ℕ → Ran (List ℕ)) → List ℕ → ℕ
count_alone read path = reported (read path).count

-- the sum of what a function gives for each item
unfoldable pub summed : (List ℕ → ℕ) → List (List ℕ) → ℕ
summed f [] = 0
summed f (p ∷ ps) = f p + summed f ps

-- A directory, a file or an image added to a place, by the figures that it changes, whatever numbers the place has. RULES 16.2 and 16.3.
use Rattle.std.specs.Prelude.{ℕ, ◌+◌, ◌*◌, List, length, get_or, eqb}
use Rattle.std.proofs.lemmas.List.Edits.{sets}
use Rattle.disc.specs.Choice.{pick}
use Rattle.disc.specs.Counts.{reported}
use Rattle.figures.specs.Figures.{over, place, summed, greater}

-- the figure at `at` with n added, or the greater of the two: a figure is two numbers, itself and its mark
abbrev pub summed_at : ℕ → ℕ → List ℕ → List ℕ
summed_at at n s = sets s at (summed (get_or s at 0) (get_or s (at + 1) 0) (reported n) (over n))

abbrev pub greater_at : ℕ → ℕ → List ℕ → List ℕ
greater_at at n s = sets s at (greater (get_or s at 0) (get_or s (at + 1) 0) (reported n) (over n))

-- a slice of another length is no place, and stays as it came
abbrev pub in_place : (List ℕ → List ℕ) → List ℕ → List ℕ
in_place put s = pick (eqb (length s) place) (put s) s

unfoldable pub with_directory : List ℕ → List ℕ
with_directory s = in_place (summed_at 2 1) s

-- a file, by its answer number, bytes, extents, sectors and chain: six figures
abbrev pub filed : ℕ → ℕ → ℕ → ℕ → ℕ → List ℕ → List ℕ
filed answer bytes extents sectors chain s = greater_at 78 chain (summed_at (10 + 2 * answer) 1 (summed_at 8 sectors (summed_at 6 extents (summed_at 4 bytes (summed_at 0 1 s)))))

unfoldable pub with_file : ℕ → ℕ → ℕ → ℕ → ℕ → List ℕ → List ℕ
with_file answer bytes extents sectors chain s = in_place (filed answer bytes extents sectors chain) s

unfoldable pub with_image : ℕ → List ℕ → List ℕ
with_image answer s = in_place (summed_at (44 + 2 * answer) 1) s

-- A written image, for the calls of the vault.
use Rattle.std.specs.Prelude.{List, ℕ, ◌+◌, take, drop, get_or}
use Rattle.disc.specs.Images.{sectors_for}
use Rattle.writers.specs.Layout.{directory_size}
use Rattle.writers.specs.Refusing.{writes, names_in, sum}

-- the image
abbrev pub made : List ℕ → List ℕ → List ℕ → List ℕ → List ℕ
made names lengths staging lent = (writes names lengths staging lent).image

-- the names, one by one
abbrev pub called : List ℕ → List (List ℕ)
called names = names_in names

-- the i-th file: as many bytes as its length says, after those before it
abbrev pub file_at : List ℕ → List ℕ → ℕ → List ℕ
file_at lengths staging i = take (get_or lengths i 0) (drop (sum (take i lengths)) staging)

-- the sectors of the root: its entry and its directory
abbrev pub root_count : List ℕ → ℕ
root_count names = 1 + sectors_for (directory_size (called names))

-- An image kept sparse.
use Rattle.std.specs.Prelude.{◌≡◌, List, ◌++◌, ℕ, zero, suc, ◌+◌, min, length, take, drop, replicate, leb}
use Rattle.disc.specs.Choice.{pick}
use Rattle.disc.specs.Moves.{over}
use Rattle.records.specs.Bytes.{u32at}

-- a run written over an image from `at` on; what doesn't fit is left out
abbrev pub laid : List ℕ → ℕ → List ℕ → List ℕ
laid run at image = take at image ++ over run (drop at image)

-- the end of the run at i: a head of 8 bytes, then as many bytes as its second number says
abbrev pub behind : List ℕ → ℕ → ℕ
behind s i = i + 8 + u32at s (i + 4)

-- the same, or 0 where the run isn't whole
unfoldable pub run_end : List ℕ → ℕ → ℕ
run_end s i = pick (leb (behind s i) (length s)) (behind s i) 0

-- n runs from i on, each laid over what the ones before it gave; one that isn't whole is the end
unfoldable pub laid_runs : ℕ → List ℕ → ℕ → List ℕ → List ℕ
laid_runs zero s i image = image
laid_runs (suc n) s i image =
    pick (leb (behind s i) (length s))
    (laid_runs n s (behind s i) (laid (take (u32at s (i + 4)) (drop (i + 8) s)) (u32at s i) image))
    image

-- the image's length, or as much of it as there is room for; and its bytes, over zeros
pub record Expanded (packed before after : List ℕ) (r : ℕ) : Type 0 where
  pub size : r ≡ min (u32at packed 0) (length before)
  pub bytes : after ≡ laid_runs (u32at packed 4) packed 8 (replicate (length before) 0)

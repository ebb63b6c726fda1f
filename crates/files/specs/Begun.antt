-- Which extents a read begins (RULES 7.6), stated by reads alone. `visited`, the number in the bound of a read's sectors, is proved to be this one.
use Rattle.std.specs.Prelude.{ℕ, ◌≤◌, ◌<◌, min, ◌≡◌, List, ◌⊎◌, length, take}
use Rattle.disc.specs.Ask.Outcome.{answered}
use Rattle.disc.specs.Ran.{ran}
use Rattle.disc.specs.Images.{disc}
use Rattle.disc.specs.declared.places.Mount.{Mount}
use Rattle.areas.specs.declared.AllocExtent.{AllocExtent}
use Rattle.files.specs.Reads.{extents_bytes}

-- a read of `want` bytes begins the first n of the extents es
pub record Begins (image : List ℕ) (m : Mount) (es : List AllocExtent) (want n : ℕ) : Type 0 where
  -- these are enough: reading them alone has the same outcome and count
  pub alone : ran (disc image) (extents_bytes m (take n es) want) ≡ ran (disc image) (extents_bytes m es want)
  -- fewer of them have too few bytes
  pub needed : 0 < want → (k : ℕ) → k < n → (b : List ℕ) → (ran (disc image) (extents_bytes m (take k es) want)).outcome ≡ answered b → length b < want
  -- it stops where it has them, or where there are no more extents
  pub stops : (b : List ℕ) → (ran (disc image) (extents_bytes m es want)).outcome ≡ answered b → (length b ≡ want) ⊎ (n ≡ length es)
  -- for no bytes it begins only the first, if there is one
  pub first : want ≡ 0 → n ≡ min 1 (length es)
  pub few : n ≤ length es

-- How many sectors a chain asks for at most, and how many bytes its extents have in all.
use Rattle.std.specs.Prelude.{◌≤◌, ℕ}
use Rattle.disc.specs.Ask.{Ask, Disc, Outcome}
use Rattle.disc.specs.Ask.Outcome.{answered, refused}
use Rattle.disc.specs.Ran.{ran}
use Rattle.areas.specs.Areas.{Area}
use Rattle.areas.specs.Totals.{total}

-- a call that asks for at most n sectors, whatever the disc holds
pub record AtMost {A : Type 0} (n : ℕ) (m : Ask A) : Type 0 where
  pub most : (d : Disc) → (ran d m).count ≤ n

-- the size of the answer; 0 for a refusal
abbrev pub size_in : {A : Type 0} → (A → ℕ) → Outcome A → ℕ
size_in size (answered a) = size a
size_in size (refused r) = 0

-- a call whose answer has at most this size
pub record Within {A : Type 0} (size : A → ℕ) (n : ℕ) (m : Ask A) : Type 0 where
  pub most : (d : Disc) → size_in size (ran d m).outcome ≤ n

-- the bytes of an area's extents
abbrev pub held : Area → ℕ
held x = total x.extents

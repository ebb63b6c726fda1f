-- What following a chain reports (`Followed`): the run of the chain's tree.
use Rattle.std.specs.Prelude.{ℕ, ◌*◌, ◌≤◌, ◌≡◌, Bool, List, Result, Ok, Err}
use Rattle.disc.specs.Ask.Outcome.{answered, refused}
use Rattle.disc.specs.Ran.{Ran, ran}
use Rattle.disc.specs.Images.{disc}
use Rattle.disc.specs.Refusals.{number}
use Rattle.disc.specs.Replies.{Answer}
use Rattle.disc.specs.declared.places.Mount.{Mount}
use Rattle.disc.specs.declared.refusals.Refusal.{Refusal}
use Rattle.areas.specs.declared.AllocExtent.{AllocExtent}
use Rattle.areas.specs.declared.AdContinuation.{AdContinuation}
use Rattle.areas.specs.Areas.{area_at}
use Rattle.chains.specs.declared.cursors.ChainCursor.{ChainCursor}
use Rattle.chains.specs.Chains.{area_from, next_area, chain}
use Rattle.chains.specs.Inner.Walks.{area_place, area_size, next_there, left}
use Rattle.chains.specs.declared.continuations.NextArea.{NextArea}
use Rattle.disc.specs.declared.refusals.CountedRefusal.{CountedRefusal}

-- the next area was found in the image, or is refused, after n sectors
pub record FoundArea (image : List ℕ) (m : Mount) (a : AdContinuation) (at size n : ℕ) : Type 0 where
  pub runs : (kind : ℕ) → ran (disc image) (next_area m kind a) ≡ record { outcome = answered (area_at kind image at size); count = n }
  pub there : (kind : ℕ) → next_there image m kind a ≡ area_at kind image at size
  pub few : n ≤ 512

pub record NoArea (image : List ℕ) (m : Mount) (a : AdContinuation) (r : Refusal) (n : ℕ) : Type 0 where
  pub runs : (kind : ℕ) → ran (disc image) (next_area m kind a) ≡ record { outcome = refused r; count = n }
  pub few : n ≤ 512

abbrev pub Reaches : List ℕ → Mount → AdContinuation → Result NextArea CountedRefusal → Type 0
Reaches image m a (Ok x) = FoundArea image m a x.at x.size x.sectors
Reaches image m a (Err e) = NoArea image m a e.why e.count

-- the same for the bytes from a sector on
pub record FoundFrom (check : Bool) (image : List ℕ) (length first at size n : ℕ) : Type 0 where
  pub runs : (kind : ℕ) → ran (disc image) (area_from check kind length first) ≡ record { outcome = answered (area_at kind image at size); count = n }
  pub place : at ≡ area_place first
  pub says : size ≡ area_size image first
  pub few : n ≤ 512

pub record NoneFrom (check : Bool) (image : List ℕ) (length first : ℕ) (r : Refusal) (n : ℕ) : Type 0 where
  pub runs : (kind : ℕ) → ran (disc image) (area_from check kind length first) ≡ record { outcome = refused r; count = n }
  pub few : n ≤ 512

abbrev pub ReachesFrom : Bool → List ℕ → ℕ → ℕ → Result NextArea CountedRefusal → Type 0
ReachesFrom check image length first (Ok x) = FoundFrom check image length first x.at x.size x.sectors
ReachesFrom check image length first (Err e) = NoneFrom check image length first e.why e.count

-- the run of the rest of a chain, from a cursor on
abbrev pub chain_at : List ℕ → Mount → ℕ → ChainCursor → Ran (List AllocExtent)
chain_at image m kind c = ran (disc image) (chain m kind c.hops (area_at kind image c.at c.left))

-- the chain is whole, and its extents are those left at the cursor; or it is refused
pub record WholeChain (image : List ℕ) (m : Mount) (kind : ℕ) (c : ChainCursor) (n : ℕ) : Type 0 where
  pub runs : chain_at image m kind c ≡ record { outcome = answered (left image m kind c); count = n }
  pub few : n ≤ 512 * c.hops

pub record BrokenChain (image : List ℕ) (m : Mount) (kind : ℕ) (c : ChainCursor) (r : Refusal) (n : ℕ) : Type 0 where
  pub runs : chain_at image m kind c ≡ record { outcome = refused r; count = n }
  pub few : n ≤ 512 * c.hops

abbrev pub Followed : List ℕ → Mount → ℕ → ChainCursor → Result ℕ CountedRefusal → Type 0
Followed image m kind c (Ok n) = WholeChain image m kind c n
Followed image m kind c (Err e) = BrokenChain image m kind c e.why e.count

-- the answer number and how many sectors were asked for: RULES 12.3
abbrev pub chain_answer : Result ℕ CountedRefusal → Answer ℕ
chain_answer (Ok n) = record { number = 0; value = n }
chain_answer (Err e) = record { number = number e.why; value = e.count }

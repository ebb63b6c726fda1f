-- What a cursor stands for: the extents left of a chain, read from the image where its areas are. That these are the extents of a whole chain is
-- proved (proofs/FollowLaws.antt).
use Rattle.std.specs.Prelude.{ℕ, zero, suc, ◌+◌, ◌-◌, ◌*◌, ◌≤◌, ◌^◌, ◌≡◌, List, [], ◌++◌, length, eqb, Option, Some, None}
use Rattle.disc.specs.Choice.{pick}
use Rattle.disc.specs.Counts.{reported}
use Rattle.disc.specs.Places.{placed}
use Rattle.disc.specs.declared.places.Mount.{Mount}
use Rattle.records.specs.Bytes.{u32at}
use Rattle.areas.specs.declared.AllocExtent.{AllocExtent}
use Rattle.areas.specs.declared.AdContinuation.{AdContinuation}
use Rattle.areas.specs.declared.AdStep.{AdStep}
use Rattle.areas.specs.declared.AdStep.TheVariants.{Extent, Continuation as Continues, End as Stops, Refused as Refuses}
use Rattle.areas.specs.declared.AdEnding.{AdEnding}
use Rattle.areas.specs.declared.AdEnding.TheVariants.{End, Continuation, Refused}
use Rattle.areas.specs.Areas.{Area, ended, area_at, next_of}
use Rattle.chains.specs.declared.cursors.ChainCursor.{ChainCursor}
use Rattle.chains.specs.declared.cursors.ChainStep.{ChainStep}
use Rattle.chains.specs.declared.cursors.ChainStep.TheVariants.{Takes, Hops, Ends}
use Rattle.chains.specs.declared.counts.Counted.{Counted}

-- the area in the sectors from s on, as long as the header in front of it says
abbrev pub area_place : ℕ → ℕ
area_place s = 2048 * s + 24

abbrev pub area_size : List ℕ → ℕ → ℕ
area_size image s = u32at image (2048 * s + 20)

abbrev pub area_there : List ℕ → ℕ → Option ℕ → Area
area_there image kind None = ended End
area_there image kind (Some s) = area_at kind image (area_place s) (area_size image s)

abbrev pub next_there : List ℕ → Mount → ℕ → AdContinuation → Area
next_there image m kind a = area_there image kind (placed m a.partition_ref a.block.0)

-- the extents after an area, through at most n more areas
unfoldable pub beyond : List ℕ → Mount → ℕ → ℕ → AdEnding → List AllocExtent
beyond image m kind zero how = []
beyond image m kind (suc n) End = []
beyond image m kind (suc n) (Refused r) = []
beyond image m kind (suc n) (Continuation a) = (next_there image m kind a).extents ++ beyond image m kind n (next_there image m kind a).ending

-- the extents of an area, and those after it
abbrev pub through : List ℕ → Mount → ℕ → ℕ → Area → List AllocExtent
through image m kind n x = x.extents ++ beyond image m kind n x.ending

unfoldable pub left : List ℕ → Mount → ℕ → ChainCursor → List AllocExtent
left image m kind c = through image m kind c.hops (area_at kind image c.at c.left)

-- how many areas are followed after an area, at most n
abbrev pub one_more : Option ℕ → ℕ → ℕ
one_more None n = 0
one_more (Some s) n = suc n

unfoldable pub passed : List ℕ → Mount → ℕ → ℕ → AdEnding → ℕ
passed image m kind zero how = 0
passed image m kind (suc n) End = 0
passed image m kind (suc n) (Refused r) = 0
passed image m kind (suc n) (Continuation a) = one_more (placed m a.partition_ref a.block.0) (passed image m kind n (next_there image m kind a).ending)

unfoldable pub hops_at : List ℕ → Mount → ℕ → ChainCursor → ℕ
hops_at image m kind c = passed image m kind c.hops (area_at kind image c.at c.left).ending

-- what a step of a walk makes smaller
abbrev pub weight : ChainCursor → ℕ
weight c = c.hops * 2 ^ 32 + c.left

-- ---- a step

abbrev pub hop_to : List ℕ → Option ℕ → ℕ → ChainStep
hop_to image None hops = Ends
hop_to image (Some s) hops = Hops (record { at = area_place s; left = area_size image s; hops = hops - 1 })

abbrev pub hopping : List ℕ → Mount → AdContinuation → ℕ → ChainStep
hopping image m a hops = pick (eqb hops 0) Ends (hop_to image (placed m a.partition_ref a.block.0) hops)

abbrev pub stepped : List ℕ → Mount → ℕ → AdStep → ChainStep
stepped image m hops Stops = Ends
stepped image m hops (Refuses r) = Ends
stepped image m hops (Extent e c) = Takes e (record { at = c.at; left = c.left; hops = hops })
stepped image m hops (Continues a) = hopping image m a hops

unfoldable pub step_of : List ℕ → Mount → ℕ → ChainCursor → ChainStep
step_of image m kind c = stepped image m c.hops (next_of kind image (record { at = c.at; left = c.left }))

-- ---- what is left, counted: the hops still allowed and those made are all that were allowed

pub record Counts (image : List ℕ) (m : Mount) (kind : ℕ) (c : ChainCursor) (r : Counted) : Type 0 where
  pub extents : r.extents ≡ reported (length (left image m kind c))
  pub hops : r.hops + hops_at image m kind c ≡ c.hops
  pub few : length (left image m kind c) ≤ weight c

-- The place check: the returns of `is_in_place`, and what it comes to for a tag that the crossing places. Assumes nothing.
use Rattle.std.specs.Prelude.{Option, Some, None}
use Prim.Native.Nat.{ℕ, ◌+◌, ◌≤◌, ◌<◌}
use mathlib.Core.Path.{◌≡◌, refl, sym, ◌∙◌}
use mathlib.Core.Bool.{Bool, true, false, ◌&&◌}
use mathlib.Core.Logic.{◌⊎◌, inl, inr}
use native.Mathlib.Omega.{arith}
use lib.Dec.{eqb, leb}
use borrow.Author.Tests.{eq-eqb, eqb-true, le-leb, lt-leb}
use Rattle.disc.specs.Places.{sector_of, start_for, icb_start, crossing, placed, icb_placed}
use Rattle.disc.specs.declared.places.Mount.{Mount}
use Rattle.tags.specs.Tags.{of_partition, place_of, in_place}
use Rattle.tags.specs.declared.DescriptorTag.{DescriptorTag}
use Rattle.tags.specs.Heads.{Crossed}

-- ---- the returns of `is_in_place`

module _ (t : DescriptorTag) (sector block : ℕ) {p : Bool} (e : p ≡ of_partition t.id) where
  pub place-partition : p ≡ true → {r : Bool} → r ≡ eqb t.location block → r ≡ in_place t sector block
  unfolding in_place place_of
  place-partition h k = rw (← e, h) k

  pub place_other : p ≡ false → {r : Bool} → r ≡ eqb t.location sector → r ≡ in_place t sector block
  unfolding in_place place_of
  place_other h k = rw (← e, h) k

-- ---- which number the location must be, by the id

other-id : (id : ℕ) → (id < 256) ⊎ (266 < id) → of_partition id ≡ false
other-id id (inl l) = rw (lt-leb 256 id l)
other-id id (inr h) = by (leb 256 id)
  where
    by : (b : Bool) → (b && leb id 266) ≡ false
    by true = lt-leb id 266 h
    by false = refl

module _ (t : DescriptorTag) (sector block : ℕ) where
  -- an id of 256 to 266: the block's
  module _ (l : 256 ≤ t.id) (h : t.id ≤ 266) where
    its-block : in_place t sector block ≡ eqb t.location block
    unfolding in_place place_of
    its-block = simp (le-leb 256 t.id l, le-leb t.id 266 h)

    pub block-only : in_place t sector block ≡ true → t.location ≡ block
    block-only e = eqb-true t.location block (sym its-block ∙ e)

    pub block-enough : t.location ≡ block → in_place t sector block ≡ true
    block-enough e = its-block ∙ eq-eqb t.location block e

  -- any other id: the sector's
  module _ (o : (t.id < 256) ⊎ (266 < t.id)) where
    its-sector : in_place t sector block ≡ eqb t.location sector
    unfolding in_place place_of
    its-sector = rw (other-id t.id o)

    pub sector-only : in_place t sector block ≡ true → t.location ≡ sector
    sector-only e = eqb-true t.location sector (sym its-sector ∙ e)

    pub sector-enough : t.location ≡ sector → in_place t sector block ≡ true
    sector-enough e = its-sector ∙ eq-eqb t.location sector e

-- ---- a tag that the crossing places: block b of a partition that starts at `start` is sector start + b

module _ (m : Mount) (t : DescriptorTag) (block : ℕ) where
  crossed-at : {start sector : ℕ} → sector ≡ start + block → Crossed start t block sector
  crossed-at {start} {sector} e =
      record {
        of-partition = λ l h. (block-only t sector block l h, block-enough t sector block l h);
        of_other = λ o. ((λ p. sector-only t sector block o p ∙ e), (λ p. sector-enough t sector block o (p ∙ sym e)));
      }

  crossed-by : (o : Option ℕ) {start sector : ℕ} → o ≡ Some start → crossing block o ≡ Some sector → sector ≡ start + block
  crossed-by None f e = absurd (let z : ◌≡◌ {A = ℕ} 0 1 = cc in omega arith)
  crossed-by (Some s) {start} {sector} f e = let p : s ≡ start = cc in let q : sector ≡ s + block = cc in q ∙ rw p

  -- where a descriptor names no partition, that of its entry
  pub unnamed-crossed : {sector : ℕ} → placed m None block ≡ Some sector → Crossed m.start t block sector
  unfolding placed
  unnamed-crossed {sector} e = crossed-at (by e)
    where
      by : Some (sector_of m.start block) ≡ Some sector → sector ≡ m.start + block
      by q = cc

  -- under the reference that it gives
  pub placed-crossed : (p : ℕ) {start sector : ℕ} → start_for m p ≡ Some start → placed m (Some p) block ≡ Some sector → Crossed start t block sector
  unfolding placed
  placed-crossed p f e = crossed-at (crossed-by (start_for m p) f e)

  -- and of an ICB
  pub icb-crossed : (p : ℕ) {start sector : ℕ} → icb_start m p ≡ Some start → icb_placed m p block ≡ Some sector → Crossed start t block sector
  unfolding icb_placed
  icb-crossed p f e = crossed-at (crossed-by (icb_start m p) f e)

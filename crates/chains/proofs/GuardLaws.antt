-- A chain of a volume whose descriptors' bodies are checked is the chain without that check, with the header of each continuation marked where it is parsed.
-- Assumes nothing.
use Rattle.std.specs.Prelude.{Option, Some, None}
use mathlib.Core.Path.{◌≡◌, refl}
use mathlib.Core.Bool.{Bool, true, false}
use mathlib.Core.List.{List, []}
use Prim.Native.Nat.{ℕ, zero, suc, ◌+◌}
use native.Mathlib.Omega.{arith}
use lib.Dec.{ltb}
use Rattle.disc.specs.Choice.{pick}
use Rattle.disc.specs.Ask.{Ask, then}
use Rattle.disc.specs.Ask.Ask.{done, refuse}
use Rattle.disc.specs.Images.{sectors, sectors_for}
use Rattle.disc.specs.Places.{mapped_start, start_for, placed, is_checked, unchecked, standing}
use Rattle.disc.specs.declared.places.Mount.{Mount}
use Rattle.disc.specs.declared.refusals.Refusal.{Refusal}
use Rattle.disc.specs.declared.refusals.Refusal.TheVariants.{Malformed, Unsupported}
use Rattle.disc.proofs.AskLaws.{then-then, then-done}
use Rattle.disc.proofs.MarkedLaws.{done-guards, refuse-guards, ask-guards, then-guards}
use Rattle.records.specs.Bytes.{u32at}
use Rattle.tags.specs.Tags.{aed_after, read_aed}
use Rattle.tags.proofs.BodyLaws.{gate-guards}
use Rattle.areas.specs.declared.AdContinuation.{AdContinuation}
use Rattle.areas.specs.declared.AdEnding.{AdEnding}
use Rattle.areas.specs.declared.AdEnding.TheVariants.{End, Continuation, Refused}
use Rattle.areas.specs.Areas.{Area, area_at}
use Rattle.areas.proofs.AreaLaws.{area-refused}
use Rattle.chains.specs.Chains.{area_in, area_from, next_area, continued, chain}
use Rattle.disc.specs.Marks.{ButBad, Guards}
use Rattle.tags.specs.Heads.{right_at}

-- ---- trees in front of another

-- two trees with what comes behind each
record Before {A B : Type 0} (f f' : A → Ask B) (m m' : Ask A) : Type 0 where
  all : Guards right_at (then m f) (then m' f')

module _ {A B : Type 0} {f f' : A → Ask B} where
  refuse-before : (why : Refusal) → ButBad why → Before f f' (refuse why) (refuse why)
  unfolding then
  refuse-before why n = record { all = refuse-guards why n }

  pick-before : (t : Bool) {m n m' n' : Ask A} → Before f f' m m' → Before f f' n n' → Before f f' (pick t m n) (pick t m' n')
  pick-before true p q = p
  pick-before false p q = q

-- ---- sectors, where they stand, and areas in them

sectors-guards : {right : List ℕ → Bool} (n at : ℕ) → Guards right (sectors n at) (sectors n at)
unfolding sectors
sectors-guards zero at = done-guards []
sectors-guards (suc n) at = ask-guards at (λ b. then-guards (sectors-guards n (at + 1)) (λ rest. done-guards _))

pub placed-unchecked : (m : Mount) (r : Option ℕ) (block : ℕ) → placed (unchecked m) r block ≡ placed m r block
unfolding placed start_for mapped_start
placed-unchecked m None block = refl
placed-unchecked m (Some p) block = refl

-- no area of an image ends with a 10
pub area-ends : (kind : ℕ) (s : List ℕ) (i size : ℕ) (r : Refusal) → (area_at kind s i size).ending ≡ Refused r → ButBad r
area-ends kind s i size r e = rw (area-refused kind s i size e) (λ z. omega arith)

-- ---- the area that continues another, with what comes behind it: that has to do with areas of the image alone

module _ {B : Type 0} (kind : ℕ) (f f' : Area → Ask B) (h : (s : List ℕ) (i n : ℕ) → Guards right_at (f (area_at kind s i n)) (f' (area_at kind s i n))) where
  header-before : (size : ℕ) (s : List ℕ) → Guards right_at (then (area_in kind size s (read_aed true s)) f) (then (area_in kind size s (read_aed false s)) f')
  unfolding read_aed aed_after then
  header-before size s =
      gate-guards s 258 24 (λ r. then (area_in kind size s (aed_after s r)) f) (λ r. then (area_in kind size s (aed_after s r)) f') (λ r. refl) (λ r. refl)
      (λ t. (pick-before (ltb size (24 + u32at s 20)) (refuse-before Malformed (λ e. omega arith)) (record { all = h s 24 (u32at s 20) })).all)

  from-before : (length at : ℕ) → Before f f' (area_from true kind length at) (area_from false kind length at)
  unfolding area_from
  from-before length at =
      pick-before (ltb length 24) (refuse-before Malformed (λ e. omega arith))
      (pick-before (ltb 1048576 length) (refuse-before Unsupported (λ e. omega arith))
      (record { all = simp then-then (then-guards (sectors-guards (sectors_for length) at) (λ s. header-before length s)) }))

  next-before : (m : Mount) → is_checked m ≡ true → (a : AdContinuation) → Guards right_at (then (next_area m kind a) f) (then (next_area (unchecked m) kind a) f')
  unfolding next_area
  next-before m c a = rw (c, placed-unchecked m) (by (placed m a.partition_ref a.block.0)).all
    where
      by : (o : Option ℕ) → Before f f' (standing o (area_from true kind a.length)) (standing o (area_from false kind a.length))
      by None = refuse-before Unsupported (λ e. omega arith)
      by (Some s) = from-before a.length s

-- ---- the chain

module _ (m : Mount) (c : is_checked m ≡ true) (kind : ℕ) where
  pub next-guards : (a : AdContinuation) → Guards right_at (next_area m kind a) (next_area (unchecked m) kind a)
  next-guards a = simp then-done at (next-before kind done done (λ s i n. done-guards (area_at kind s i n)) m c a)

  -- behind an area that doesn't end with a 10
  continued-guards : (n : ℕ) (e : AdEnding) → ((r : Refusal) → e ≡ Refused r → ButBad r) → Guards right_at (continued m kind n e) (continued (unchecked m) kind n e)
  unfolding continued
  continued-guards zero End p = done-guards []
  continued-guards zero (Refused r) p = refuse-guards r (p r refl)
  continued-guards zero (Continuation a) p = refuse-guards Malformed (λ e. omega arith)
  continued-guards (suc n) End p = done-guards []
  continued-guards (suc n) (Refused r) p = refuse-guards r (p r refl)
  continued-guards (suc n) (Continuation a) p =
      next-before kind _ _ (λ s i k. then-guards (continued-guards n (area_at kind s i k).ending (area-ends kind s i k)) (λ more. done-guards _)) m c a

  pub chain-guards : (n : ℕ) (x : Area) → ((r : Refusal) → x.ending ≡ Refused r → ButBad r) → Guards right_at (chain m kind n x) (chain (unchecked m) kind n x)
  chain-guards n x p = then-guards (continued-guards n x.ending p) (λ more. done-guards _)

-- How many bytes the extents of a chain say that they hold, on any disc: at most 2^47 for each continuation. Assumes nothing.
use Rattle.std.specs.Prelude.{Option, Some, None, Result, Ok, Err}
use mathlib.Core.Path.{◌≡◌, refl}
use mathlib.Core.Bool.{Bool, true, false}
use mathlib.Core.List.{List, [], ◌++◌}
use Prim.Native.Nat.{ℕ, zero, suc, ◌+◌, ◌*◌, ◌≤◌, ◌^◌}
use native.Mathlib.Nat.{suc-mul}
use native.Mathlib.Omega.{arith}
use lib.Dec.{ltb}
use borrow.Author.Tests.{ltb-false}
use Rattle.disc.specs.Choice.{pick}
use Rattle.disc.specs.Ask.{Disc, Ask, Outcome, then}
use Rattle.disc.specs.Ask.Ask.{done, refuse}
use Rattle.disc.specs.Ask.Outcome.{answered, refused}
use Rattle.disc.specs.Ran.{ran, onward}
use Rattle.disc.specs.Images.{sectors, sectors_for}
use Rattle.disc.specs.Places.{placed, is_checked, standing}
use Rattle.disc.specs.declared.places.Mount.{Mount}
use Rattle.disc.specs.declared.refusals.Refusal.{Refusal}
use Rattle.disc.specs.declared.refusals.Refusal.TheVariants.{Malformed, Unsupported}
use Rattle.disc.proofs.RanLaws.{ran-done, ran-refuse, ran_then}
use Rattle.tags.specs.Tags.{read_aed}
use Rattle.areas.specs.declared.AllocExtent.{AllocExtent}
use Rattle.areas.specs.declared.AdContinuation.{AdContinuation}
use Rattle.areas.specs.declared.AdEnding.{AdEnding}
use Rattle.areas.specs.declared.AdEnding.TheVariants.{End, Continuation, Refused}
use Rattle.areas.specs.Areas.{Area}
use Rattle.areas.proofs.TotalLaws.{total-append, area-total}
use Rattle.chains.specs.Chains.{area_in, area_from, next_area, continued, chain}
use Rattle.areas.specs.Totals.{total}
use Rattle.chains.specs.Totals.{size_in, Within, held}
use Rattle.tags.specs.declared.AllocationExtentDescriptor.{AllocationExtentDescriptor}

-- ---- a tree whose answers have at most a size, whatever it is given

module _ {A : Type 0} (size : A → ℕ) (n : ℕ) where
  done-within : (a : A) → size a ≤ n → Within size n (done a)
  done-within a h = record { most = λ d. rw ran-done h }

  refuse-within : (r : Refusal) → Within size n (refuse r)
  refuse-within r = record { most = λ d. rw ran-refuse (omega arith) }

  pick-within : (b : Bool) {x y : Ask A} → (b ≡ true → Within size n x) → (b ≡ false → Within size n y) → Within size n (pick b x y)
  pick-within true p q = p refl
  pick-within false p q = q refl

  then-within : {B : Type 0} (m : Ask B) (f : B → Ask A) → ((d : Disc) (b : B) → (ran d m).outcome ≡ answered b → Within size n (f b)) → Within size n (then m f)
  then-within {B} m f h = record { most = λ d. rw ran_then (by d (ran d m).outcome (ran d m).count (h d)) }
    where
      by : (d : Disc) (o : Outcome B) (c : ℕ) → ((b : B) → o ≡ answered b → Within size n (f b)) → size_in size (onward o c (λ b. ran d (f b))).outcome ≤ n
      by d (answered b) c g = (g b refl).most d
      by d (refused r) c g = omega arith

-- ---- the chain

module _ (v : Mount) (kind : ℕ) where
  area-within : (size : ℕ) (s : List ℕ) (r : Result AllocationExtentDescriptor Refusal) → size ≤ 1048576 → Within held (2 ^ 47) (area_in kind size s r)
  area-within size s (Err r) l = refuse-within held (2 ^ 47) r
  area-within size s (Ok h) l = pick-within held (2 ^ 47) (ltb size (24 + h.length_of_allocation_descriptors)) (λ t. refuse-within held (2 ^ 47) Malformed)
      (λ t. done-within held (2 ^ 47) _ (omega (arith, ltb-false size (24 + h.length_of_allocation_descriptors) t, area-total kind s 24 h.length_of_allocation_descriptors)))

  from-within : (check : Bool) (length at : ℕ) → Within held (2 ^ 47) (area_from check kind length at)
  unfolding area_from
  from-within check length at =
      pick-within held (2 ^ 47) (ltb length 24) (λ t. refuse-within held (2 ^ 47) Malformed) (λ t.
      pick-within held (2 ^ 47) (ltb 1048576 length) (λ t. refuse-within held (2 ^ 47) Unsupported) (λ t.
      then-within held (2 ^ 47) (sectors (sectors_for length) at) _ (λ d s e. area-within length s (read_aed check s) (ltb-false 1048576 length t))))

  next-within : (a : AdContinuation) → Within held (2 ^ 47) (next_area v kind a)
  unfolding next_area
  next-within a = by (placed v a.partition_ref a.block.0)
    where
      by : (o : Option ℕ) → Within held (2 ^ 47) (standing o (area_from (is_checked v) kind a.length))
      by None = refuse-within held (2 ^ 47) Unsupported
      by (Some at) = from-within (is_checked v) a.length at

  -- more extents behind some
  joined-within : (n k : ℕ) (es : List AllocExtent) (m : Ask (List AllocExtent)) → total es ≤ k → Within total n m → Within total (n + k) (then m (λ more. done (es ++ more)))
  joined-within n k es m h p = then-within total (n + k) m _ (λ d more e. done-within total (n + k) _ (rw total-append (let g : total more ≤ n = rw e at (p.most d) in omega arith)))

  continued-within : (n : ℕ) (how : AdEnding) → Within total (n * 2 ^ 47) (continued v kind n how)
  unfolding continued total
  continued-within zero End = done-within total _ [] (omega arith)
  continued-within zero (Refused r) = refuse-within total _ r
  continued-within zero (Continuation a) = refuse-within total _ Malformed
  continued-within (suc n) End = done-within total _ [] (omega arith)
  continued-within (suc n) (Refused r) = refuse-within total _ r
  continued-within (suc n) (Continuation a) = rw suc-mul (then-within total _ (next_area v kind a) _ (λ d x e.
      joined-within (n * 2 ^ 47) (2 ^ 47) x.extents _ (rw e at ((next-within a).most d)) (continued-within n x.ending)))

  pub chain-within : (n k : ℕ) (x : Area) → held x ≤ k → Within total (n * 2 ^ 47 + k) (chain v kind n x)
  chain-within n k x h = joined-within (n * 2 ^ 47) k x.extents _ h (continued-within n x.ending)

-- How many sectors a chain asks for, on any disc: at most 512 for each continuation. Assumes nothing.
use Rattle.std.specs.Prelude.{Option, Some, None, Result, Ok, Err}
use mathlib.Core.Path.{◌≡◌, refl}
use mathlib.Core.Bool.{Bool, true, false}
use mathlib.Core.List.{List, [], ◌++◌}
use Prim.Native.Nat.{ℕ, zero, suc, ◌+◌, ◌*◌, ◌≤◌}
use native.Mathlib.Omega.{arith}
use lib.Dec.{ltb}
use borrow.Author.Tests.{ltb-false}
use Rattle.disc.specs.Choice.{pick}
use Rattle.disc.specs.Ask.{Disc, Ask, Outcome, Held, then}
use Rattle.disc.specs.Ask.Held.{holds, lacks}
use Rattle.disc.specs.Ask.Ask.{done, refuse, ask}
use Rattle.disc.specs.Ask.Outcome.{answered, refused}
use Rattle.disc.specs.Ran.{ran, onward}
use Rattle.disc.specs.Images.{sectors, sectors_for}
use Rattle.disc.specs.Places.{placed, is_checked, standing}
use Rattle.disc.specs.declared.places.Mount.{Mount}
use Rattle.disc.specs.declared.refusals.Refusal.{Refusal}
use Rattle.disc.specs.declared.refusals.Refusal.TheVariants.{Malformed, Unsupported}
use Rattle.disc.proofs.RanLaws.{ran-done, ran-refuse, ran-there, ran-missing, ran_then}
use Rattle.tags.specs.Tags.{read_aed}
use Rattle.areas.specs.declared.AdContinuation.{AdContinuation}
use Rattle.areas.specs.declared.AdEnding.{AdEnding}
use Rattle.areas.specs.declared.AdEnding.TheVariants.{End, Continuation, Refused}
use Rattle.areas.specs.Areas.{Area}
use Rattle.chains.specs.Chains.{area_in, area_from, next_area, continued, chain}
use Rattle.chains.specs.Totals.{AtMost}
use Rattle.tags.specs.declared.AllocationExtentDescriptor.{AllocationExtentDescriptor}

-- ---- a tree that asks for at most n sectors, whatever it is given

module _ {A : Type 0} where
  pub done-asks : (a : A) (n : ℕ) → AtMost n (done a)
  done-asks a n = record { most = λ d. rw ran-done (omega arith) }

  pub refuse-asks : (r : Refusal) (n : ℕ) → AtMost {A = A} n (refuse r)
  refuse-asks r n = record { most = λ d. rw ran-refuse (omega arith) }

  pub fewer-asks : {m : Ask A} (k n : ℕ) → k ≤ n → AtMost k m → AtMost n m
  fewer-asks k n h p = record { most = λ d. omega (arith, p.most d) }

  pub pick-asks : (b : Bool) {x y : Ask A} (n : ℕ) → AtMost n x → AtMost n y → AtMost n (pick b x y)
  pick-asks true n p q = p
  pick-asks false n p q = q

  pub ask-asks : (s : ℕ) (k : List ℕ → Ask A) (n : ℕ) → ((b : List ℕ) → AtMost n (k b)) → AtMost (suc n) (ask s k)
  ask-asks s k n h = record { most = λ d. by d (d s) refl }
    where
      by : (d : Disc) (x : Held) → d s ≡ x → (ran d (ask s k)).count ≤ suc n
      by d (holds b) e = rw (ran-there d s k b e) (omega (arith, (h b).most d))
      by d lacks e = rw (ran-missing d s k e) (omega arith)

  pub then-asks : {B : Type 0} (m : Ask A) (f : A → Ask B) (n k : ℕ) → AtMost n m → ((a : A) → AtMost k (f a)) → AtMost (n + k) (then m f)
  then-asks {B} m f n k h g = record { most = λ d. rw ran_then (by d (ran d m).outcome (ran d m).count (h.most d)) }
    where
      by : (d : Disc) (o : Outcome A) (c : ℕ) → c ≤ n → (onward o c (λ a. ran d (f a))).count ≤ n + k
      by d (answered a) c l = omega (arith, (g a).most d)
      by d (refused a) c l = omega arith

-- ---- the chain

sectors-asks : (n at : ℕ) → AtMost n (sectors n at)
unfolding sectors
sectors-asks zero at = done-asks [] 0
sectors-asks (suc n) at =
    ask-asks at _ n (λ b. fewer-asks (n + 0) n (omega arith)
    (then-asks (sectors n (at + 1)) _ n 0 (sectors-asks n (at + 1)) (λ r. done-asks (b ++ r) 0)))

area-asks : (kind size : ℕ) (s : List ℕ) (r : Result AllocationExtentDescriptor Refusal) → AtMost 0 (area_in kind size s r)
area-asks kind size s (Err r) = refuse-asks r 0
area-asks kind size s (Ok h) = pick-asks (ltb size (24 + h.length_of_allocation_descriptors)) 0 (refuse-asks Malformed 0) (done-asks _ 0)

from-asks : (check : Bool) (kind length at : ℕ) → AtMost 512 (area_from check kind length at)
unfolding area_from
from-asks check kind length at = pick-asks (ltb length 24) 512 (refuse-asks Malformed 512) (by (ltb 1048576 length) refl)
  where
    by : (b : Bool) → ltb 1048576 length ≡ b → AtMost 512 (pick b (refuse Unsupported) (then (sectors (sectors_for length) at) (λ s. area_in kind length s (read_aed check s))))
    by true t = refuse-asks Unsupported 512
    by false t =
        fewer-asks (sectors_for length + 0) 512 (omega (arith, ltb-false 1048576 length t))
        (then-asks _ _ (sectors_for length) 0 (sectors-asks _ _) (λ s. area-asks kind length s (read_aed check s)))

pub standing-asks : {A : Type 0} (o : Option ℕ) (f : ℕ → Ask A) (n : ℕ) → ((s : ℕ) → AtMost n (f s)) → AtMost n (standing o f)
standing-asks None f n h = refuse-asks Unsupported n
standing-asks (Some s) f n h = h s

next-asks : (m : Mount) (kind : ℕ) (e : AdContinuation) → AtMost 512 (next_area m kind e)
unfolding next_area
next-asks m kind e = standing-asks (placed m e.partition_ref e.block.0) _ 512 (from-asks (is_checked m) kind e.length)

continued-asks : (m : Mount) (kind n : ℕ) (how : AdEnding) → AtMost (512 * n) (continued m kind n how)
unfolding continued
continued-asks m kind zero End = done-asks [] _
continued-asks m kind zero (Refused r) = refuse-asks r _
continued-asks m kind zero (Continuation e) = refuse-asks Malformed _
continued-asks m kind (suc n) End = done-asks [] _
continued-asks m kind (suc n) (Refused r) = refuse-asks r _
continued-asks m kind (suc n) (Continuation e) =
    fewer-asks (512 + (512 * n + 0)) (512 * suc n) (omega arith)
    (then-asks _ _ 512 (512 * n + 0) (next-asks m kind e)
    (λ a. then-asks _ _ (512 * n) 0 (continued-asks m kind n a.ending) (λ more. done-asks _ 0)))

pub chain-asks : (m : Mount) (kind n : ℕ) (x : Area) → AtMost (512 * n) (chain m kind n x)
chain-asks m kind n x =
    fewer-asks (512 * n + 0) (512 * n) (omega arith)
    (then-asks _ _ (512 * n) 0 (continued-asks m kind n x.ending) (λ more. done-asks (x.extents ++ more) 0))

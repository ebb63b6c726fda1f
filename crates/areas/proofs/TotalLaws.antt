-- How many bytes the extents of an area say that they hold: a descriptor of 8 bytes or more says less than 2^30. Assumes nothing.
use mathlib.Core.Path.{◌≡◌, refl}
use mathlib.Core.Bool.{Bool, true, false}
use mathlib.Core.List.{List, [], ◌∷◌, ◌++◌}
use Prim.Native.Nat.{ℕ, zero, suc, ◌+◌, ◌*◌, ◌/◌, ◌≤◌, ◌<◌, ◌^◌}
use native.Mathlib.Nat.{suc-mul, div-mul-le_self}
use native.Mathlib.Omega.{arith}
use lib.Dec.{eqb}
use borrow.Author.Tests.{eqb-true}
use Rattle.disc.specs.Choice.{pick}
use Rattle.records.specs.Allocations.{short_of, long_of, ext_of}
use Rattle.areas.specs.declared.AllocExtent.{AllocExtent}
use Rattle.areas.specs.declared.AdContinuation.{AdContinuation}
use Rattle.areas.specs.declared.Descriptor.{Descriptor}
use Rattle.areas.specs.declared.Descriptor.TheVariants.{Stop, Data, Continued, Compressed}
use Rattle.areas.specs.Areas.{size_of, descriptor_of, short_descriptor, long_descriptor, ext_descriptor, descriptor_at, Area, behind, descriptors, area_at}
use Rattle.areas.proofs.AreaLaws.{some_size}
use Rattle.areas.specs.Totals.{total}

pub total-append : (a b : List AllocExtent) → total (a ++ b) ≡ total a + total b
unfolding total
total-append [] b = omega arith
total-append (e ∷ a) b = rw (total-append a b) (omega arith)

-- the length of a descriptor's extent, if it has one
abbrev data_length : Descriptor → ℕ
data_length Stop = 0
data_length (Data e) = e.length
data_length (Continued a) = 0
data_length Compressed = 0

-- a raw length has 30 bits, and an ext_ad's information length counts where it equals the recorded one, which has as many
one-small : (stored : AllocExtent) (whole : Bool) (e : AllocExtent) → (whole ≡ true → e.length < 2 ^ 30) → data_length (descriptor_of stored whole e) < 2 ^ 30
unfolding descriptor_of
one-small stored whole e h = each (eqb stored.length 0) (eqb stored.extent_type 3) whole _ h
  where
    each : (a b c : Bool) (k : AdContinuation) → (c ≡ true → e.length < 2 ^ 30) → data_length (pick a Stop (pick b (Continued k) (pick c (Data e) Compressed))) < 2 ^ 30
    each true b c k g = omega arith
    each false true c k g = omega arith
    each false false true k g = g refl
    each false false false k g = omega arith

descriptor-small : (kind : ℕ) (s : List ℕ) (i : ℕ) → data_length (descriptor_at kind s i) < 2 ^ 30
unfolding descriptor_at
descriptor-small kind s i = each (eqb kind 0) (eqb kind 1)
  where
    each : (a b : Bool) → data_length (pick a (short_descriptor (short_of s i)) (pick b (long_descriptor (long_of s i)) (ext_descriptor (ext_of s i)))) < 2 ^ 30
    each true b = one-small _ _ _ (λ e. omega arith)
    each false true = one-small _ _ _ (λ e. omega arith)
    each false false = one-small _ _ _ (λ e. omega (arith, eqb-true (ext_of s i).recorded_length (ext_of s i).information_length e))

descriptors-small : (n kind : ℕ) (s : List ℕ) (i : ℕ) → total (descriptors n kind s i).extents ≤ n * size_of kind * 2 ^ 27
unfolding descriptors total
descriptors-small zero kind s i = omega arith
descriptors-small (suc n) kind s i = rw suc-mul (by (descriptor_at kind s i) (descriptors n kind s (i + size_of kind)) (descriptor-small kind s i) (descriptors-small n kind s (i + size_of kind)))
  where
    by : (d : Descriptor) (x : Area) → data_length d < 2 ^ 30 → total x.extents ≤ n * size_of kind * 2 ^ 27
        → total (behind d x).extents ≤ (n * size_of kind + size_of kind) * 2 ^ 27
    by Stop x h k = omega arith
    by (Data e) x h k = omega (arith, some_size kind)
    by (Continued a) x h k = omega arith
    by Compressed x h k = omega arith

-- 2^27 for each byte of an area
pub area-total : (kind : ℕ) (s : List ℕ) (i size : ℕ) → total (area_at kind s i size).extents ≤ size * 2 ^ 27
unfolding area_at
area-total kind s i size = omega (arith, descriptors-small (size / size_of kind) kind s i, div-mul-le_self size (size_of kind))

-- What stands in a part of an image stands in the image. Assumes nothing.
use mathlib.Core.Path.{◌≡◌, refl, ◌∙◌}
use mathlib.Core.Bool.{Bool, true, false}
use mathlib.Core.List.{List}
use Prim.Native.Nat.{ℕ, zero, suc, ◌+◌, ◌-◌, ◌*◌, ◌/◌, ◌≤◌, ◌<◌}
use native.Mathlib.Nat.{add-zero, add_assoc, add_comm, suc-mul, div-mul-le_self}
use native.Mathlib.Omega.{arith}
use lib.ListN.{take, drop}
use lib.Seq.{get_or-take, get_or-drop}
use lib.Dec.{eqb}
use Rattle.disc.specs.Choice.{pick}
use Rattle.records.specs.Bytes.{byte, u16at, u32at}
use Rattle.records.specs.Allocations.{short_of, long_of, ext_of}
use Rattle.areas.specs.Areas.{size_of, short_descriptor, long_descriptor, ext_descriptor, descriptor_at, descriptors, area_at}

-- the same bytes in two lists, n of them from i on and from k on
abbrev pub Same : List ℕ → List ℕ → ℕ → ℕ → ℕ → Type 0
Same s t i k n = (j : ℕ) → j < n → byte s (i + j) ≡ byte t (k + j)

-- a part of an image
pub same-part : (image : List ℕ) (from m i n : ℕ) → i + n ≤ m → Same (take m (drop from image)) image i (from + i) n
same-part image from m i n h j g = get_or-take m (drop from image) (i + j) 0 (omega arith) ∙ get_or-drop from image (i + j) 0 ∙ rw add_assoc

module _ (s t : List ℕ) where
  -- some of them, a bytes on
  pub same-on : (i k n a b : ℕ) → a + b ≤ n → Same s t i k n → Same s t (i + a) (k + a) b
  same-on i k n a b h f j g = rw (add_assoc i a j, add_assoc k a j) (f (a + j) (omega arith))

  same_first : (i k n : ℕ) → 0 < n → Same s t i k n → byte s i ≡ byte t k
  same_first i k n h f = rw (add-zero i, add-zero k) at (f 0 h)

  pub same-u16 : (i k n : ℕ) → 2 ≤ n → Same s t i k n → u16at s i ≡ u16at t k
  same-u16 i k n h f = rw (same_first i k n (omega arith) f, f 1 (omega arith))

  pub same-u32 : (i k n : ℕ) → 4 ≤ n → Same s t i k n → u32at s i ≡ u32at t k
  same-u32 i k n h f = rw (same_first i k n (omega arith) f, f 1 (omega arith), f 2 (omega arith), f 3 (omega arith))

  -- ---- the same descriptors

  module _ (i k : ℕ) where
    short-same : Same s t i k 8 → short_descriptor (short_of s i) ≡ short_descriptor (short_of t k)
    short-same f = rw (same-u32 i k 8 (omega arith) f, same-u32 (i + 4) (k + 4) 4 (omega arith) (same-on i k 8 4 4 (omega arith) f))

    long_same : Same s t i k 16 → long_descriptor (long_of s i) ≡ long_descriptor (long_of t k)
    long_same f =
        rw (
          same-u32 i k 16 (omega arith) f,
          same-u32 (i + 4) (k + 4) 4 (omega arith) (same-on i k 16 4 4 (omega arith) f),
          same-u16 (i + 8) (k + 8) 2 (omega arith) (same-on i k 16 8 2 (omega arith) f),
        )

    ext_same : Same s t i k 20 → ext_descriptor (ext_of s i) ≡ ext_descriptor (ext_of t k)
    ext_same f =
        rw (
          same-u32 i k 20 (omega arith) f,
          same-u32 (i + 4) (k + 4) 4 (omega arith) (same-on i k 20 4 4 (omega arith) f),
          same-u32 (i + 8) (k + 8) 4 (omega arith) (same-on i k 20 8 4 (omega arith) f),
          same-u32 (i + 12) (k + 12) 4 (omega arith) (same-on i k 20 12 4 (omega arith) f),
          same-u16 (i + 16) (k + 16) 2 (omega arith) (same-on i k 20 16 2 (omega arith) f),
        )

    same-descriptor : (kind : ℕ) → Same s t i k (size_of kind) → descriptor_at kind s i ≡ descriptor_at kind t k
    unfolding descriptor_at size_of
    same-descriptor kind f = each (eqb kind 0) (eqb kind 1) f
      where
        each : (a b : Bool) → Same s t i k (pick a 8 (pick b 16 20))
            → pick a (short_descriptor (short_of s i)) (pick b (long_descriptor (long_of s i)) (ext_descriptor (ext_of s i)))
            ≡ pick a (short_descriptor (short_of t k)) (pick b (long_descriptor (long_of t k)) (ext_descriptor (ext_of t k)))
        each true b f = short-same f
        each false true f = long_same f
        each false false f = ext_same f

  same-descriptors : (n kind i k m : ℕ) → n * size_of kind ≤ m → Same s t i k m → descriptors n kind s i ≡ descriptors n kind t k
  unfolding descriptors
  same-descriptors zero kind i k m h f = refl
  same-descriptors (suc n) kind i k m h f =
      let g : size_of kind + n * size_of kind ≤ m = rw (suc-mul, add_comm) at h in
      rw (
        same-descriptor i k kind (λ j q. f j (omega arith)),
        same-descriptors n kind (i + size_of kind) (k + size_of kind) (m - size_of kind) (omega arith)
            (same-on i k m (size_of kind) (m - size_of kind) (omega arith) f),
      )

  pub same_area : (kind i k size : ℕ) → Same s t i k size → area_at kind s i size ≡ area_at kind t k size
  unfolding area_at
  same_area kind i k size f = same-descriptors (size / size_of kind) kind i k size (div-mul-le_self size (size_of kind)) f

-- an area in a part of an image is that area of the image
pub area-in-part : (image : List ℕ) (from m kind i size : ℕ) → i + size ≤ m → area_at kind (take m (drop from image)) i size ≡ area_at kind image (from + i) size
area-in-part image from m kind i size h = same_area (take m (drop from image)) image kind i (from + i) size (same-part image from m i size h)

-- Encoding what was read gives the same bytes, and reading what was encoded gives what encoding keeps: for each record, with its exceptions.
-- Assumes nothing.
use Rattle.std.specs.Prelude.{Ok, Err}
use Prim.Native.Nat.{ℕ, ◌+◌, ◌*◌, ◌<◌, ◌≤◌, ◌^◌}
use mathlib.Core.Path.{◌≡◌, ap, sym, ◌∙◌}
use mathlib.Core.List.{List, ◌++◌}
use native.Mathlib.Nat.{mod-eq_of_lt}
use native.Mathlib.Omega.{arith}
use lib.Dec.{lit<}
use lib.ListN.{length, take}
use lib.Seq.{take_all, get_or-take}
use Rattle.disc.proofs.PickLaws.{picked-size}
use Rattle.disc.specs.declared.refusals.Refusal.TheVariants.{Malformed}
use Rattle.records.specs.Bytes.{byte, u16at, u32at, le16, le32, two, six}
use Rattle.records.specs.Allocations.{length_in, type_in, raw_of, extent_of, read_extent, encode_extent, short_of, read_short, encode_short, address_of, read_address, encode_address, long_of, read_long, encode_long, ext_of, read_ext, encode_ext}
use Rattle.records.specs.Kept.{ExtentValue, ShortValue, AddressValue, LongValue, ExtValue, kept_length, kept_type, kept_short, kept_long, kept_ext}
use Rattle.records.specs.declared.allocations.ExtentAd.{ExtentAd}
use Rattle.records.specs.declared.allocations.ShortAd.{ShortAd}
use Rattle.records.specs.declared.allocations.LbAddr.{LbAddr}
use Rattle.records.specs.declared.allocations.LongAd.{LongAd}
use Rattle.records.specs.declared.allocations.ExtAd.{ExtAd}
use Rattle.records.proofs.Numbers.{u16-le16, u32-le32, le16-u16, le32-u32, u32-fits, raw-whole, from, from-take}
use Rattle.disc.specs.Parts.{Bytes}

-- ---- for every record

-- a list of n bytes is its n bytes
from-whole : (s : List ℕ) (n : ℕ) → length s ≡ n → from s 0 n ≡ s
from-whole s n e = from-take s n (omega arith) ∙ take_all n s (omega arith)

-- what is read of an encoded raw length
module _ (n type : ℕ) where
  raw-small : raw_of n type < 2 ^ 32
  raw-small = omega arith

  raw-length : length_in (u32at (le32 (raw_of n type)) 0) ≡ kept_length n
  raw-length = rw (u32-le32 (raw_of n type) raw-small) (omega arith)

  raw-type : type_in (u32at (le32 (raw_of n type)) 0) ≡ kept_type type
  raw-type = rw (u32-le32 (raw_of n type) raw-small) (omega arith)

-- ---- extent_ad

pub extent-again : (a : ExtentAd) → ExtentValue a → read_extent (encode_extent a) ≡ Ok a
extent-again a h = λ i. Ok (record { length = u32-le32 a.length h.length i; location = u32-le32 a.location h.location i })

pub extent-back : (s : List ℕ) → Bytes s → (a : ExtentAd) → read_extent s ≡ Ok a → encode_extent a ≡ take 8 s
extent-back s h a e =
    let p = picked-size 8 s (Ok (extent_of s 0)) (Err Malformed) (Ok a) e (λ f. let z : ◌≡◌ {A = ℕ} 0 1 = cc in omega arith) in
    let q : extent_of s 0 ≡ a = cc in
    ap encode_extent (sym q) ∙ (λ i. le32-u32 s h 0 i ++ le32-u32 s h 4 i) ∙ from-take s 8 p.0

-- ---- short_ad

pub short-kept : (a : ShortAd) → ShortValue a → read_short (encode_short a) ≡ Ok (kept_short a)
short-kept a h = λ i.
    Ok (record {
      length = raw-length a.length a.extent_type i;
      extent_type = raw-type a.length a.extent_type i;
      block_location = u32-le32 a.block_location h.block i;
    })

pub short-again : (a : ShortAd) → ShortValue a → a.length < 2 ^ 30 → a.extent_type < 4 → read_short (encode_short a) ≡ Ok a
short-again a h l t = short-kept a h ∙ (λ i. Ok (record { length = mod-eq_of_lt l i; extent_type = mod-eq_of_lt t i; block_location = a.block_location }))

pub short_back : (s : List ℕ) → Bytes s → (a : ShortAd) → read_short s ≡ Ok a → encode_short a ≡ take 8 s
short_back s h a e =
    let p = picked-size 8 s (Ok (short_of s 0)) (Err Malformed) (Ok a) e (λ f. let z : ◌≡◌ {A = ℕ} 0 1 = cc in omega arith) in
    let q : short_of s 0 ≡ a = cc in
    ap encode_short (sym q)
    ∙ ap (λ (n : ℕ). le32 n ++ le32 (u32at s 4)) (raw-whole (u32at s 0) (u32-fits s h 0))
    ∙ (λ i. le32-u32 s h 0 i ++ le32-u32 s h 4 i)
    ∙ from-take s 8 p.0

-- ---- lb_addr

address_same : (a : LbAddr) → AddressValue a → record { block = u32at (le32 a.block) 0; partition_ref = u16at (le16 a.partition_ref) 0 } ≡ a
address_same a h = λ i. record { block = u32-le32 a.block h.block i; partition_ref = u16-le16 a.partition_ref h.partition i }

pub address-again : (a : LbAddr) → AddressValue a → read_address (encode_address a) ≡ Ok a
address-again a h = ap Ok (address_same a h)

pub address-back : (s : List ℕ) → Bytes s → (a : LbAddr) → read_address s ≡ Ok a → encode_address a ≡ take 6 s
address-back s h a e =
    let p = picked-size 6 s (Ok (address_of s 0)) (Err Malformed) (Ok a) e (λ f. let z : ◌≡◌ {A = ℕ} 0 1 = cc in omega arith) in
    let q : address_of s 0 ≡ a = cc in
    ap encode_address (sym q) ∙ (λ i. le32-u32 s h 0 i ++ le16-u16 s h 4 i) ∙ from-take s 6 p.0

-- ---- long_ad

pub long_kept : (a : LongAd) → LongValue a → read_long (encode_long a) ≡ Ok (kept_long a)
long_kept a h = λ i.
    Ok (record {
      length = raw-length a.length a.extent_type i;
      extent_type = raw-type a.length a.extent_type i;
      location = address_same a.location h.location i;
      implementation_use = from-whole a.implementation_use 6 h.use6 i;
    })

pub long-again : (a : LongAd) → LongValue a → a.length < 2 ^ 30 → a.extent_type < 4 → read_long (encode_long a) ≡ Ok a
long-again a h l t = long_kept a h ∙ (λ i.
    Ok (record {
      length = mod-eq_of_lt l i;
      extent_type = mod-eq_of_lt t i;
      location = a.location;
      implementation_use = a.implementation_use;
    }))

pub long-back : (s : List ℕ) → Bytes s → (a : LongAd) → read_long s ≡ Ok a → encode_long a ≡ take 16 s
long-back s h a e =
    let p = picked-size 16 s (Ok (long_of s 0)) (Err Malformed) (Ok a) e (λ f. let z : ◌≡◌ {A = ℕ} 0 1 = cc in omega arith) in
    let q : long_of s 0 ≡ a = cc in
    ap encode_long (sym q)
    ∙ ap (λ (n : ℕ). le32 n ++ le32 (u32at s 4) ++ le16 (u16at s 8) ++ six s 10) (raw-whole (u32at s 0) (u32-fits s h 0))
    ∙ (λ i. le32-u32 s h 0 i ++ le32-u32 s h 4 i ++ le16-u16 s h 8 i ++ six s 10)
    ∙ from-take s 16 p.0

-- ---- ext_ad: the exception is a recorded length with either top bit set

pub ext-kept : (a : ExtAd) → ExtValue a → read_ext (encode_ext a) ≡ Ok (kept_ext a)
ext-kept a h = λ i.
    Ok (record {
      length = raw-length a.length a.extent_type i;
      extent_type = raw-type a.length a.extent_type i;
      recorded_length = kept i;
      information_length = u32-le32 a.information_length h.information i;
      location = address_same a.location h.location i;
      implementation_use = from-whole a.implementation_use 2 h.use2 i;
    })
  where
    kept : length_in (u32at (le32 (length_in a.recorded_length)) 0) ≡ kept_length a.recorded_length
    kept = rw (u32-le32 (length_in a.recorded_length) (omega arith)) (omega arith)

pub ext-again : (a : ExtAd) → ExtValue a → a.length < 2 ^ 30 → a.extent_type < 4 → a.recorded_length < 2 ^ 30 → read_ext (encode_ext a) ≡ Ok a
ext-again a h l t r = ext-kept a h ∙ (λ i.
    Ok (record {
      length = mod-eq_of_lt l i;
      extent_type = mod-eq_of_lt t i;
      recorded_length = mod-eq_of_lt r i;
      information_length = a.information_length;
      location = a.location;
      implementation_use = a.implementation_use;
    }))

module _ (s : List ℕ) (h : Bytes s) (a : ExtAd) (e : read_ext s ≡ Ok a) where
  ext-there : (20 ≤ length s) × (ext_of s 0 ≡ a)
  ext-there =
      let p = picked-size 20 s (Ok (ext_of s 0)) (Err Malformed) (Ok a) e (λ f. let z : ◌≡◌ {A = ℕ} 0 1 = cc in omega arith) in
      let q : ext_of s 0 ≡ a = cc in
      (p.0, q)

  ext-bytes : encode_ext a ≡ le32 (raw_of (length_in (u32at s 0)) (type_in (u32at s 0))) ++ le32 (length_in (length_in (u32at s 4))) ++ le32 (u32at s 8) ++ le32 (u32at s 12) ++ le16 (u16at s 16) ++ two s 18
  ext-bytes = ap encode_ext (sym ext-there.1)

  pub ext-back : u32at s 4 < 2 ^ 30 → encode_ext a ≡ take 20 s
  ext-back r =
      let f : length_in (length_in (u32at s 4)) ≡ u32at s 4 = omega arith in
      ext-bytes
      ∙ (λ i. le32 (raw-whole (u32at s 0) (u32-fits s h 0) i) ++ le32 (f i) ++ le32-u32 s h 8 i ++ le32-u32 s h 12 i ++ le16-u16 s h 16 i ++ two s 18)
      ∙ (λ i. le32-u32 s h 0 i ++ le32-u32 s h 4 i ++ from s 8 12)
      ∙ from-take s 20 ext-there.0

  -- and with a top bit set the bytes come out otherwise
  pub ext-loses : 2 ^ 30 ≤ u32at s 4 → encode_ext a ≡ take 20 s → ⊥
  ext-loses r f =
      let m : ℕ = length_in (u32at s 4) in
      let same : u32at (encode_ext a) 4 ≡ u32at s 4 = ap (λ (l : List ℕ). u32at l 4) f ∙ (λ i. at 4 (lit< tt) i + at 5 (lit< tt) i * 256 + at 6 (lit< tt) i * 65536 + at 7 (lit< tt) i * 16777216) in
      let kept : u32at (encode_ext a) 4 ≡ m = ap (λ (l : List ℕ). u32at l 4) ext-bytes ∙ u32-le32 (length_in m) (below m) ∙ twice (u32at s 4) in
      cut (u32at s 4) r (sym same ∙ kept)
    where
      twice : (n : ℕ) → length_in (length_in n) ≡ length_in n
      twice n = omega arith

      below : (n : ℕ) → length_in n < 2 ^ 32
      below n = omega arith

      cut : (n : ℕ) → 2 ^ 30 ≤ n → n ≡ length_in n → ⊥
      cut n g q = omega arith

      at : (j : ℕ) → j < 20 → byte (take 20 s) j ≡ byte s j
      at j l = get_or-take 20 s j 0 l

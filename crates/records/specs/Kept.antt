-- What encoding keeps of a record: 30 bits of a raw length's length and of an ext_ad's recorded length, 2 bits of a type, all of the rest. RULES 3.16.
use Rattle.std.specs.Prelude.{ℕ, ◌%◌, ◌<◌, ◌^◌, ◌≡◌}
use lib.ListN.{length}
use Rattle.records.specs.declared.allocations.ExtentAd.{ExtentAd}
use Rattle.records.specs.declared.allocations.ShortAd.{ShortAd}
use Rattle.records.specs.declared.allocations.LbAddr.{LbAddr}
use Rattle.records.specs.declared.allocations.LongAd.{LongAd}
use Rattle.records.specs.declared.allocations.ExtAd.{ExtAd}

-- ---- every field of a record is in the range of its type

pub record ExtentValue (a : ExtentAd) : Type 0 where
  pub length : a.length < 2 ^ 32
  pub location : a.location < 2 ^ 32

pub record ShortValue (a : ShortAd) : Type 0 where
  pub length : a.length < 2 ^ 32
  pub type : a.extent_type < 2 ^ 8
  pub block : a.block_location < 2 ^ 32

pub record AddressValue (a : LbAddr) : Type 0 where
  pub block : a.block < 2 ^ 32
  pub partition : a.partition_ref < 2 ^ 16

pub record LongValue (a : LongAd) : Type 0 where
  pub length : a.length < 2 ^ 32
  pub type : a.extent_type < 2 ^ 8
  pub location : AddressValue a.location
  pub use6 : lib.ListN.length a.implementation_use ≡ 6

pub record ExtValue (a : ExtAd) : Type 0 where
  pub length : a.length < 2 ^ 32
  pub type : a.extent_type < 2 ^ 8
  pub recorded : a.recorded_length < 2 ^ 32
  pub information : a.information_length < 2 ^ 32
  pub location : AddressValue a.location
  pub use2 : lib.ListN.length a.implementation_use ≡ 2

-- ---- what is kept

abbrev pub kept_length : ℕ → ℕ
kept_length n = n % 0x4000_0000

abbrev pub kept_type : ℕ → ℕ
kept_type n = n % 4

abbrev pub kept_short : ShortAd → ShortAd
kept_short a = record { length = kept_length a.length; extent_type = kept_type a.extent_type; block_location = a.block_location }

abbrev pub kept_long : LongAd → LongAd
kept_long a = record {
  length = kept_length a.length;
  extent_type = kept_type a.extent_type;
  location = a.location;
  implementation_use = a.implementation_use;
}

abbrev pub kept_ext : ExtAd → ExtAd
kept_ext a = record {
  length = kept_length a.length;
  extent_type = kept_type a.extent_type;
  recorded_length = kept_length a.recorded_length;
  information_length = a.information_length;
  location = a.location;
  implementation_use = a.implementation_use;
}

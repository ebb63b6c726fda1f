-- extent_ad (ECMA-167 3/7.1), lb_addr (4/7.1), short_ad, long_ad and ext_ad (4/14.14.1 to 14.14.3), each at an offset: RULES 3.8 to 3.13 and 3.16.
use Rattle.std.specs.Prelude.{ℕ, ◌+◌, ◌*◌, ◌/◌, ◌%◌, List, ◌++◌, length, replicate, leb, Result, Ok, Err}
use Rattle.disc.specs.Choice.{pick}
use Rattle.disc.specs.declared.refusals.Refusal.TheVariants.{Malformed}
use Rattle.records.specs.Bytes.{u16at, u32at, le16, le32, two, six}
use Rattle.records.specs.declared.allocations.ExtentAd.{ExtentAd}
use Rattle.records.specs.declared.allocations.ShortAd.{ShortAd}
use Rattle.records.specs.declared.allocations.LbAddr.{LbAddr}
use Rattle.records.specs.declared.allocations.LongAd.{LongAd}
use Rattle.records.specs.declared.allocations.ExtAd.{ExtAd}
use Rattle.disc.specs.declared.refusals.Refusal.{Refusal}

-- ---- extent_ad, 8 bytes

abbrev pub extent_of : List ℕ → ℕ → ExtentAd
extent_of s i = record { length = u32at s i; location = u32at s (i + 4) }

abbrev pub read_extent : List ℕ → Result ExtentAd Refusal
read_extent s = pick (leb 8 (length s)) (Ok (extent_of s 0)) (Err Malformed)

abbrev pub encode_extent : ExtentAd → List ℕ
encode_extent a = le32 a.length ++ le32 a.location

-- ---- a raw length: 30 bits of length below 2 bits of type (4/14.14.1.1)

abbrev pub length_in : ℕ → ℕ
length_in raw = raw % 0x4000_0000

abbrev pub type_in : ℕ → ℕ
type_in raw = raw / 0x4000_0000

-- encoding keeps 30 bits of the length and 2 of the type
abbrev pub raw_of : ℕ → ℕ → ℕ
raw_of length type = length % 0x4000_0000 + type % 4 * 0x4000_0000

-- ---- short_ad, 8 bytes

abbrev pub short_of : List ℕ → ℕ → ShortAd
short_of s i = record { length = length_in (u32at s i); extent_type = type_in (u32at s i); block_location = u32at s (i + 4) }

abbrev pub read_short : List ℕ → Result ShortAd Refusal
read_short s = pick (leb 8 (length s)) (Ok (short_of s 0)) (Err Malformed)

abbrev pub encode_short : ShortAd → List ℕ
encode_short a = le32 (raw_of a.length a.extent_type) ++ le32 a.block_location

-- ---- lb_addr, 6 bytes

abbrev pub address_of : List ℕ → ℕ → LbAddr
address_of s i = record { block = u32at s i; partition_ref = u16at s (i + 4) }

abbrev pub read_address : List ℕ → Result LbAddr Refusal
read_address s = pick (leb 6 (length s)) (Ok (address_of s 0)) (Err Malformed)

abbrev pub encode_address : LbAddr → List ℕ
encode_address a = le32 a.block ++ le16 a.partition_ref

-- ---- long_ad, 16 bytes

abbrev pub long_of : List ℕ → ℕ → LongAd
long_of s i = record {
  length = length_in (u32at s i);
  extent_type = type_in (u32at s i);
  location = record { block = u32at s (i + 4); partition_ref = u16at s (i + 8) };
  implementation_use = six s (i + 10);
}

abbrev pub no_long : LongAd
no_long = record { length = 0; extent_type = 0; location = record { block = 0; partition_ref = 0 }; implementation_use = replicate 6 0 }

abbrev pub read_long : List ℕ → Result LongAd Refusal
read_long s = pick (leb 16 (length s)) (Ok (long_of s 0)) (Err Malformed)

abbrev pub encode_long : LongAd → List ℕ
encode_long a = le32 (raw_of a.length a.extent_type) ++ encode_address a.location ++ six a.implementation_use 0

-- ---- ext_ad, 20 bytes: the recorded length keeps 30 bits

abbrev pub ext_of : List ℕ → ℕ → ExtAd
ext_of s i = record {
  length = length_in (u32at s i);
  extent_type = type_in (u32at s i);
  recorded_length = length_in (u32at s (i + 4));
  information_length = u32at s (i + 8);
  location = record { block = u32at s (i + 12); partition_ref = u16at s (i + 16) };
  implementation_use = two s (i + 18);
}

abbrev pub no_ext : ExtAd
no_ext = record {
  length = 0;
  extent_type = 0;
  recorded_length = 0;
  information_length = 0;
  location = record { block = 0; partition_ref = 0 };
  implementation_use = replicate 2 0;
}

abbrev pub read_ext : List ℕ → Result ExtAd Refusal
read_ext s = pick (leb 20 (length s)) (Ok (ext_of s 0)) (Err Malformed)

abbrev pub encode_ext : ExtAd → List ℕ
encode_ext a =
    le32 (raw_of a.length a.extent_type) ++ le32 (length_in a.recorded_length) ++ le32 a.information_length ++
    encode_address a.location ++ two a.implementation_use 0

-- Areas of allocation descriptors (ECMA-167 4/12, 4/14.14): the extents that one lists, and how it ends. RULES 6.9 to 6.14.
use Rattle.std.specs.Prelude.{ℕ, zero, suc, ◌+◌, ◌-◌, ◌/◌, Bool, true, List, [], ◌∷◌, eqb, ltb, Option, Some, None}
use Rattle.disc.specs.Choice.{pick}
use Rattle.disc.specs.declared.refusals.Refusal.TheVariants.{Unsupported}
use Rattle.records.specs.Allocations.{short_of, long_of, ext_of}
use Rattle.records.specs.declared.allocations.ShortAd.{ShortAd}
use Rattle.records.specs.declared.allocations.LbAddr.{LbAddr}
use Rattle.records.specs.declared.allocations.LongAd.{LongAd}
use Rattle.records.specs.declared.allocations.ExtAd.{ExtAd}
use Rattle.disc.specs.declared.places.Block.{Block}
use Rattle.areas.specs.declared.AllocExtent.{AllocExtent}
use Rattle.areas.specs.declared.AdContinuation.{AdContinuation}
use Rattle.areas.specs.declared.Descriptor.{Descriptor}
use Rattle.areas.specs.declared.Descriptor.TheVariants.{Stop, Data, Continued, Compressed}
use Rattle.areas.specs.declared.AdCursor.{AdCursor}
use Rattle.areas.specs.declared.AdStep.{AdStep}
use Rattle.areas.specs.declared.AdStep.TheVariants.{Extent, Continuation as Continues, End as Ends, Refused as Refuses}
use Rattle.areas.specs.declared.AdEnding.{AdEnding}
use Rattle.areas.specs.declared.AdEnding.TheVariants.{End, Continuation, Refused}

-- ---- one descriptor

-- how many bytes a descriptor of a kind takes: 0 short, 1 long, else ext
unfoldable pub size_of : ℕ → ℕ
size_of kind = pick (eqb kind 0) 8 (pick (eqb kind 1) 16 20)

abbrev pub extent : ℕ → ℕ → ℕ → Option ℕ → AllocExtent
extent length type block partition = record { length = length; extent_type = type; block = record { 0 = block }; partition_ref = partition }

abbrev pub continuation : ℕ → Block → Option ℕ → AdContinuation
continuation length block partition = record { length = length; block = block; partition_ref = partition }

-- length 0 ends an area, whatever the type; type 3 continues it; an extent that isn't recorded whole is compressed
unfoldable pub descriptor_of : AllocExtent → Bool → AllocExtent → Descriptor
descriptor_of stored whole effective =
    pick (eqb stored.length 0) Stop
    (pick (eqb stored.extent_type 3) (Continued (continuation stored.length stored.block stored.partition_ref))
    (pick whole (Data effective)
    Compressed))

abbrev pub in_partition : ℕ → ℕ → LbAddr → AllocExtent
in_partition length type location = extent length type location.block (Some location.partition_ref)

-- a short_ad names no partition (4/14.14.1)
abbrev pub short_descriptor : ShortAd → Descriptor
short_descriptor a =
    descriptor_of (extent a.length a.extent_type a.block_location None) true
    (extent a.length a.extent_type a.block_location None)

-- a long_ad (4/14.14.2)
abbrev pub long_descriptor : LongAd → Descriptor
long_descriptor a =
    descriptor_of (in_partition a.length a.extent_type a.location) true
    (in_partition a.length a.extent_type a.location)

-- an ext_ad's effective length is its information length (4/14.14.3)
abbrev pub ext_descriptor : ExtAd → Descriptor
ext_descriptor a =
    descriptor_of (in_partition a.length a.extent_type a.location)
    (eqb a.recorded_length a.information_length)
    (in_partition a.information_length a.extent_type a.location)

-- the descriptor of a kind at i
unfoldable pub descriptor_at : ℕ → List ℕ → ℕ → Descriptor
descriptor_at kind s i =
    pick (eqb kind 0) (short_descriptor (short_of s i))
    (pick (eqb kind 1) (long_descriptor (long_of s i))
    (ext_descriptor (ext_of s i)))

-- ---- an area

-- its extents, and how it ends
pub record Area : Type 0 where
  pub extents : List AllocExtent
  pub ending : AdEnding

abbrev pub ended : AdEnding → Area
ended how = record { extents = []; ending = how }

abbrev pub in_front : AllocExtent → Area → Area
in_front e rest = record { extents = e ∷ rest.extents; ending = rest.ending }

-- a descriptor, then the rest
abbrev pub behind : Descriptor → Area → Area
behind Stop rest = ended End
behind (Data e) rest = in_front e rest
behind (Continued a) rest = ended (Continuation a)
behind Compressed rest = ended (Refused Unsupported)

-- the area of the n descriptors from i on
unfoldable pub descriptors : ℕ → ℕ → List ℕ → ℕ → Area
descriptors zero kind s i = ended End
descriptors (suc n) kind s i = behind (descriptor_at kind s i) (descriptors n kind s (i + size_of kind))

-- the area of `size` bytes from i on: it is read while a whole descriptor remains
unfoldable pub area_at : ℕ → List ℕ → ℕ → ℕ → Area
area_at kind s i size = descriptors (size / size_of kind) kind s i

-- ---- a step of the cursor

abbrev pub stepped : ℕ → AdCursor → Descriptor → AdStep
stepped size c Stop = Ends
stepped size c (Data e) = Extent e (record { at = c.at + size; left = c.left - size })
stepped size c (Continued a) = Continues a
stepped size c Compressed = Refuses Unsupported

-- the step at a cursor: the area ends where no whole descriptor is left
unfoldable pub next_of : ℕ → List ℕ → AdCursor → AdStep
next_of kind s c = pick (ltb c.left (size_of kind)) Ends (stepped (size_of kind) c (descriptor_at kind s c.at))

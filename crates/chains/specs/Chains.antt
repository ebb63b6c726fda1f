-- A chain of areas (ECMA-167 4/12, 4/14.5): RULES 6.15 to 6.18.
use Rattle.std.specs.Prelude.{ℕ, zero, suc, ◌+◌, Bool, List, [], ◌++◌, ltb, Result, Ok, Err}
use Rattle.disc.specs.Choice.{pick}
use Rattle.disc.specs.Ask.{Ask, then}
use Rattle.disc.specs.Ask.Ask.{done, refuse}
use Rattle.disc.specs.Images.{sectors, sectors_for}
use Rattle.disc.specs.Places.{placed, is_checked, standing}
use Rattle.disc.specs.declared.places.Mount.{Mount}
use Rattle.disc.specs.declared.refusals.Refusal.TheVariants.{Malformed, Unsupported}
use Rattle.tags.specs.Tags.{read_aed}
use Rattle.areas.specs.declared.AllocExtent.{AllocExtent}
use Rattle.areas.specs.declared.AdContinuation.{AdContinuation}
use Rattle.areas.specs.declared.AdEnding.{AdEnding}
use Rattle.areas.specs.declared.AdEnding.TheVariants.{End, Continuation, Refused}
use Rattle.areas.specs.Areas.{Area, area_at}
use Rattle.tags.specs.declared.AllocationExtentDescriptor.{AllocationExtentDescriptor}
use Rattle.disc.specs.declared.refusals.Refusal.{Refusal}

-- at most this many continuations are followed, and none is longer than this
abbrev pub most_continuations : ℕ
most_continuations = 32

abbrev pub longest_continuation : ℕ
longest_continuation = 1048576

-- the area after a header (4/14.5), in a continuation of `size` bytes whose sectors are s
abbrev pub area_in : ℕ → ℕ → List ℕ → Result AllocationExtentDescriptor Refusal → Ask Area
area_in kind size s (Err r) = refuse r
area_in kind size s (Ok h) =
    pick (ltb size (24 + h.length_of_allocation_descriptors)) (refuse Malformed)
    (done (area_at kind s 24 h.length_of_allocation_descriptors))

-- the area in a continuation of `length` bytes from a sector on, with the checks in order
unfoldable pub area_from : Bool → ℕ → ℕ → ℕ → Ask Area
area_from check kind length at =
    pick (ltb length 24) (refuse Malformed)
    (pick (ltb longest_continuation length) (refuse Unsupported)
    (then (sectors (sectors_for length) at) (λ s. area_in kind length s (read_aed check s))))

-- the area of a continuation: before those checks, its partition must be of this volume
unfoldable pub next_area : Mount → ℕ → AdContinuation → Ask Area
next_area m kind a = standing (placed m a.partition_ref a.block.0) (area_from (is_checked m) kind a.length)

-- the extents after an area, through at most n continuations: one more is refused before it is looked at
unfoldable pub continued : Mount → ℕ → ℕ → AdEnding → Ask (List AllocExtent)
continued m kind zero End = done []
continued m kind zero (Refused r) = refuse r
continued m kind zero (Continuation a) = refuse Malformed
continued m kind (suc n) End = done []
continued m kind (suc n) (Refused r) = refuse r
continued m kind (suc n) (Continuation a) =
    then (next_area m kind a) (λ x.
    then (continued m kind n x.ending) (λ more.
    done (x.extents ++ more)))

-- how many continuations are followed after an area
unfoldable pub hops : Mount → ℕ → ℕ → AdEnding → Ask ℕ
hops m kind zero End = done 0
hops m kind zero (Refused r) = refuse r
hops m kind zero (Continuation a) = refuse Malformed
hops m kind (suc n) End = done 0
hops m kind (suc n) (Refused r) = refuse r
hops m kind (suc n) (Continuation a) =
    then (next_area m kind a) (λ x.
    then (hops m kind n x.ending) (λ more.
    done (suc more)))

-- the extents of an area and of those that continue it
abbrev pub chain : Mount → ℕ → ℕ → Area → Ask (List AllocExtent)
chain m kind n x = then (continued m kind n x.ending) (λ more. done (x.extents ++ more))

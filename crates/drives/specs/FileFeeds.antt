-- Reading a file as a feed: each sector's bytes reach the output as it arrives, and extents are held from the area that names them on. RULES 6.15
-- to 6.18, 7.1 to 7.9, 14.4 to 14.8. That this is the read of `files`, its bytes collected, is proved (proofs/FeedLaws.antt).
use Rattle.std.specs.Prelude.{ℕ, zero, suc, ◌+◌, ◌-◌, min, ◌&&◌, List, [], ◌∷◌, ◌++◌, length, take, eqb, leb, Option, Some, None, Result, Ok, Err}
use Rattle.disc.specs.Choice.{pick}
use Rattle.disc.specs.Images.{sectors_for}
use Rattle.disc.specs.Places.{placed}
use Rattle.disc.specs.declared.places.Mount.{Mount}
use Rattle.disc.specs.declared.refusals.Refusal.TheVariants.{Malformed, Unsupported}
use Rattle.records.specs.Bytes.{u32at}
use Rattle.tags.specs.Tags.{read_tag}
use Rattle.records.specs.declared.allocations.LongAd.{LongAd}
use Rattle.areas.specs.declared.AllocExtent.{AllocExtent}
use Rattle.areas.specs.declared.AdEnding.{AdEnding}
use Rattle.areas.specs.declared.AdEnding.TheVariants.{End, Continuation, Refused}
use Rattle.areas.specs.Areas.{Area, area_at}
use Rattle.chains.specs.Chains.{most_continuations, next_area}
use Rattle.files.specs.Files.{Located, entry_at, entry_mount, is_embedded, embedded_bytes}
use Rattle.drives.specs.Feeds.{Feed, following, naming}
use Rattle.drives.specs.Feeds.Feed.{over, stop, hold, put, want}
use Rattle.tags.specs.declared.DescriptorTag.{DescriptorTag}
use Rattle.disc.specs.declared.refusals.Refusal.{Refusal}

-- ---- the extents

-- n sectors in turn, of which `size` bytes count and `missing` are missing of the information length; f is what follows with what is missing then
unfoldable pub extent_feed : ℕ → ℕ → ℕ → ℕ → (ℕ → Feed) → Feed
extent_feed zero at size missing f = f missing
extent_feed (suc n) at size missing f =
    want at (λ b.
    put (take missing (take size b))
    (pick (leb missing (length (take size b))) over
    (extent_feed n (at + 1) (size - 2048) (missing - length (take size b)) f)))

-- what stands nowhere on this volume is 4
abbrev pub standing : Option ℕ → (ℕ → Feed) → Feed
standing None f = stop Unsupported
standing (Some s) f = f s

-- extents in turn; the read is over as soon as no byte is missing
unfoldable pub extents_feed : Mount → List AllocExtent → ℕ → Feed
extents_feed m [] missing = over
extents_feed m (e ∷ es) missing =
    pick (eqb e.extent_type 0)
    (standing (placed m e.partition_ref e.block.0) (λ at.
    extent_feed (sectors_for e.length) at e.length missing (λ left.
    pick (leb left 0) over (extents_feed m es left))))
    (stop Unsupported)

-- ---- the chain

-- behind an area that was accepted, `es` being the extents of all so far and n the continuations that may follow: the extents are held; then the
-- next continuation's tests, or the chain has ended and its extents are read
abbrev pub accepted : List AllocExtent → Feed → Feed
accepted es f = hold (length es) f

-- the extents that come before an area, with those of the area
abbrev pub joined : List AllocExtent → Area → List AllocExtent
joined es x = es ++ x.extents

-- how many bytes the area of a continuation of `size` bytes has, by the tag at its front (4/14.5): none where that is no header, or the area doesn't fit
abbrev pub area_said : ℕ → List ℕ → Result DescriptorTag Refusal → ℕ
area_said size s (Ok t) = pick (eqb t.id 258 && leb (24 + u32at s 20) size) (u32at s 20) 0
area_said size s (Err r) = 0

-- how many extents there are in all once the bytes s of a continuation have come: `es`, and those that its area names so far
abbrev pub named_by : ℕ → ℕ → List AllocExtent → List ℕ → ℕ
named_by kind size es s = length (joined es (area_at kind s 24 (min (area_said size s (read_tag s)) (length s - 24))))

unfoldable pub chain_feed : Mount → ℕ → ℕ → ℕ → List AllocExtent → AdEnding → Feed
chain_feed m kind zero missing es (Refused r) = stop r
chain_feed m kind zero missing es End = accepted es (extents_feed m es missing)
chain_feed m kind zero missing es (Continuation a) = accepted es (stop Malformed)
chain_feed m kind (suc n) missing es (Refused r) = stop r
chain_feed m kind (suc n) missing es End = accepted es (extents_feed m es missing)
chain_feed m kind (suc n) missing es (Continuation a) =
    accepted es (naming (named_by kind a.length es) (next_area m kind a) (λ x. chain_feed m kind n missing (joined es x) x.ending))

-- ---- the entry

-- an embedded file stands in the entry itself, and needs no slot
unfoldable pub entry_feed : Mount → Located → Feed
entry_feed m x =
    pick (is_embedded x)
    (put (embedded_bytes x) over)
    (let area = area_at x.entry.kind x.sector x.entry.area_at x.entry.area_length in
    chain_feed m x.entry.kind most_continuations x.entry.information_length area.extents area.ending)

-- ---- the whole read

unfoldable pub file_feed : Mount → LongAd → Feed
file_feed m icb = following (entry_at m icb) (entry_feed (entry_mount m icb))

-- A file's bytes are bytes where the image's are. Assumes nothing.
use Rattle.std.specs.Prelude.{Option, Some, None, Result, Ok, Err}
use mathlib.Core.Path.{◌≡◌}
use mathlib.Core.List.{List, [], ◌∷◌}
use Prim.Native.Nat.{ℕ, zero, suc, ◌+◌, ◌-◌, min}
use lib.ListN.{length, take, drop}
use lib.Dec.{eqb, leb}
use mir.Facts.{Fits-lit}
use Rattle.disc.specs.declared.places.Mount.{Mount}
use Rattle.disc.specs.Places.{placed, icb_placed, is_checked, standing}
use Rattle.disc.specs.Ask.{Ask, then}
use Rattle.disc.specs.Ask.Outcome.{answered}
use Rattle.disc.specs.Images.{disc, sectors_for}
use Rattle.disc.specs.Ran.{ran}
use Rattle.disc.proofs.ByteLaws.{bytes-taken, bytes-dropped, bytes-joined}
use Rattle.disc.proofs.GivenLaws.{sector-bytes, Gives, gives_then, gives-any, gives-pick, gives-outcome}
use Rattle.records.specs.declared.allocations.LongAd.{LongAd}
use Rattle.areas.specs.declared.AllocExtent.{AllocExtent}
use Rattle.entries.specs.FileEntries.{read_entry}
use Rattle.files.specs.Reads.{joining, extent_bytes, extents_bytes}
use Rattle.files.specs.Files.{Located, located, entry_in, entry_at, entry_mount, is_embedded, chain_of, File, file_at, content_of, file_bytes}
use Rattle.files.specs.Files.File.{embedded, chained}
use Rattle.disc.specs.Parts.{Bytes}
use Rattle.entries.specs.declared.file_entries.FileEntry.{FileEntry}
use Rattle.disc.specs.declared.refusals.Refusal.{Refusal}

joining-bytes : (want : ℕ) (b : List ℕ) (more : Ask (List ℕ)) → Bytes b → Gives Bytes more → Gives Bytes (joining want b more)
unfolding Gives
joining-bytes want b more h p = gives-pick Bytes (leb want (length b)) _ _ (bytes-taken want b h) (gives_then Bytes Bytes more _ p (λ rest q. bytes-joined b rest h q))

extent-bytes : (n at size want : ℕ) → Gives Bytes (extent_bytes n at size want)
unfolding Gives extent_bytes
extent-bytes zero at size want = λ i. Fits-lit tt
extent-bytes (suc n) at size want = λ b h. joining-bytes want (take size b) _ (bytes-taken size b h) (extent-bytes n (at + 1) (size - 2048) (want - length (take size b)))

extents-bytes : (m : Mount) (es : List AllocExtent) (want : ℕ) → Gives Bytes (extents_bytes m es want)
unfolding Gives extents_bytes
extents-bytes m [] want = λ i. Fits-lit tt
extents-bytes m (e ∷ es) want = gives-pick Bytes (eqb e.extent_type 0) _ _ (stood (placed m e.partition_ref e.block.0) (λ b. extents-bytes m es (want - length b))) tt
  where
    stood : (o : Option ℕ) → ((b : List ℕ) → Gives Bytes (extents_bytes m es (want - length b)))
        → Gives Bytes (standing o (λ at. then (extent_bytes (sectors_for e.length) at e.length want) (λ b. joining want b (extents_bytes m es (want - length b)))))
    stood None ih = tt
    stood (Some at) ih = gives_then Bytes Bytes (extent_bytes (sectors_for e.length) at e.length want) _ (extent-bytes (sectors_for e.length) at e.length want) (λ b h. joining-bytes want b _ h (ih b))

-- an entry's sector, where the file is embedded
abbrev Embedded : File → Type 0
Embedded (embedded x) = Bytes x.sector
Embedded (chained x es) = Unit {0}

entry-bytes : (m : Mount) (icb : LongAd) → Gives (λ (x : Located). Bytes x.sector) (entry_at m icb)
unfolding Gives entry_at
entry-bytes m icb = gives-pick _ (eqb icb.length 0) _ _ tt (stood (icb_placed m icb.location.partition_ref icb.location.block))
  where
    by : (at : ℕ) (s : List ℕ) → Bytes s → (x : Result FileEntry Refusal) → Gives (λ (x : Located). Bytes x.sector) (located at s x)
    by at s h (Ok e) = h
    by at s h (Err r) = tt

    stood : (o : Option ℕ) → Gives (λ (x : Located). Bytes x.sector) (standing o (entry_in (is_checked m)))
    stood None = tt
    stood (Some at) = λ s h. by at s h (read_entry (is_checked m) s)

file-bytes : (m : Mount) (icb : LongAd) → Gives Bytes (file_bytes m icb)
unfolding Gives file_bytes file_at
file-bytes m icb =
    gives_then Embedded Bytes (file_at m icb) (content_of (entry_mount m icb))
    (gives_then (λ (x : Located). Bytes x.sector) Embedded (entry_at m icb) _ (entry-bytes m icb)
    (λ x h. gives-pick Embedded (is_embedded x) _ _ h (gives_then (λ es. Unit {0}) Embedded (chain_of (entry_mount m icb) x) _ (gives-any (chain_of (entry_mount m icb) x)) (λ es q. tt))))
    by
  where
    by : (f : File) → Embedded f → Gives Bytes (content_of (entry_mount m icb) f)
    by (embedded x) h = bytes-taken (min x.entry.area_length x.entry.information_length) (drop x.entry.area_at x.sector) (bytes-dropped x.entry.area_at x.sector h)
    by (chained x es) h = extents-bytes (entry_mount m icb) es x.entry.information_length

pub content-bytes : (image : List ℕ) → Bytes image → (m : Mount) (icb : LongAd) {b : List ℕ} → (ran (disc image) (file_bytes m icb)).outcome ≡ answered b → Bytes b
unfolding ran
content-bytes image h m icb e = gives-outcome Bytes (disc image) (sector-bytes image h) (file_bytes m icb) (file-bytes m icb) e

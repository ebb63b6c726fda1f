-- A file of a volume whose descriptors' bodies are checked is the file without that check, with its entry and the header of each continuation marked where
-- they are parsed. Assumes nothing.
use Rattle.std.specs.Prelude.{Option, Some, None, Result, Ok, Err}
use mathlib.Core.Path.{◌≡◌, refl, ◌∙◌}
use mathlib.Core.Bool.{true, false}
use mathlib.Core.List.{List, [], ◌∷◌}
use Prim.Native.Nat.{ℕ, zero, suc, ◌+◌, ◌-◌}
use native.Mathlib.Omega.{arith}
use lib.ListN.{length, take}
use lib.Dec.{eqb, leb}
use Rattle.disc.specs.Ask.{Ask, then}
use Rattle.disc.specs.Images.{sectors_for}
use Rattle.disc.specs.Places.{placed, icb_placed, is_checked, unchecked, standing}
use Rattle.disc.specs.declared.places.Mount.{Mount}
use Rattle.disc.specs.declared.refusals.Refusal.TheVariants.{Malformed, Unsupported}
use Rattle.disc.proofs.MarkedLaws.{done-guards, refuse-guards, ask-guards, pick-guards, then-guards}
use Rattle.disc.proofs.PlaceLaws.{entry-checked, entry-unchecked, icb-unchecked}
use Rattle.records.specs.declared.allocations.LongAd.{LongAd}
use Rattle.tags.proofs.BodyLaws.{gate-guards}
use Rattle.tags.specs.declared.DescriptorTag.{DescriptorTag}
use Rattle.areas.specs.declared.AllocExtent.{AllocExtent}
use Rattle.areas.specs.Areas.{area_at}
use Rattle.entries.specs.FileEntries.{entry_id, entry_behind, entry_after, read_entry}
use Rattle.entries.proofs.EntryLaws.{behind-refused}
use Rattle.chains.proofs.GuardLaws.{placed-unchecked, area-ends, chain-guards}
use Rattle.files.specs.Reads.{joining, extent_bytes, extents_bytes}
use Rattle.files.specs.Files.{Located, located, entry_in, entry_at, entry_mount, is_embedded, chain_of, File, file_at, content_of, file_bytes, file_part, file_extents}
use Rattle.files.specs.Files.File.{embedded, chained}
use Rattle.disc.specs.Marks.{Guards}
use Rattle.tags.specs.Heads.{right_at}
use Rattle.entries.specs.declared.file_entries.FileEntry.{FileEntry}
use Rattle.disc.specs.declared.refusals.Refusal.{Refusal}

-- ---- its extents hold no descriptor

joining-guards : (want : ℕ) (b : List ℕ) {more more' : Ask (List ℕ)} → Guards right_at more more' → Guards right_at (joining want b more) (joining want b more')
joining-guards want b p = pick-guards (leb want (length b)) (done-guards _) (then-guards p (λ rest. done-guards _))

extent-guards : (n at size want : ℕ) → Guards right_at (extent_bytes n at size want) (extent_bytes n at size want)
unfolding extent_bytes
extent-guards zero at size want = done-guards []
extent-guards (suc n) at size want = ask-guards at (λ b. joining-guards want (take size b) (extent-guards n (at + 1) (size - 2048) (want - length (take size b))))

read-guards : (m : Mount) (es : List AllocExtent) (want : ℕ) → Guards right_at (extents_bytes m es want) (extents_bytes (unchecked m) es want)
unfolding extents_bytes
read-guards m [] want = done-guards []
read-guards m (e ∷ es) want = rw (placed-unchecked m) (pick-guards (eqb e.extent_type 0) (by (placed m e.partition_ref e.block.0) (read-guards m es)) (refuse-guards Unsupported (λ z. omega arith)))
  where
    by : (o : Option ℕ) → ((n : ℕ) → Guards right_at (extents_bytes m es n) (extents_bytes (unchecked m) es n))
        → Guards right_at
        (standing o (λ at. then (extent_bytes (sectors_for e.length) at e.length want) (λ b. joining want b (extents_bytes m es (want - length b)))))
        (standing o (λ at. then (extent_bytes (sectors_for e.length) at e.length want) (λ b. joining want b (extents_bytes (unchecked m) es (want - length b)))))
    by None h = refuse-guards Unsupported (λ z. omega arith)
    by (Some at) h = then-guards (extent-guards (sectors_for e.length) at e.length want) (λ b. joining-guards want b (h (want - length b)))

-- ---- its entry, its chain, and what is asked of it

-- the entry in a sector
sector-guards : (at : ℕ) → Guards right_at (entry_in true at) (entry_in false at)
unfolding read_entry
sector-guards at = ask-guards at (λ s.
    gate-guards s (entry_id s) 176 (λ r. located at s (entry_after s r)) (λ r. located at s (entry_after s r)) (λ r. refl) (λ r. refl)
    (λ t. by s t (entry_behind s t) refl))
  where
    by : (s : List ℕ) (t : DescriptorTag) (x : Result FileEntry Refusal) → entry_behind s t ≡ x → Guards right_at (located at s x) (located at s x)
    by s t (Ok e) q = done-guards _
    by s t (Err r) q = refuse-guards r (rw (behind-refused s t q) (λ z. omega arith))

module _ (m : Mount) (c : is_checked m ≡ true) (icb : LongAd) where
  pub entry-guards : Guards right_at (entry_at m icb) (entry_at (unchecked m) icb)
  unfolding entry_at
  entry-guards =
      rw (c, icb-unchecked m) (pick-guards (eqb icb.length 0) (refuse-guards Malformed (λ z. omega arith))
      (by (icb_placed m icb.location.partition_ref icb.location.block)))
    where
      by : (o : Option ℕ) → Guards right_at (standing o (entry_in true)) (standing o (entry_in false))
      by None = refuse-guards Unsupported (λ z. omega arith)
      by (Some at) = sector-guards at

  -- the mount by which the entry's own descriptors are read
  abbrev own : Mount
  own = entry_mount m icb

  own-checked : is_checked own ≡ true
  own-checked = entry-checked m icb.location.partition_ref ∙ c

  chain-guarded : (x : Located) → Guards right_at (chain_of own x) (chain_of (unchecked own) x)
  chain-guarded x =
      let k = x.entry.kind in
      let i = x.entry.area_at in
      let n = x.entry.area_length in
      chain-guards own own-checked k 32 (area_at k x.sector i n) (area-ends k x.sector i n)

  pub file-guards : Guards right_at (file_at m icb) (file_at (unchecked m) icb)
  unfolding file_at
  file-guards =
      rw (entry-unchecked m) (then-guards entry-guards (λ x.
      pick-guards (is_embedded x) (done-guards (embedded x)) (then-guards (chain-guarded x) (λ es. done-guards (chained x es)))))

  pub bytes-guards : Guards right_at (file_bytes m icb) (file_bytes (unchecked m) icb)
  unfolding file_bytes
  bytes-guards = rw (entry-unchecked m) (then-guards file-guards by)
    where
      by : (f : File) → Guards right_at (content_of own f) (content_of (unchecked own) f)
      by (embedded x) = done-guards _
      by (chained x es) = read-guards own es x.entry.information_length

  pub part-guards : Guards right_at (file_part m icb) (file_part (unchecked m) icb)
  unfolding file_part
  part-guards = then-guards file-guards (λ f. done-guards _)

  pub extents-guards : Guards right_at (file_extents m icb) (file_extents (unchecked m) icb)
  unfolding file_extents
  extents-guards = then-guards file-guards (λ f. done-guards _)

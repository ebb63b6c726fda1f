-- Which refusals a file's read says by itself: 1, 2, 4, and 10 where bodies are checked. So 5 and 7 are given exactly when lent memory is short. Assumes
-- nothing.
use Rattle.std.specs.Prelude.{Option, Some, None, Result, Ok, Err}
use mathlib.Core.Path.{◌≡◌, refl, sym, subst}
use mathlib.Core.Bool.{Bool, true, false}
use mathlib.Core.List.{List, [], ◌∷◌, ◌++◌}
use Prim.Native.Nat.{ℕ, zero, suc, ◌+◌, ◌-◌}
use native.Mathlib.Omega.{arith}
use lib.ListN.{length, take}
use lib.Dec.{eqb, ltb, leb}
use Rattle.disc.specs.Choice.{pick}
use Rattle.disc.specs.Refusals.{number}
use Rattle.disc.specs.Ask.{Disc, Held, Ask, given, then}
use Rattle.disc.specs.Ask.Held.{holds, lacks}
use Rattle.disc.specs.Ask.Ask.{done, refuse}
use Rattle.disc.specs.Images.{sectors, sectors_for}
use Rattle.disc.specs.Places.{placed, icb_placed, is_checked, standing as placing}
use Rattle.disc.specs.declared.places.Mount.{Mount}
use Rattle.disc.specs.declared.refusals.Refusal.{Refusal}
use Rattle.disc.specs.declared.refusals.Refusal.TheVariants.{Io, Malformed, Unsupported, BadCrc}
use Rattle.disc.proofs.PickLaws.{pick-both}
use Rattle.records.specs.declared.allocations.LongAd.{LongAd}
use Rattle.tags.specs.Tags.{read_aed}
use Rattle.tags.proofs.HeadLaws.{aed-refused}
use Rattle.areas.specs.declared.AllocExtent.{AllocExtent}
use Rattle.areas.specs.declared.AdContinuation.{AdContinuation}
use Rattle.areas.specs.declared.AdEnding.{AdEnding}
use Rattle.areas.specs.declared.AdEnding.TheVariants.{End, Continuation, Refused}
use Rattle.areas.specs.Areas.{Area, area_at}
use Rattle.areas.proofs.AreaLaws.{area-refused}
use Rattle.entries.specs.FileEntries.{read_entry}
use Rattle.entries.proofs.EntryLaws.{read-entry-refused}
use Rattle.chains.specs.Chains.{area_in, next_area, area_from}
use Rattle.files.specs.Files.{Located, located, entry_at, entry_mount, is_embedded}
use Rattle.drives.specs.Feeds.{Feed, following, naming, end_of}
use Rattle.drives.specs.Feeds.Feed.{over, stop, name, hold, put, want}
use Rattle.drives.specs.Feeds.End.{refuses}
use Rattle.drives.specs.FileFeeds.{extent_feed, standing, extents_feed, named_by, chain_feed, entry_feed, file_feed}
use Rattle.drives.proofs.SettleLaws.{naming-then}
use Rattle.drives.proofs.BranchLaws.{area-alone}
use Rattle.tags.specs.declared.AllocationExtentDescriptor.{AllocationExtentDescriptor}
use Rattle.entries.specs.declared.file_entries.FileEntry.{FileEntry}

-- the numbers that a read says by itself
abbrev pub Own : Refusal → Type 0
Own r = (number r ≡ 5 → ⊥) × (number r ≡ 7 → ⊥)

malformed : Own Malformed
malformed = (λ e. omega arith, λ e. omega arith)

unsupported : Own Unsupported
unsupported = (λ e. omega arith, λ e. omega arith)

crc : Own BadCrc
crc = (λ e. omega arith, λ e. omega arith)

-- every refusal of a feed is such a one
unfoldable pub Says : Feed → Type 0
Says over = Unit {0}
Says (stop r) = Own r
Says (name n f) = Says f
Says (hold n f) = Says f
Says (put b f) = Says f
Says (want s k) = (b : List ℕ) → Says (k b)

-- and so is the one that it ends with
pub says-end : (d : Disc) (f : Feed) → Says f → {r : Refusal} → end_of d f ≡ refuses r → Own r
unfolding Says end_of
says-end d over h e = absurd (let z : ◌≡◌ {A = ℕ} 0 1 = cc in omega arith)
says-end d (stop why) h {r} e = let z : why ≡ r = cc in rw z at h
says-end d (name n f) h e = says-end d f h e
says-end d (hold n f) h e = says-end d f h e
says-end d (put b f) h e = says-end d f h e
says-end d (want s k) h {r} e = by (d s) e (λ b. says-end d (k b) (h b))
  where
    by : (x : Held) → given x (λ b. end_of d (k b)) (refuses Io) ≡ refuses r → ((b : List ℕ) → end_of d (k b) ≡ refuses r → Own r) → Own r
    by (holds b) e ih = ih b e
    by lacks e ih = let z : Io ≡ r = cc in rw (← z) ((λ q. omega arith), (λ q. omega arith))

-- ---- the extents

extent-says : (n at size missing : ℕ) (f : ℕ → Feed) → ((w : ℕ) → Says (f w)) → Says (extent_feed n at size missing f)
unfolding Says extent_feed
extent-says zero at size missing f h = h missing
extent-says (suc n) at size missing f h = λ b. pick-both Says (leb missing (length (take size b))) tt (extent-says n (at + 1) (size - 2048) (missing - length (take size b)) f h)

extents-say : (m : Mount) (es : List AllocExtent) (missing : ℕ) → Says (extents_feed m es missing)
unfolding Says extents_feed
extents-say m [] missing = tt
extents-say m (e ∷ es) missing = pick-both Says (eqb e.extent_type 0) (by (placed m e.partition_ref e.block.0) (λ w. extents-say m es w)) unsupported
  where
    by : (o : Option ℕ) → ((w : ℕ) → Says (extents_feed m es w))
        → Says (standing o (λ at. extent_feed (sectors_for e.length) at e.length missing (λ left. pick (leb left 0) over (extents_feed m es left))))
    by None ih = unsupported
    by (Some at) ih = extent-says (sectors_for e.length) at e.length missing _ (λ w. pick-both Says (leb w 0) tt (ih w))

-- ---- the chain

-- an area that ends so
unfoldable Closed : AdEnding → Type 0
Closed End = Unit {0}
Closed (Continuation a) = Unit {0}
Closed (Refused r) = Own r

area-closed : (kind : ℕ) (s : List ℕ) (i size : ℕ) → Closed (area_at kind s i size).ending
unfolding Closed
area-closed kind s i size = by (area_at kind s i size).ending refl
  where
    by : (e : AdEnding) → (area_at kind s i size).ending ≡ e → Closed e
    by End h = tt
    by (Continuation a) h = tt
    by (Refused r) h = subst Own (sym (area-refused kind s i size h)) unsupported

sectors-say : (named : List ℕ → ℕ) (n at : ℕ) (f : List ℕ → Feed) → ((s : List ℕ) → Says (f s)) → Says (naming named (sectors n at) f)
unfolding Says naming following sectors
sectors-say named zero at f h = h []
sectors-say named (suc n) at f h = λ b.
    subst Says (sym (naming-then (λ more. named (b ++ more)) (sectors n (at + 1)) (λ rest. done (b ++ rest)) f (λ m more. refl)))
    (sectors-say (λ more. named (b ++ more)) n (at + 1) (λ rest. f (b ++ rest)) (λ s. h (b ++ s)))

area-says : (check : Bool) (kind size : ℕ) (s : List ℕ) (f : Area → Feed) → ((x : Area) → Closed x.ending → Says (f x)) → Says (following (area_in kind size s (read_aed check s)) f)
unfolding Says following
area-says check kind size s f h = by (read_aed check s) refl
  where
    by : (r : Result AllocationExtentDescriptor Refusal) → read_aed check s ≡ r → Says (following (area_in kind size s r) f)
    by (Err r) e = aed-refused check s Own malformed (λ c. crc) (sym e) refl
    by (Ok t) e = told (ltb size (24 + t.length_of_allocation_descriptors))
      where
        told : (b : Bool) → Says (following (pick b (refuse Malformed) (done (area_at kind s 24 t.length_of_allocation_descriptors))) f)
        told true = malformed
        told false = h (area_at kind s 24 t.length_of_allocation_descriptors) (area-closed kind s 24 t.length_of_allocation_descriptors)

next-says : (named : List ℕ → ℕ) (m : Mount) (kind : ℕ) (a : AdContinuation) (f : Area → Feed) → ((x : Area) → Closed x.ending → Says (f x)) → Says (naming named (next_area m kind a) f)
unfolding Says naming next_area area_from
next-says named m kind a f h = by (placed m a.partition_ref a.block.0) (ltb a.length 24) (ltb 1048576 a.length)
  where
    area : List ℕ → Ask Area
    area s = area_in kind a.length s (read_aed (is_checked m) s)

    by : (o : Option ℕ) (short long : Bool)
        → Says (naming named (placing o (λ at. pick short (refuse Malformed) (pick long (refuse Unsupported) (then (sectors (sectors_for a.length) at) area)))) f)
    by None short long = unsupported
    by (Some at) true long = malformed
    by (Some at) false true = unsupported
    by (Some at) false false =
        subst Says (sym (naming-then named (sectors (sectors_for a.length) at) area f (λ n s. area-alone n kind a.length s (read_aed (is_checked m) s) f)))
        (sectors-say named (sectors_for a.length) at _ (λ s. area-says (is_checked m) kind a.length s f h))

chain-says : (m : Mount) (kind n missing : ℕ) (es : List AllocExtent) (how : AdEnding) → Closed how → Says (chain_feed m kind n missing es how)
unfolding Says Closed chain_feed
chain-says m kind zero missing es (Refused r) h = h
chain-says m kind zero missing es End h = extents-say m es missing
chain-says m kind zero missing es (Continuation a) h = malformed
chain-says m kind (suc n) missing es (Refused r) h = h
chain-says m kind (suc n) missing es End h = extents-say m es missing
chain-says m kind (suc n) missing es (Continuation a) h = next-says (named_by kind a.length es) m kind a _ (λ x q. chain-says m kind n missing (es ++ x.extents) x.ending q)

-- ---- the entry

entry-says : (m : Mount) (x : Located) → Says (entry_feed m x)
unfolding Says entry_feed
entry-says m x = pick-both Says (is_embedded x) tt (chain-says m x.entry.kind _ x.entry.information_length _ _ (area-closed x.entry.kind x.sector x.entry.area_at x.entry.area_length))

pub file-says : (m : Mount) (icb : LongAd) → Says (file_feed m icb)
unfolding Says file_feed following entry_at
file-says m icb = by (eqb icb.length 0) (icb_placed m icb.location.partition_ref icb.location.block)
  where
    read : (at : ℕ) (s : List ℕ) (x : Result FileEntry Refusal) → x ≡ read_entry (is_checked m) s → Says (following (located at s x) (entry_feed (entry_mount m icb)))
    read at s (Ok e) h = entry-says (entry_mount m icb) (record { at = at; sector = s; entry = e })
    read at s (Err r) h = read-entry-refused (is_checked m) s Own malformed (λ c. crc) h refl

    by : (t : Bool) (o : Option ℕ) → Says (following (pick t (refuse Malformed) (placing o (Rattle.files.specs.Files.entry_in (is_checked m)))) (entry_feed (entry_mount m icb)))
    by true o = malformed
    by false None = unsupported
    by false (Some at) = λ s. read at s (read_entry (is_checked m) s) refl

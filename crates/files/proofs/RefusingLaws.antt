-- Which refusals reading a file says by itself: 2 and 4, and 10 where bodies are checked. Assumes nothing.
use Rattle.std.specs.Prelude.{Result, Ok, Err}
use mathlib.Core.Path.{◌≡◌, refl, sym, subst, ◌∙◌}
use mathlib.Core.Bool.{Bool, true}
use mathlib.Core.List.{List, [], ◌∷◌}
use Prim.Native.Nat.{ℕ, zero, suc, ◌+◌, ◌-◌}
use lib.ListN.{length, take}
use lib.Dec.{eqb, ltb, leb}
use Rattle.files.specs.Files.File.{embedded, chained}
use Rattle.disc.specs.declared.places.Mount.{Mount}
use Rattle.disc.specs.Places.{placed, icb_placed, is_checked}
use Rattle.disc.specs.Ask.{Ask}
use Rattle.disc.specs.Images.{sectors, sectors_for}
use Rattle.disc.specs.declared.refusals.Refusal.{Refusal}
use Rattle.disc.specs.declared.refusals.Refusal.TheVariants.{Malformed, Unsupported, BadCrc}
use Rattle.disc.proofs.OnlyLaws.{done-only, refuse-only, ask-only, pick-only, then-only, standing-only}
use Rattle.disc.proofs.PlaceLaws.{entry-checked}
use Rattle.records.specs.declared.allocations.LongAd.{LongAd}
use Rattle.tags.specs.Tags.{read_aed}
use Rattle.tags.proofs.HeadLaws.{aed-refused}
use Rattle.areas.specs.declared.AllocExtent.{AllocExtent}
use Rattle.areas.specs.declared.AdContinuation.{AdContinuation}
use Rattle.areas.specs.declared.AdEnding.{AdEnding}
use Rattle.areas.specs.declared.AdEnding.TheVariants.{End, Continuation, Refused}
use Rattle.areas.specs.Areas.{Area, area_at}
use Rattle.areas.proofs.AreaLaws.{area-refused}
use Rattle.entries.specs.FileEntries.{read_entry}
use Rattle.entries.proofs.EntryLaws.{read-entry-refused}
use Rattle.chains.specs.Chains.{area_in, next_area, continued, area_from}
use Rattle.files.specs.Reads.{joining, extent_bytes, extents_bytes}
use Rattle.files.specs.Files.{Located, located, entry_at, entry_mount, is_embedded, chain_of, file_bytes, file_part, file_extents, File, file_at, content_of}
use Rattle.disc.specs.Refusing.{Refuses, Any}
use Rattle.tags.specs.declared.AllocationExtentDescriptor.{AllocationExtentDescriptor}
use Rattle.entries.specs.declared.file_entries.FileEntry.{FileEntry}

-- how an area ends
unfoldable pub EndsBy : (Refusal → Type 0) → AdEnding → Type 0
EndsBy P End = Unit {0}
EndsBy P (Continuation a) = Unit {0}
EndsBy P (Refused r) = P r

pub record Ends (P : Refusal → Type 0) (e : AdEnding) : Type 0 where
  pub by : EndsBy P e

-- ---- reading a file, for any P that has 2 and 4, and 10 where bodies are checked

module _ (P : Refusal → Type 0) (malformed : P Malformed) (unsupported : P Unsupported) where
  sectors-only : (n first : ℕ) → Refuses P Any (sectors n first)
  unfolding sectors
  sectors-only zero first = done-only tt
  sectors-only (suc n) first = ask-only (λ b. then-only (sectors-only n (first + 1)) (λ rest q. done-only tt))

  area-ends : (kind : ℕ) (s : List ℕ) (i size : ℕ) → Ends P (area_at kind s i size).ending
  unfolding EndsBy
  area-ends kind s i size = by (area_at kind s i size).ending refl
    where
      by : (e : AdEnding) → (area_at kind s i size).ending ≡ e → Ends P e
      by End h = record { by = tt }
      by (Continuation a) h = record { by = tt }
      by (Refused r) h = record { by = subst P (sym (area-refused kind s i size h)) unsupported }

  area-only : (check : Bool) → (check ≡ true → P BadCrc) → (kind size : ℕ) (s : List ℕ) → Refuses P (λ (x : Area). Ends P x.ending) (area_in kind size s (read_aed check s))
  area-only check crc kind size s = by (read_aed check s) refl
    where
      by : (r : Result AllocationExtentDescriptor Refusal) → read_aed check s ≡ r → Refuses P (λ (x : Area). Ends P x.ending) (area_in kind size s r)
      by (Err r) e = refuse-only (aed-refused check s P malformed crc (sym e) refl)
      by (Ok h) e =
          pick-only (ltb size (24 + h.length_of_allocation_descriptors)) (refuse-only malformed) (done-only (area-ends kind s 24 h.length_of_allocation_descriptors))

  from-only : (check : Bool) → (check ≡ true → P BadCrc) → (kind length at : ℕ) → Refuses P (λ (x : Area). Ends P x.ending) (area_from check kind length at)
  unfolding area_from
  from-only check crc kind length at =
      pick-only (ltb length 24) (refuse-only malformed)
      (pick-only (ltb 1048576 length) (refuse-only unsupported)
      (then-only (sectors-only (sectors_for length) at) (λ s q. area-only check crc kind length s)))

  next-only : (m : Mount) → (is_checked m ≡ true → P BadCrc) → (kind : ℕ) (a : AdContinuation) → Refuses P (λ (x : Area). Ends P x.ending) (next_area m kind a)
  unfolding next_area
  next-only m crc kind a = standing-only P unsupported (placed m a.partition_ref a.block.0) (from-only (is_checked m) crc kind a.length)

  continued-only : (m : Mount) → (is_checked m ≡ true → P BadCrc) → (kind n : ℕ) (e : AdEnding) → Ends P e → Refuses P Any (continued m kind n e)
  unfolding continued EndsBy
  continued-only m crc kind zero End p = done-only tt
  continued-only m crc kind zero (Refused r) p = refuse-only p.by
  continued-only m crc kind zero (Continuation a) p = refuse-only malformed
  continued-only m crc kind (suc n) End p = done-only tt
  continued-only m crc kind (suc n) (Refused r) p = refuse-only p.by
  continued-only m crc kind (suc n) (Continuation a) p =
      then-only (next-only m crc kind a) (λ x q. then-only (continued-only m crc kind n x.ending q) (λ more u. done-only tt))

  joining-only : (want : ℕ) (b : List ℕ) {more : Ask (List ℕ)} → Refuses P Any more → Refuses P Any (joining want b more)
  joining-only want b p = pick-only (leb want (length b)) (done-only tt) (then-only p (λ rest q. done-only tt))

  pub extent-only : (n at size want : ℕ) → Refuses P Any (extent_bytes n at size want)
  unfolding extent_bytes
  extent-only zero at size want = done-only tt
  extent-only (suc n) at size want = ask-only (λ b. joining-only want (take size b) (extent-only n (at + 1) (size - 2048) (want - length (take size b))))

  extents-only : (m : Mount) (es : List AllocExtent) (want : ℕ) → Refuses P Any (extents_bytes m es want)
  unfolding extents_bytes
  extents-only m [] want = done-only tt
  extents-only m (e ∷ es) want =
      pick-only (eqb e.extent_type 0)
      (standing-only P unsupported (placed m e.partition_ref e.block.0) (λ at.
      then-only (extent-only (sectors_for e.length) at e.length want) (λ b q.
      joining-only want b (extents-only m es (want - length b)))))
      (refuse-only unsupported)

  entry-only : (m : Mount) → (is_checked m ≡ true → P BadCrc) → (icb : LongAd) → Refuses P Any (entry_at m icb)
  unfolding entry_at
  entry-only m crc icb =
      pick-only (eqb icb.length 0) (refuse-only malformed)
      (standing-only P unsupported (icb_placed m icb.location.partition_ref icb.location.block) (λ at. ask-only (λ s. by at s (read_entry (is_checked m) s) refl)))
    where
      by : (at : ℕ) (s : List ℕ) (x : Result FileEntry Refusal) → x ≡ read_entry (is_checked m) s → Refuses P Any (located at s x)
      by at s (Ok e) h = done-only tt
      by at s (Err r) h = refuse-only (read-entry-refused (is_checked m) s P malformed crc h refl)

  chain-only : (m : Mount) → (is_checked m ≡ true → P BadCrc) → (x : Located) → Refuses P Any (chain_of m x)
  chain-only m crc x =
      then-only (continued-only m crc x.entry.kind 32 _ (area-ends x.entry.kind x.sector x.entry.area_at x.entry.area_length)) (λ more q. done-only tt)

  pub file-only : (m : Mount) → (is_checked m ≡ true → P BadCrc) → (icb : LongAd) → Refuses P Any (file_at m icb)
  unfolding file_at
  file-only m crc icb =
      let own : is_checked (entry_mount m icb) ≡ true → P BadCrc = λ c. crc (sym (entry-checked m icb.location.partition_ref) ∙ c) in
      then-only (entry-only m crc icb) (λ x q. pick-only (is_embedded x) (done-only tt) (then-only (chain-only (entry_mount m icb) own x) (λ es u. done-only tt)))

  pub bytes-only : (m : Mount) → (is_checked m ≡ true → P BadCrc) → (icb : LongAd) → Refuses P Any (file_bytes m icb)
  unfolding file_bytes
  bytes-only m crc icb = then-only (file-only m crc icb) (λ f q. by f)
    where
      by : (f : File) → Refuses P Any (content_of (entry_mount m icb) f)
      by (embedded x) = done-only tt
      by (chained x es) = extents-only (entry_mount m icb) es x.entry.information_length

  pub part-only : (m : Mount) → (is_checked m ≡ true → P BadCrc) → (icb : LongAd) → Refuses P Any (file_part m icb)
  unfolding file_part
  part-only m crc icb = then-only (file-only m crc icb) (λ f q. done-only tt)

  pub list-only : (m : Mount) → (is_checked m ≡ true → P BadCrc) → (icb : LongAd) → Refuses P Any (file_extents m icb)
  unfolding file_extents
  list-only m crc icb = then-only (file-only m crc icb) (λ f q. done-only tt)

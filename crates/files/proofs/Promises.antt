-- The promises of files: what follows from the contracts and the definitions alone. Assumes nothing.
use Rattle.std.specs.Prelude.{Option, Some, None, Result, Ok, Err}
use mathlib.Core.Path.{◌≡◌, refl, ap, sym, ◌∙◌}
use mathlib.Core.Bool.{Bool, true, false}
use mathlib.Core.List.{List, [], ◌∷◌, ◌++◌}
use Prim.Native.Nat.{ℕ, ◌+◌, ◌*◌, ◌/◌, ◌≤◌, ◌<◌, ◌^◌, min}
use native.Mathlib.Omega.{arith}
use lib.ListN.{length, take, drop, get_or, length-append, length-take}
use lib.Seq.{take_all}
use lib.Dec.{eqb}
use borrow.Author.Tests.{eq-eqb, ne_eqb, le-leb, eqb-true}
use Rattle.disc.specs.Choice.{pick}
use Rattle.disc.specs.Counts.{reported}
use Rattle.disc.specs.Ask.{Held, Disc, Ask, Outcome, asked, then, Agree}
use Rattle.disc.specs.Ask.Held.{holds, lacks}
use Rattle.disc.specs.Ask.Ask.{done, refuse}
use Rattle.disc.specs.Ask.Outcome.{answered, refused}
use Rattle.disc.specs.Ran.{Ran, ran, after, onward}
use Rattle.disc.specs.Images.{disc, held_from}
use Rattle.disc.specs.Replies.{Replied}
use Rattle.disc.specs.Places.{sector_of, map_count, mapped_start, start_for, icb_start, crossing, placed, icb_placed, started_at, at_entry, is_checked, standing}
use Rattle.disc.specs.declared.places.Mount.{Mount}
use Rattle.disc.specs.declared.refusals.Refusal.{Refusal}
use Rattle.disc.specs.declared.refusals.Refusal.TheVariants.{Malformed, Unsupported}
use Rattle.disc.specs.declared.replies.Reply.{Reply}
use Rattle.disc.proofs.PlaceLaws.{unmapped-icb, unmapped-entry, icb-beyond, icb-within, entry-within}
use Rattle.disc.proofs.RanLaws.{ran-done, ran-refuse, ran-there, ran-missing, ran_then, never}
use Rattle.disc.proofs.ReplyLaws.{replied-one, same-replied}
use Rattle.records.specs.declared.allocations.LongAd.{LongAd}
use Rattle.areas.specs.declared.AllocExtent.{AllocExtent}
use Rattle.areas.specs.declared.AdEnding.TheVariants.{End}
use Rattle.areas.specs.Areas.{Area, extent, area_at, descriptors, descriptor_at, descriptor_of, size_of}
use Rattle.areas.proofs.TotalLaws.{area-total}
use Rattle.entries.specs.FileEntries.{read_entry}
use Rattle.chains.specs.Chains.{continued}
use Rattle.chains.proofs.AskedLaws.{done-asks, pick-asks, then-asks, chain-asks}
use Rattle.chains.proofs.TotalLaws.{chain-within}
use Rattle.files.specs.Reads.{visited, held_at, extents_hold}
use Rattle.files.specs.Files.{Located, located, entry_in, entry_at, entry_mount, is_embedded, embedded_bytes, chain_of, File, resolved, file_at, content_of, file_bytes, file_part, file_extents, visits_of, file_visited, visits_in}
use Rattle.files.specs.Files.File.{embedded, chained}
use Rattle.files.specs.Inner.Places.{place_on}
use Rattle.files.specs.Inner.Pieces.{sectors_read, rest_of, HeldPiece}
use Rattle.files.proofs.EntryLaws.{entry-asks, locates}
use Rattle.files.proofs.PieceLaws.{weigh-type, weigh-held}
use Rattle.files.proofs.BoundLaws.{extents-cut, extents-bound}
use Rattle.areas.specs.Totals.{total}
use Rattle.chains.specs.Totals.{AtMost}
use Rattle.files.specs.Example.{example, own, first, second}
use Rattle.entries.specs.declared.file_entries.FileEntry.{FileEntry}

-- ---- RULES 2.7: images that agree on the sectors that a read asks for give the same reply and the same memory

pub read_same : (full : Refusal) (image image' : List ℕ) (m : Mount) (icb : LongAd)
    → Agree (disc image) (disc image') (asked (disc image) (file_bytes m icb))
    → {before after after' : List ℕ} {reply reply' : Reply}
    → Replied full (ran (disc image) (file_bytes m icb)) before after reply
    → Replied full (ran (disc image') (file_bytes m icb)) before after' reply'
    → (reply ≡ reply') × (after ≡ after')
read_same full image image' m icb h p q = replied-one (same-replied (file_bytes m icb) (disc image) (disc image') h p) q

-- ---- the bound

-- the chain of a file
pub chain-few : (m : Mount) (x : Located) → AtMost 16384 (chain_of m x)
chain-few m x = chain-asks m x.entry.kind 32 (area_at x.entry.kind x.sector x.entry.area_at x.entry.area_length)

-- its entry and its chain
pub file-few : (m : Mount) (icb : LongAd) → AtMost 16385 (file_at m icb)
unfolding file_at
file-few m icb = then-asks (entry_at m icb) (resolved (entry_mount m icb)) 1 16384 (entry-asks m icb) (λ x.
    pick-asks (is_embedded x) 16384 (done-asks _ 16384) (then-asks (chain_of (entry_mount m icb) x) _ 16384 0 (chain-few (entry_mount m icb) x) (λ es. done-asks _ 0)))

module _ (image : List ℕ) (m : Mount) (icb : LongAd) where
  abbrev content : File → Ask (List ℕ)
  content f = content_of (entry_mount m icb) f

  bound-file : (o : Outcome File) (c : ℕ) → c ≤ 16385 → (b : List ℕ) → (onward o c (λ f. ran (disc image) (content f))).outcome ≡ answered b
      → (onward o c (λ f. ran (disc image) (content f))).count ≤ 16385 + length b / 2048 + visits_in (onward o c (λ f. ran (disc image) (done (visits_of f)))).outcome
  bound-file (answered (embedded x)) c h b q = rw (ran-done, ran-done) (omega arith)
  bound-file (answered (chained x es)) c h b q = rw ran-done (omega (arith, extents-bound image (entry_mount m icb) es x.entry.information_length b q))
  bound-file (refused r) c h b q = never q

  -- a read answered with L bytes after visiting E extents asked for at most 16,385 + L div 2,048 + E sectors
  pub read-bound : (b : List ℕ) → (ran (disc image) (file_bytes m icb)).outcome ≡ answered b
      → (ran (disc image) (file_bytes m icb)).count ≤ 16385 + length b / 2048 + visits_in (ran (disc image) (file_visited m icb)).outcome
  unfolding file_bytes file_visited
  read-bound b q =
      rw (ran_then (disc image) (file_at m icb) content, ran_then (disc image) (file_at m icb) (λ f. done (visits_of f)))
      (bound-file (ran (disc image) (file_at m icb)).outcome _ ((file-few m icb).most (disc image)) b (rw (ran_then (disc image) (file_at m icb) content) at q))

-- ---- a file whose entry x was read

module _ (d : Disc) (m : Mount) (icb : LongAd) {x : Located} (h : (ran d (entry_at m icb)).outcome ≡ answered x) where
  entry_runs : ran d (entry_at m icb) ≡ record { outcome = answered x; count = 1 }
  unfolding entry_at
  entry_runs = by (eqb icb.length 0) (icb_placed m icb.location.partition_ref icb.location.block) h
    where
      parsed : (at : ℕ) (s : List ℕ) (r : Result FileEntry Refusal) → (ran d (located at s r)).outcome ≡ answered x → after 1 (ran d (located at s r)) ≡ record { outcome = answered x; count = 1 }
      parsed at s (Err r) q = never (sym (ap (λ (y : Ran Located). y.outcome) (ran-refuse d r)) ∙ q)
      parsed at s (Ok e) q = rw ran-done (ap (λ o. record { outcome = o; count = 1 }) (sym (ap (λ (y : Ran Located). y.outcome) (ran-done d (record { at = at; sector = s; entry = e }))) ∙ q))

      sector : (at : ℕ) (y : Held) → d at ≡ y → (ran d (entry_in (is_checked m) at)).outcome ≡ answered x → ran d (entry_in (is_checked m) at) ≡ record { outcome = answered x; count = 1 }
      sector at (holds b) e q =
          let w = ran-there d at (λ s. located at s (read_entry (is_checked m) s)) b e in
          w ∙ parsed at b (read_entry (is_checked m) b) (sym (ap (λ (y : Ran Located). y.outcome) w) ∙ q)
      sector at lacks e q = never (sym (ap (λ (y : Ran Located). y.outcome) (ran-missing d at (λ s. located at s (read_entry (is_checked m) s)) e)) ∙ q)

      by : (t : Bool) (o : Option ℕ) → (ran d (pick t (refuse Malformed) (standing o (entry_in (is_checked m))))).outcome ≡ answered x
          → ran d (pick t (refuse Malformed) (standing o (entry_in (is_checked m)))) ≡ record { outcome = answered x; count = 1 }
      by true o q = never (sym (ap (λ (y : Ran Located). y.outcome) (ran-refuse d Malformed)) ∙ q)
      by false None q = never (sym (ap (λ (y : Ran Located). y.outcome) (ran-refuse d Unsupported)) ∙ q)
      by false (Some at) q = sector at (d at) refl q

  file-runs : ran d (file_at m icb) ≡ after 1 (ran d (resolved (entry_mount m icb) x))
  unfolding file_at
  file-runs = ran_then d (entry_at m icb) (resolved (entry_mount m icb)) ∙ rw entry_runs

  -- an embedded file asks for one sector
  pub embedded-one : is_embedded x ≡ true → ran d (file_bytes m icb) ≡ record { outcome = answered (embedded_bytes x); count = 1 }
  unfolding file_bytes
  embedded-one e = ran_then d (file_at m icb) (content_of (entry_mount m icb)) ∙ rw (file-runs, e, ran-done, ran-done)

-- the area of an entry lies in its sector
area_small : (image : List ℕ) (m : Mount) (icb : LongAd) {x : Located} → (ran (disc image) (entry_at m icb)).outcome ≡ answered x → x.entry.area_length ≤ 2048
unfolding place_on
area_small image m icb h = (rw h at (locates image m icb refl)).small

-- extents hold no more than they say
held-total : (image : List ℕ) (m : Mount) (es : List AllocExtent) → length (extents_hold image m es) ≤ total es
unfolding extents_hold total
held-total image m [] = omega arith
held-total image m (e ∷ es) = by (placed m e.partition_ref e.block.0) (held-total image m es)
  where
    by : (o : Option ℕ) → length (extents_hold image m es) ≤ total es → length (held_at image e.length o ++ extents_hold image m es) ≤ e.length + total es
    by None h = omega arith
    by (Some s) h = simp (length-append, length-take) (omega arith)

-- cutting where the read stops is cutting the joined bytes at the end: es are the file's extents, read as the entry's own descriptors are
module _ (image : List ℕ) (m : Mount) (icb : LongAd) {x : Located} (h : (ran (disc image) (entry_at m icb)).outcome ≡ answered x) (n : is_embedded x ≡ false)
    {es : List AllocExtent} (k : (ran (disc image) (chain_of (entry_mount m icb) x)).outcome ≡ answered es) where
  file-chained : ran (disc image) (file_at m icb) ≡ record { outcome = answered (chained x es); count = 1 + (ran (disc image) (chain_of (entry_mount m icb) x)).count }
  file-chained =
      file-runs (disc image) m icb h ∙ rw (n, ran_then (disc image) (chain_of (entry_mount m icb) x) (λ l. done (chained x l)), k, ran-done)
      (ap (λ j. record { outcome = answered (chained x es); count = j }) (omega arith))

  chain_runs : ran (disc image) (file_bytes m icb) ≡ after (1 + (ran (disc image) (chain_of (entry_mount m icb) x)).count) (rest_of image (entry_mount m icb) es x.entry.information_length)
  unfolding file_bytes
  chain_runs = ran_then (disc image) (file_at m icb) (content_of (entry_mount m icb)) ∙ rw file-chained

  pub read-cut : {b : List ℕ} → (ran (disc image) (file_bytes m icb)).outcome ≡ answered b → b ≡ take x.entry.information_length (extents_hold image (entry_mount m icb) es)
  read-cut {b} q = extents-cut image (entry_mount m icb) es x.entry.information_length b (sym (ap (λ (y : Ran (List ℕ)). y.outcome) chain_runs) ∙ q)

  -- short totals are accepted
  pub read_short : {b : List ℕ} → (ran (disc image) (file_bytes m icb)).outcome ≡ answered b → length (extents_hold image (entry_mount m icb) es) ≤ x.entry.information_length → b ≡ extents_hold image (entry_mount m icb) es
  read_short q l = read-cut q ∙ take_all _ (extents_hold image (entry_mount m icb) es) l

  -- no chain lists 2^53 bytes: 2,048 bytes of descriptors in the entry, and 32 times 1,048,576 behind it
  pub chain-small : length (extents_hold image (entry_mount m icb) es) < 2 ^ 53
  chain-small =
      let area : Area = area_at x.entry.kind x.sector x.entry.area_at x.entry.area_length in
      let a : total area.extents ≤ 2 ^ 38 = omega (arith, area-total x.entry.kind x.sector x.entry.area_at x.entry.area_length, area_small image m icb h) in
      let t : total es ≤ 32 * 2 ^ 47 + 2 ^ 38 = rw k at ((chain-within (entry_mount m icb) x.entry.kind 32 (2 ^ 38) area a).most (disc image)) in
      omega (arith, held-total image (entry_mount m icb) es)

  -- an information length of 2^64 - 1 is an ordinary number: the file is answered with what its extents hold
  module _ (l : x.entry.information_length ≡ 0xffff_ffff_ffff_ffff) {b : List ℕ} (q : (ran (disc image) (file_bytes m icb)).outcome ≡ answered b) where
    pub read-endless : b ≡ extents_hold image (entry_mount m icb) es
    read-endless = read_short q (omega (arith, chain-small))

    pub endless-reply : {full : Refusal} {before after : List ℕ} {reply : Reply} → Replied full (ran (disc image) (file_bytes m icb)) before after reply → length (extents_hold image (entry_mount m icb) es) ≤ length before
        → (reply ≡ record { answer = 0; count = reported (ran (disc image) (file_bytes m icb)).count; length = length (extents_hold image (entry_mount m icb) es) })
        × (after ≡ extents_hold image (entry_mount m icb) es ++ drop (length (extents_hold image (entry_mount m icb) es)) before)
    endless-reply {full} {before} p r =
        let g = le-leb (length (extents_hold image (entry_mount m icb) es)) (length before) r in
        (p.says ∙ rw (q, read-endless, g), p.leaves ∙ rw (q, read-endless, g))

-- ---- the example of RULES 7.11: short extents 3,000 at block 10, 100 at 20, 5,000 of type 1 at 30

pub example-area : area_at 0 (0xb8 ∷ 0x0b ∷ 0 ∷ 0 ∷ 10 ∷ 0 ∷ 0 ∷ 0 ∷ 100 ∷ 0 ∷ 0 ∷ 0 ∷ 20 ∷ 0 ∷ 0 ∷ 0 ∷ 0x88 ∷ 0x13 ∷ 0 ∷ 0x40 ∷ 30 ∷ 0 ∷ 0 ∷ 0 ∷ []) 0 24
    ≡ record { extents = example; ending = End }
unfolding area_at descriptors descriptor_at descriptor_of size_of
example-area = refl

pub example-visits : (visited example 3050 ≡ 2) × (visited example 0 ≡ 1) × (visited example 3101 ≡ 3)
unfolding visited
example-visits = (refl, refl, refl)

-- the three sectors that it takes are there, in the partition of its entry
module _ (image : List ℕ) (m : Mount) (icb : LongAd) (a : 2 ≤ held_from image (sector_of (entry_mount m icb).start 10)) (b : 1 ≤ held_from image (sector_of (entry_mount m icb).start 20)) where
  held-1 : (want : ℕ) → sectors_read 3000 want ≤ 2 → HeldPiece image (own m icb) (extent 3000 0 10 None) want (2048 * sector_of (own m icb).start 10) (sectors_read 3000 want) (min 3000 want)
  unfolding placed
  held-1 want h = weigh-held image (own m icb) (extent 3000 0 10 None) want refl refl (omega arith)

  held-2 : (want : ℕ) → sectors_read 100 want ≤ 1 → HeldPiece image (own m icb) (extent 100 0 20 None) want (2048 * sector_of (own m icb).start 20) (sectors_read 100 want) (min 100 want)
  unfolding placed
  held-2 want h = weigh-held image (own m icb) (extent 100 0 20 None) want refl refl (omega arith)

  reads-3050 : rest_of image (own m icb) example 3050 ≡ record { outcome = answered ((first image m icb) 3000 ++ (second image m icb) 50); count = 3 }
  reads-3050 = (held-1 3050 (omega arith)).runs _ ∙ rw ((held-2 50 (omega arith)).runs (extent 5000 1 30 None ∷ []))

  reads-0 : rest_of image (own m icb) example 0 ≡ record { outcome = answered []; count = 1 }
  reads-0 = (held-1 0 (omega arith)).runs _

  reads-3101 : rest_of image (own m icb) example 3101 ≡ record { outcome = refused Unsupported; count = 3 }
  reads-3101 =
      (held-1 3101 (omega arith)).runs _
      ∙ rw ((held-2 101 (omega arith)).runs (extent 5000 1 30 None ∷ []), weigh-type image (own m icb) (extent 5000 1 30 None) 1 (λ z. omega arith) [])

  module _ {x : Located} (h : (ran (disc image) (entry_at m icb)).outcome ≡ answered x) (n : x.entry.kind ≡ 0)
      (l : area_at 0 x.sector x.entry.area_at x.entry.area_length ≡ record { extents = example; ending = End }) where
    lists : ran (disc image) (chain_of (own m icb) x) ≡ record { outcome = answered example; count = 0 }
    unfolding continued then
    lists = rw (n, l) (ran-done (disc image) example)

    comes : (want : ℕ) → x.entry.information_length ≡ want → (r : Ran (List ℕ)) → rest_of image (own m icb) example want ≡ r → ran (disc image) (file_bytes m icb) ≡ after 1 r
    comes want e r q =
        chain_runs image m icb h (rw n) (ap (λ (y : Ran (List AllocExtent)). y.outcome) lists)
        ∙ rw (lists, e, q)

    -- 3,050 bytes after 4 sectors; none after 2; refusal 4
    pub example-3050 : x.entry.information_length ≡ 3050 → ran (disc image) (file_bytes m icb) ≡ record { outcome = answered ((first image m icb) 3000 ++ (second image m icb) 50); count = 4 }
    example-3050 e = comes 3050 e _ reads-3050

    pub example-0 : x.entry.information_length ≡ 0 → ran (disc image) (file_bytes m icb) ≡ record { outcome = answered []; count = 2 }
    example-0 e = comes 0 e _ reads-0

    pub example-3101 : x.entry.information_length ≡ 3101 → ran (disc image) (file_bytes m icb) ≡ record { outcome = refused Unsupported; count = 4 }
    example-3101 e = comes 3101 e _ reads-3101

-- ---- how the entry's own descriptors are read: one that names its partition goes by that, and a short one by the partition in which the entry stands

module _ (m : Mount) (icb : LongAd) (block : ℕ) where
  pub named-own : (p : ℕ) → placed (entry_mount m icb) (Some p) block ≡ placed m (Some p) block
  unfolding placed start_for mapped_start at_entry
  named-own p = by (eqb m.maps 0) refl
    where
      mapped : (o : Option ℕ) → eqb m.maps 0 ≡ false → crossing block (start_for (started_at m o) p) ≡ crossing block (start_for m p)
      mapped None e = refl
      mapped (Some s) e = rw e

      by : (t : Bool) → eqb m.maps 0 ≡ t → placed (entry_mount m icb) (Some p) block ≡ placed m (Some p) block
      by true e = ap (λ x. placed x (Some p) block) (unmapped-entry m (eqb-true _ _ e) icb.location.partition_ref)
      by false e = mapped (icb_start m icb.location.partition_ref) e

  pub short-own : {s : ℕ} → icb_placed m icb.location.partition_ref icb.location.block ≡ Some s
      → placed (entry_mount m icb) None block ≡ icb_placed m icb.location.partition_ref block
  unfolding placed at_entry icb_placed
  short-own {s} e = by (icb_start m icb.location.partition_ref) e
    where
      by : (o : Option ℕ) → crossing icb.location.block o ≡ Some s → placed (started_at m o) None block ≡ crossing block o
      by None q = absurd (let z : ◌≡◌ {A = ℕ} 0 1 = cc in omega arith)
      by (Some t) q = refl

-- ---- a volume without maps: whatever the ICB's reference, entry, chain and extents are all read by the volume's own mount

module _ (m : Mount) (e : m.maps ≡ 0) (icb : LongAd) where
  pub unmapped-own : entry_mount m icb ≡ m
  unmapped-own = unmapped-entry m e icb.location.partition_ref

  pub unmapped-at : entry_at m icb ≡ pick (eqb icb.length 0) (refuse Malformed) (entry_in (is_checked m) (sector_of m.start icb.location.block))
  unfolding entry_at
  unmapped-at = rw (unmapped-icb m e)

  pub unmapped-file : file_at m icb ≡ then (entry_at m icb) (resolved m)
  unfolding file_at
  unmapped-file = ap (λ x. then (entry_at m icb) (resolved x)) unmapped-own

  pub unmapped-bytes : file_bytes m icb ≡ then (file_at m icb) (content_of m)
  unfolding file_bytes
  unmapped-bytes = ap (λ x. then (file_at m icb) (content_of x)) unmapped-own

-- ---- a volume with maps: the entry stands in the partition of its ICB's map, and so do its short extents

module _ (m : Mount) (h : m.maps ≡ 0 → ⊥) (icb : LongAd) (k : icb.location.partition_ref < map_count m) where
  pub mapped_at : entry_at m icb ≡ pick (eqb icb.length 0) (refuse Malformed) (entry_in (is_checked m) (sector_of (get_or m.starts icb.location.partition_ref 0) icb.location.block))
  unfolding entry_at
  mapped_at = rw (icb-within m h icb.location.partition_ref k)

  pub mapped-own : (entry_mount m icb).start ≡ get_or m.starts icb.location.partition_ref 0
  mapped-own = ap (λ (x : Mount). x.start) (entry-within m h icb.location.partition_ref k)

-- ---- an ICB that is refused before any sector is asked for: every call on the file is

pub record AtOnce (d : Disc) (m : Mount) (icb : LongAd) (why : Refusal) : Type 0 where
  pub bytes : ran d (file_bytes m icb) ≡ record { outcome = refused why; count = 0 }
  pub part : ran d (file_part m icb) ≡ record { outcome = refused why; count = 0 }
  pub extents : ran d (file_extents m icb) ≡ record { outcome = refused why; count = 0 }

module _ (d : Disc) (m : Mount) (icb : LongAd) where
  at_once : (why : Refusal) → ran d (entry_at m icb) ≡ record { outcome = refused why; count = 0 } → AtOnce d m icb why
  unfolding file_bytes file_part file_extents file_at
  at_once why e =
      let f : ran d (then (entry_at m icb) (resolved (entry_mount m icb))) ≡ record { outcome = refused why; count = 0 } = rw (ran_then, e) in
      record { bytes = rw (ran_then, f); part = rw (ran_then, f); extents = rw (ran_then, f) }

  -- a length of 0 is 2, whatever its reference
  pub empty-refused : icb.length ≡ 0 → AtOnce d m icb Malformed
  unfolding entry_at
  empty-refused z = at_once Malformed (rw (eq-eqb icb.length 0 z) (ran-refuse d Malformed))

  -- and then a reference beyond the maps is 4
  pub beyond-refused : (icb.length ≡ 0 → ⊥) → (m.maps ≡ 0 → ⊥) → map_count m ≤ icb.location.partition_ref → AtOnce d m icb Unsupported
  unfolding entry_at
  beyond-refused z h k = at_once Unsupported (rw (ne_eqb icb.length 0 z, icb-beyond m h icb.location.partition_ref k) (ran-refuse d Unsupported))

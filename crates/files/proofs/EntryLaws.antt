-- The entry of a file, found from its ICB. Assumes nothing.
use Rattle.std.specs.Prelude.{Option, Some, None, Result, Ok, Err}
use mathlib.Core.Path.{◌≡◌, refl, ap, sym, ◌∙◌}
use mathlib.Core.Bool.{Bool, true, false}
use mathlib.Core.List.{List, [], ◌∷◌}
use Prim.Native.Nat.{ℕ, zero, suc, ◌+◌, ◌*◌, ◌≤◌, ◌<◌, ◌^◌, min}
use native.Mathlib.Omega.{arith}
use lib.ListN.{length, take, drop, length-take, length-drop}
use lib.Seq.{length-take-le, take-take, take-nil, drop-drop}
use lib.Dec.{eqb}
use mir.Syntax.{w64}
use mir.Val.{Fits}
use borrow.Author.Tests.{eq-eqb, ne_eqb, eqb-true, eqb-false}
use Rattle.disc.specs.Choice.{pick}
use Rattle.disc.specs.Ask.{bytes_in}
use Rattle.disc.specs.Ask.Held.{holds, lacks}
use Rattle.disc.specs.Ask.Ask.{done}
use Rattle.disc.specs.Ask.Outcome.{answered, refused}
use Rattle.disc.specs.Ran.{Ran, ran, after, followed}
use Rattle.disc.specs.Images.{there, disc, held_from}
use Rattle.disc.specs.Places.{icb_placed, is_checked, StandsIn}
use Rattle.disc.specs.declared.places.Mount.{Mount}
use Rattle.disc.specs.declared.places.Sector.{Sector}
use Rattle.disc.specs.declared.refusals.Refusal.{Refusal}
use Rattle.disc.specs.declared.refusals.Refusal.TheVariants.{Io, Malformed, Unsupported}
use Rattle.disc.proofs.RanLaws.{ran-done, ran-refuse, ran-there, ran-missing, ran_then}
use Rattle.disc.proofs.ImageLaws.{held, missing}
use Rattle.disc.proofs.PlaceLaws.{in-nowhere, in-at}
use Rattle.records.specs.declared.allocations.LongAd.{LongAd}
use Rattle.areas.specs.declared.AllocExtent.{AllocExtent}
use Rattle.areas.proofs.PartLaws.{area-in-part}
use Rattle.entries.specs.FileEntries.{read_entry}
use Rattle.entries.specs.declared.file_entries.FileEntry.{FileEntry}
use Rattle.entries.proofs.EntryLaws.{read-entry}
use Rattle.chains.specs.Inner.Walks.{left, hops_at}
use Rattle.chains.specs.Inner.Follows.{chain_at, WholeChain, BrokenChain, Followed}
use Rattle.chains.specs.declared.cursors.ChainCursor.{ChainCursor}
use Rattle.chains.proofs.CountLaws.{whole-hops}
use Rattle.chains.proofs.AskedLaws.{done-asks, refuse-asks, pick-asks, ask-asks, standing-asks}
use Rattle.files.specs.declared.icbs.FilePlace.{FilePlace}
use Rattle.files.specs.Files.{Located, located, entry_in, entry_at, entry_mount, is_embedded, hops_of, resolved, file_at, file_hops}
use Rattle.files.specs.Files.File.{chained}
use Rattle.files.specs.Inner.Places.{place_at, place_by, place_on, place_from, place_of}
use Rattle.files.specs.Inner.Wholes.{read_by, place_in, front_of, FoundPlace, Finds, Locates, EmbeddedFile, Resolves}
use Rattle.chains.specs.Totals.{AtMost}
use Rattle.disc.specs.declared.refusals.CountedRefusal.{CountedRefusal}
use Rattle.files.specs.declared.resolves.Resolved.TheVariants.{Embedded, Chained}

-- a part of a part
part_of : (n i m : ℕ) (s : List ℕ) → i + n ≤ m → take n (drop i (take m s)) ≡ take n (drop i s)
part_of n zero m s h = take-take n m s (omega arith)
part_of n (suc i) m [] h = rw (take-nil m)
part_of n (suc i) zero (x ∷ s) h = absurd (omega arith)
part_of n (suc i) (suc m) (x ∷ s) h = part_of n i m s (omega arith)

-- the entry is read from one sector
pub entry-asks : (m : Mount) (icb : LongAd) → AtMost 1 (entry_at m icb)
unfolding entry_at
entry-asks m icb = pick-asks (eqb icb.length 0) 1 (refuse-asks Malformed 1) (standing-asks (icb_placed m icb.location.partition_ref icb.location.block) _ 1 (λ at. ask-asks at _ 0 (λ s. by at s (read_entry (is_checked m) s))))
  where
    by : (at : ℕ) (s : List ℕ) (r : Result FileEntry Refusal) → AtMost 0 (located at s r)
    by at s (Err r) = refuse-asks r 0
    by at s (Ok e) = done-asks _ 0

-- ---- the returns of `place_in`

module _ (check : Bool) (s : List ℕ) (from : ℕ) {r : Result FileEntry Refusal} (q : r ≡ read_entry check s) where
  pub place_none : {why : Refusal} → r ≡ Err why → Err (record { why = why; count = 1 }) ≡ place_in check s from
  unfolding place_in
  place_none f = rw (← q, f)

  module _ {x : FileEntry} (f : r ≡ Ok x) where
    pub place_found : Ok (record { kind = x.kind; information = x.information_length; at = from + x.area_at; size = x.area_length }) ≡ place_in check s from
    unfolding place_in
    place_found = rw (← q, f)

    pub place-adds : (length s ≤ 2048) × (from + 2048 < 2 ^ 64) → Fits w64 (from + x.area_at)
    place-adds h = omega (arith, (read-entry check s q f).inside, h.0, h.1)

-- ---- the returns of `place_from`

-- an entry is read from one sector
pub locate-room : (image : List ℕ) (sector : ℕ) {b : List ℕ} → b ≡ bytes_in (disc image sector) → length b ≤ 2048
unfolding disc
locate-room image sector e = rw e (by (there image sector))
  where
    by : (t : Bool) → length (bytes_in (pick t (holds (take 2048 (drop (2048 * sector) image))) lacks)) ≤ 2048
    by true = rw length-take (omega arith)
    by false = omega arith

module _ (image : List ℕ) (check : Bool) (sector : ℕ) where
  module _ {h : ℕ} (e : h ≡ held_from image sector) where
    missing-runs : h ≡ 0 → Finds image (entry_in check sector) (Err (record { why = Io; count = 1 }))
    missing-runs k = ran-missing (disc image) sector _ (missing image sector (omega arith))

    pub from-missing : h ≡ 0 → Err (record { why = Io; count = 1 }) ≡ place_from image check sector
    unfolding place_on
    from-missing k = rw (missing-runs k)

    module _ (k : h ≡ 0 → ⊥) {b : List ℕ} (p : b ≡ bytes_in (disc image sector)) where
      abbrev from : ℕ
      from = 2048 * sector

      inside : from + 2048 ≤ length image
      inside = omega arith

      bytes : b ≡ take 2048 (drop from image)
      bytes = p ∙ ap bytes_in (held image sector inside)

      goes_on : ran (disc image) (entry_in check sector) ≡ after 1 (ran (disc image) (located sector b (read_entry check b)))
      goes_on = ran-there (disc image) sector _ _ (held image sector inside) ∙ rw (← bytes)

      none_read : {why : Refusal} → read_entry check b ≡ Err why → Finds image (entry_in check sector) (Err (record { why = why; count = 1 }))
      none_read f = goes_on ∙ rw (f, ran-refuse)

      module _ {x : FileEntry} (f : read_entry check b ≡ Ok x) where
        in-sector : x.area_at + x.area_length ≤ 2048
        in-sector =
            let l : length (take 2048 (drop from image)) ≡ 2048 = length-take-le 2048 (drop from image) (rw length-drop (omega (arith, inside))) in
            omega (arith, (rw (bytes, l) at (read-entry check b refl f).inside))

        abbrev it : Located
        it = record { at = sector; sector = b; entry = x }

        found-entry : ran (disc image) (entry_in check sector) ≡ record { outcome = answered it; count = 1 }
        found-entry = goes_on ∙ rw (f, ran-done)

        entry_read : Finds image (entry_in check sector) (Ok (place_at from x))
        entry_read = record {
          entry = it;
          runs = found-entry;
          is = refl;
          bytes = rw (bytes, part_of (min x.area_length x.information_length) x.area_at 2048 (drop from image) (omega (arith, in-sector)), drop-drop);
          area = rw bytes (area-in-part image from 2048 x.kind x.area_at x.area_length in-sector);
          inside = omega (arith, in-sector, inside);
          small = omega (arith, in-sector);
        }

      entry_runs : Finds image (entry_in check sector) (place_in check b from)
      unfolding place_in
      entry_runs = by (read_entry check b) refl
        where
          by : (y : Result FileEntry Refusal) → read_entry check b ≡ y → Finds image (entry_in check sector) (read_by from y)
          by (Err why) f = none_read f
          by (Ok x) f = entry_read f

      same_place : place_in check b from ≡ place_from image check sector
      unfolding place_in place_on
      same_place = by (read_entry check b) refl
        where
          by : (y : Result FileEntry Refusal) → read_entry check b ≡ y → read_by from y ≡ place_by (ran (disc image) (entry_in check sector)).outcome (ran (disc image) (entry_in check sector)).count
          by (Err why) f = rw (none_read f)
          by (Ok x) f = rw (found-entry f)

      pub from-entry : {r : Result FilePlace CountedRefusal} → r ≡ place_in check b (2048 * sector) → r ≡ place_from image check sector
      from-entry q = q ∙ same_place

  -- what it says is what the tree comes to
  from-finds : Finds image (entry_in check sector) (place_from image check sector)
  from-finds = by-held (held_from image sector) refl
    where
      by-held : (h : ℕ) → h ≡ held_from image sector → Finds image (entry_in check sector) (place_from image check sector)
      by-held zero e = rw (← from-missing e refl) (missing-runs e refl)
      by-held (suc h) e =
          let k : suc h ≡ 0 → ⊥ = λ u. omega arith in
          rw (← same_place e k refl) (entry_runs e k refl)

-- ---- the returns of `locate`

module _ (image : List ℕ) (m : Mount) (icb : LongAd) where
  abbrev place : Option ℕ
  place = icb_placed m icb.location.partition_ref icb.location.block

  zero-runs : icb.length ≡ 0 → Locates image m icb (Err (record { why = Malformed; count = 0 }))
  unfolding entry_at
  zero-runs h = rw (eq-eqb icb.length 0 h) (ran-refuse (disc image) Malformed)

  pub locate-zero : icb.length ≡ 0 → Err (record { why = Malformed; count = 0 }) ≡ place_of image m icb
  unfolding place_on
  locate-zero h = rw (zero-runs h)

  module _ (z : icb.length ≡ 0 → ⊥) where
    nowhere-runs : place ≡ None → Locates image m icb (Err (record { why = Unsupported; count = 0 }))
    unfolding entry_at
    nowhere-runs w = rw (ne_eqb icb.length 0 z, w) (ran-refuse (disc image) Unsupported)

    nowhere-is : place ≡ None → Err (record { why = Unsupported; count = 0 }) ≡ place_of image m icb
    unfolding place_on
    nowhere-is w = rw (nowhere-runs w)

    -- an ICB that stands in a sector
    stood : {sector : ℕ} → place ≡ Some sector → entry_at m icb ≡ entry_in (is_checked m) sector
    unfolding entry_at
    stood w = rw (ne_eqb icb.length 0 z, w)

    module _ {p : Option Sector} (q : StandsIn place p) where
      pub locate-nowhere : p ≡ None → Err (record { why = Unsupported; count = 0 }) ≡ place_of image m icb
      locate-nowhere e = nowhere-is (in-nowhere place q e)

      pub locate-at : {s : Sector} → p ≡ Some s → {check : Bool} → check ≡ is_checked m → {r : Result FilePlace CountedRefusal} → r ≡ place_from image check s.0 → r ≡ place_of image m icb
      locate-at {s} e c f = rw (stood (in-at place q e), ← c) f

  -- what every call comes to, from what `locate` says
  pub locates : {r : Result FilePlace CountedRefusal} → r ≡ place_of image m icb → Locates image m icb r
  locates q = rw q (by_length (eqb icb.length 0) refl)
    where
      by_place : (icb.length ≡ 0 → ⊥) → (o : Option ℕ) → place ≡ o → Locates image m icb (place_of image m icb)
      by_place z None w = rw (← nowhere-is z w) (nowhere-runs z w)
      by_place z (Some sector) w = rw (stood z w) (from-finds image (is_checked m) sector)

      by_length : (t : Bool) → eqb icb.length 0 ≡ t → Locates image m icb (place_of image m icb)
      by_length true t = let h : icb.length ≡ 0 = eqb-true _ _ t in rw (← locate-zero h) (zero-runs h)
      by_length false t = by_place (eqb-false _ _ t) place refl

-- ---- what the entry leads to

module _ (image : List ℕ) (m : Mount) (icb : LongAd) {p : FilePlace} (q : FoundPlace image (entry_at m icb) p) where
  pub found-kind : p.kind ≡ q.entry.entry.kind
  found-kind = ap (λ (x : FilePlace). x.kind) q.is

  pub found-goes : ran (disc image) (file_at m icb) ≡ after 1 (ran (disc image) (resolved (entry_mount m icb) q.entry))
  unfolding file_at
  found-goes = rw (ran_then, q.runs)

  found-hops : ran (disc image) (file_hops m icb) ≡ after 1 (ran (disc image) (pick (is_embedded q.entry) (done 0) (hops_of (entry_mount m icb) q.entry)))
  unfolding file_hops
  found-hops = rw (ran_then, q.runs)

  pub found-embedded : p.kind ≡ 3 → EmbeddedFile image m icb p
  found-embedded k = record {
    entry = q.entry;
    runs = found-goes ∙ rw (← found-kind, eq-eqb p.kind 3 k, ran-done);
    is = q.is;
    bytes = q.bytes;
    inside = q.inside;
    hops = ap (λ (x : Ran ℕ). x.outcome) found-hops ∙ rw (← found-kind, eq-eqb p.kind 3 k, ran-done);
  }

-- ---- the entry and the chain: r is what `locate` found, and c what `follow` did

module _ (image : List ℕ) (m : Mount) (icb : LongAd) {r : Result FilePlace CountedRefusal} (y : r ≡ place_of image m icb) where
  refused-few : {why : Refusal} {n : ℕ} → ran (disc image) (entry_at m icb) ≡ record { outcome = refused why; count = n } → n ≤ 1
  refused-few {why} {n} e = rw e at ((entry-asks m icb).most (disc image))

  pub resolve-refused : {w : CountedRefusal} → r ≡ Err w → Resolves image m icb (Err w)
  unfolding file_at
  resolve-refused {w} e =
      let q : Locates image m icb (Err w) = locates image m icb (sym e ∙ y) in
      record { runs = rw (ran_then, q); few = omega (arith, refused-few q) }

  module _ {p : FilePlace} (e : r ≡ Ok p) where
    found : FoundPlace image (entry_at m icb) p
    found = locates image m icb (sym e ∙ y)

    pub resolve-embedded : p.kind ≡ 3 → Resolves image m icb (Ok (Embedded p))
    resolve-embedded k = found-embedded image m icb found k

    module _ (k : p.kind ≡ 3 → ⊥) {own : Mount} (o : own ≡ entry_mount m icb) {front : ChainCursor} (g : front ≡ front_of p) (c : Result ℕ CountedRefusal) (w : Followed image own p.kind front c) where
      found-size : p.size ≡ found.entry.entry.area_length
      found-size = ap (λ (x : FilePlace). x.size) found.is

      -- the chain in the sector is the chain in the image
      follows : ran (disc image) (file_at m icb) ≡ after 1 (followed (chain_at image (entry_mount m icb) p.kind (front_of p)) (λ es. ran (disc image) (done (chained found.entry es))))
      follows = found-goes image m icb found ∙ rw (← found-kind image m icb found, ne_eqb p.kind 3 k, ran_then, ← found-size, found.area)

      module _ {v : CountedRefusal} (f : c ≡ Err v) where
        broken : BrokenChain image (entry_mount m icb) p.kind (front_of p) v.why v.count
        broken = rw (o, g) at (rw f at w)

        pub broken-fits : Fits w64 (v.count + 1)
        broken-fits = omega (arith, broken.few)

        pub resolve-broken : Resolves image m icb (Err (record { why = v.why; count = v.count + 1 }))
        resolve-broken = record { runs = follows ∙ rw broken.runs (ap (λ j. record { outcome = refused v.why; count = j }) (omega arith)); few = omega (arith, broken.few) }

      module _ {n : ℕ} (f : c ≡ Ok n) where
        whole : WholeChain image (entry_mount m icb) p.kind (front_of p) n
        whole = rw (o, g) at (rw f at w)

        pub whole-fits : Fits w64 (n + 1)
        whole-fits = omega (arith, whole.few)

        whole-goes : (ran (disc image) (file_hops m icb)).outcome ≡ answered (hops_at image (entry_mount m icb) p.kind (front_of p))
        whole-goes =
            ap (λ (x : Ran ℕ). x.outcome) (found-hops image m icb found)
            ∙ rw (← found-kind image m icb found, ne_eqb p.kind 3 k, ← found-size, found.area)
            (whole-hops image (entry_mount m icb) p.kind (front_of p) _ (ap (λ (x : Ran (List AllocExtent)). x.outcome) whole.runs))

        pub resolve-whole : Resolves image m icb (Ok (Chained p (n + 1)))
        resolve-whole = record {
          entry = found.entry;
          runs = follows ∙ rw (whole.runs, ran-done) (ap (λ j. record { outcome = answered (chained found.entry (left image (entry_mount m icb) p.kind (front_of p))); count = j }) (omega arith));
          is = found.is;
          small = found.small;
          few = omega (arith, whole.few);
          hops = whole-goes;
        }

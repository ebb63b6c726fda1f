-- Laws of the file entry's sector: the file itself, or the front of its chain. Assumes nothing.
use Rattle.std.specs.Prelude.{Result, Ok, Err}
use mathlib.Core.Path.{◌≡◌, refl, ap, sym, ◌∙◌}
use mathlib.Core.Bool.{Bool, false}
use mathlib.Core.List.{List, [], append-nil}
use Prim.Native.Nat.{ℕ, ◌+◌, ◌-◌, ◌<◌, ◌≤◌, ◌^◌, min}
use native.Mathlib.Nat.{add-zero}
use native.Mathlib.Omega.{arith}
use lib.ListN.{length, take, drop, length-take, length-drop}
use lib.Seq.{take_all, length-take-le}
use borrow.Author.Tests.{eq-eqb, ne_eqb, lt-leb, le-leb}
use Rattle.disc.specs.Refusals.{number}
use Rattle.disc.specs.declared.refusals.Refusal.{Refusal}
use Rattle.disc.specs.declared.refusals.Refusal.TheVariants.{NoRoom}
use Rattle.areas.specs.Areas.{area_at}
use Rattle.areas.proofs.PartLaws.{area-in-part}
use Rattle.entries.specs.FileEntries.{read_entry}
use Rattle.entries.specs.declared.file_entries.FileEntry.{FileEntry}
use Rattle.entries.proofs.EntryLaws.{read-entry}
use Rattle.chains.specs.Chains.{most_continuations}
use Rattle.drives.specs.Feeds.{following, crowded_by, settled_in}
use Rattle.drives.specs.Feeds.Feed.{stop}
use Rattle.drives.specs.FileFeeds.{chain_feed, entry_feed}
use Rattle.drives.specs.Readings.{extents_in, area_of, ending_of, rest_of, put_at}
use Rattle.drives.specs.Inner.Scans.{begun, Scans}
use Rattle.drives.specs.Inner.Turns.{Ends, ReadingStands}
use Rattle.drives.specs.Inner.Bodies.{Lands}
use Rattle.drives.specs.Inner.Arrivals.{entry_behind, Arrives}
use Rattle.drives.specs.Inner.Entries.{located_in, of_entry, chain_of, longer_by, Embeds}
use Rattle.drives.specs.declared.scans.Scan.{Scan}
use Rattle.drives.specs.declared.readings.Reading.{Reading}
use Rattle.drives.proofs.TurnLaws.{stands-stop, ends-left, ends-not, end-stop}
use Rattle.drives.proofs.BodyLaws.{leads-settled, rest-none}
use Rattle.drives.proofs.ArrivalLaws.{lands-arrives, stands-arrives}

-- ---- the file itself

module _ (r : Reading) (bytes out : List ℕ) {k : ℕ} (u : (k ≡ min (length bytes) (length out - r.length)) × (r.length + k < 2 ^ 64)) (x y : Reading) (f : x ≡ longer_by r k)
    (out' : List ℕ) (o : out' ≡ put_at r.length (take (length out - r.length) bytes) out) where
  pub embed-full : k < length bytes → Ends x 5 y → Embeds r bytes out y out'
  unfolding settled_in
  embed-full h p = record {
    arrives = λ row. record {
      goes = rw (lt-leb (length bytes) (length out - r.length) (omega (arith, u.0))) (record {
        left = ends-left x y 5 p row ∙ end-stop NoRoom;
        answer = p.answer;
        count = p.count ∙ rw f;
        filled = p.length ∙ rw f (ap (λ a. r.length + a) size);
        output = o;
      });
      inside = λ i w. ends-not p w;
    };
  }
    where
      size : k ≡ length (take (length out - r.length) bytes)
      size = let j = length-take (length out - r.length) bytes in omega (arith, u.0)

  pub embed-done : length bytes ≤ k → Ends x 0 y → Embeds r bytes out y out'
  unfolding settled_in
  embed-done h p = record {
    arrives = λ row. record {
      goes = rw (le-leb (length bytes) (length out - r.length) (omega (arith, u.0)), append-nil bytes) (record {
        left = ends-left x y 0 p row;
        answer = p.answer;
        count = p.count ∙ rw f;
        filled = p.length ∙ rw f (ap (λ a. r.length + a) size);
        output = o ∙ rw (take_all (length out - r.length) bytes (omega (arith, u.0)));
      });
      inside = λ i w. ends-not p w;
    };
  }
    where
      size : k ≡ length bytes
      size = omega (arith, u.0)

-- ---- the entry

module _ (r : Reading) (e : FileEntry) (sector out : List ℕ) (row : List (List ℕ)) (x : Reading) where
  pub file-embedded : {n : ℕ} (out' : List ℕ) → e.kind ≡ 3 → n ≡ min e.area_length e.information_length
      → Embeds r (take (e.area_at + n - e.area_at) (drop e.area_at sector)) out x out' → Arrives (entry_feed r.mount (located_in r e sector)) r out row row x out'
  unfolding entry_feed
  file-embedded {n} out' z q p =
      let k : e.area_at + n - e.area_at ≡ min e.area_length e.information_length = omega arith in
      rw (eq-eqb e.kind 3 z) (rw k at (p.arrives row))

  pub file-listed : (row' : List (List ℕ)) → (e.kind ≡ 3 → ⊥) → e.area_at + e.area_length ≤ length sector
      → Lands row (chain_of r e.kind e.information_length (take (e.area_at + e.area_length - e.area_at) (drop e.area_at sector))) r row' x
      → Arrives (entry_feed r.mount (located_in r e sector)) r out row row' x out
  unfolding entry_feed area_at area_of
  file-listed row' z l p = rw (ne_eqb e.kind 3 z, area) (lands-arrives row _ r row' x out p)
    where
      area : area_at e.kind sector e.area_at e.area_length ≡ area_of e.kind (take (e.area_at + e.area_length - e.area_at) (drop e.area_at sector))
      area =
          let k : e.area_at + e.area_length - e.area_at ≡ e.area_length = omega arith in
          let d = length-drop e.area_at sector in
          let j = length-take-le e.area_length (drop e.area_at sector) (omega arith) in
          let h = area-in-part sector e.area_at e.area_length e.kind 0 e.area_length (omega arith) in
          rw (k, j) (sym (rw add-zero at h))

-- the area in the entry, scanned from the front of the row on
pub area-lands : (r : Reading) (kind missing : ℕ) (area : List ℕ) (row : List (List ℕ)) {s₀ : Scan} (s' : Scan) (row' : List (List ℕ)) → s₀ ≡ begun 0 → Scans kind row s₀ area row' s'
    → (y x : Reading) → y ≡ of_entry r kind missing s'
    → ReadingStands row' (crowded_by y.scan.full (chain_feed y.mount y.kind y.hops y.missing (extents_in row' y.scan.listed) (ending_of y.scan))) y x
    → Lands row (chain_of r kind missing area) r row' x
unfolding rest_of
area-lands r kind missing area row s' row' g q y x f k =
    let p = rw g at q in
    let w = rw f at k in
    let h = (p.behind []).long in
    record {
      long = h;
      left = λ room. chained p room ∙ rw h at (w.left room);
      answer = w.answer;
      count = w.count;
      filled = w.length;
      inside = λ i v. rw (w.listed v, h) ((p.behind []).inside (omega arith));
    }
  where
    chained : Scans kind row (begun 0) area row' s' → (room : ℕ)
        → settled_in false (length row) room (chain_of r kind missing area)
        ≡ settled_in false (length row) room (crowded_by s'.full (chain_feed r.mount kind most_continuations missing (extents_in row' s'.listed) (ending_of s')))
    chained p room =
        let w = leads-settled r.mount most_continuations missing room (p.behind []) refl in
        let v = rest-none kind s' (p.behind []).carries in
        rw (append-nil area, v, append-nil (extents_in row' s'.listed)) at w

-- ---- its sector

module _ (r : Reading) (sector out : List ℕ) (row : List (List ℕ)) (x : Reading) {c : Bool} {g : Result FileEntry Refusal} (q : g ≡ read_entry c sector) (check : Bool) (k : c ≡ check) where
  pub entry-inside : (e : FileEntry) → g ≡ Ok e → e.area_at + e.area_length ≤ length sector
  entry-inside e h = let i = (read-entry c sector q h).inside in omega arith

  pub entry-refused : (why : Refusal) {n : ℕ} → g ≡ Err why → n ≡ number why → Ends r n x → Arrives (entry_behind r (read_entry check sector) sector) r out row row x out
  unfolding entry_behind following settled_in
  entry-refused why h m p =
      let d : read_entry check sector ≡ Err why = rw (← k, ← q) h in
      rw d (stands-arrives row (stop why) r x out (stands-stop row (stop why) r x why (rw m at p) (λ room. refl)))

  pub entry-arrives : (e : FileEntry) (row' : List (List ℕ)) (out' : List ℕ) → g ≡ Ok e → Arrives (entry_feed r.mount (located_in r e sector)) r out row row' x out'
      → Arrives (entry_behind r (read_entry check sector) sector) r out row row' x out'
  unfolding entry_behind following
  entry-arrives e row' out' h p =
      let d : read_entry check sector ≡ Ok e = rw (← k, ← q) h in
      rw d p

-- Laws of a read's start, of its step, and of the row that is zeroed. Assumes nothing.
use Rattle.std.specs.Prelude.{Option, Some, None}
use mathlib.Core.Path.{◌≡◌, refl, ap, sym, ◌∙◌}
use mathlib.Core.Bool.{Bool, true, false}
use mathlib.Core.List.{List}
use Prim.Native.Nat.{ℕ, ◌+◌, ◌-◌}
use native.Mathlib.Nat.{add-zero}
use native.Mathlib.Omega.{arith}
use lib.ListN.{length, replicate, length-replicate}
use borrow.Author.Tests.{lt-ltb, eq-eqb, ne_eqb}
use Rattle.disc.specs.Choice.{pick}
use Rattle.disc.specs.Counts.{reported}
use Rattle.disc.specs.Refusals.{number}
use Rattle.disc.specs.Ask.Ask.{refuse}
use Rattle.disc.specs.Places.{icb_placed, StandsIn}
use Rattle.disc.specs.declared.places.Mount.{Mount}
use Rattle.disc.specs.declared.places.Sector.{Sector}
use Rattle.disc.specs.declared.refusals.Refusal.{Refusal}
use Rattle.disc.specs.declared.refusals.Refusal.TheVariants.{Io, Malformed, Unsupported}
use Rattle.disc.proofs.PickLaws.{not-both}
use Rattle.disc.proofs.PlaceLaws.{in-nowhere, in-at, in-low, entry-checked}
use Rattle.records.specs.declared.allocations.LongAd.{LongAd}
use Rattle.files.specs.Files.{entry_at, entry_mount}
use Rattle.drives.specs.Feeds.{following, lent, fed_by, Settled, settled_in}
use Rattle.drives.specs.FileFeeds.{file_feed}
use Rattle.drives.specs.Openings.{most_sectors}
use Rattle.drives.specs.Readings.{feed_of, is_wanting, left_of, Goes, zeroed, Fed, Starts}
use Rattle.drives.specs.Inner.Turns.{Ends}
use Rattle.drives.specs.Inner.Bodies.{head_behind, part_behind}
use Rattle.drives.specs.Inner.Arrivals.{beginning, entry_behind, bytes_behind, extent_behind, wanted_behind, Arrives}
use Rattle.drives.specs.declared.readings.Reading.{Reading}
use Rattle.drives.proofs.TurnLaws.{ends-left, ends-not, end-stop}
use Rattle.drives.proofs.ArrivalLaws.{put-nothing}
use Rattle.drives.proofs.BranchLaws.{left-taken, left-lost}

-- ---- a row of zeros

abbrev no_extent : List ℕ
no_extent = replicate 4 0

zeroed-long : (row : List (List ℕ)) → length (zeroed row) ≡ length row
zeroed-long row = simp length-replicate

-- ---- the start

module _ (m : Mount) (icb : LongAd) (row row' : List (List ℕ)) (z : row' ≡ zeroed row) {r : Reading} {o : Mount} (f : o ≡ entry_mount m icb) where
  starts-stop : (at : ℕ) (why : Refusal) → entry_at m icb ≡ refuse why → r ≡ beginning o at → (x : Reading) → Ends r (number why) x → Starts (file_feed m icb) row row' x
  unfolding file_feed following
  starts-stop at why e b x p = record {
    left = ends-left r x (number why) p row' ∙ end-stop why ∙ rw e;
    answer = p.answer ∙ rw e;
    count = p.count ∙ rw b;
    filled = p.length ∙ rw b;
    listed = λ w. ends-not p w;
    zeros = z;
  }

  pub start-short : (x : Reading) → icb.length ≡ 0 → r ≡ beginning o 0 → Ends r 2 x → Starts (file_feed m icb) row row' x
  unfolding entry_at
  start-short x l b p = starts-stop 0 Malformed (rw (eq-eqb icb.length 0 l)) b x p

  module _ (l : icb.length ≡ 0 → ⊥) {p : Option Sector} (q : StandsIn (icb_placed m icb.location.partition_ref icb.location.block) p) where
    pub start-nowhere : p ≡ None → (x : Reading) → r ≡ beginning o 0 → Ends r 4 x → Starts (file_feed m icb) row row' x
    unfolding entry_at
    start-nowhere e x b g = starts-stop 0 Unsupported (rw (ne_eqb icb.length 0 l, in-nowhere _ q e)) b x g

    pub start-at : {s : Sector} → p ≡ Some s → r ≡ beginning o s.0 → Starts (file_feed m icb) row row' r
    unfolding left_of feed_of file_feed entry_at following
    start-at {s} e b =
        let k = in-low _ q e in
        let a = in-at _ q e in
        rw (b, f, ne_eqb icb.length 0 l, a) (record {
          left = rw (lt-ltb (s.0 + 0) most_sectors (omega arith), entry-checked m icb.location.partition_ref) refl;
          answer = refl;
          count = refl;
          filled = refl;
          listed = λ w. refl;
          zeros = z;
        })

-- ---- a step

-- a state with another count
abbrev counted : Reading → ℕ → Reading
counted r n = record {
  phase = r.phase;
  at = r.at;
  left = r.left;
  mount = r.mount;
  kind = r.kind;
  hops = r.hops;
  missing = r.missing;
  size = r.size;
  next = r.next;
  scan = r.scan;
  body = r.body;
  answer = r.answer;
  count = n;
  length = r.length;
}

module _ (r : Reading) (sector : List ℕ) (row : List (List ℕ)) (out : List ℕ) {w : Bool} (e : w ≡ is_wanting r) where
  pub read_stays : w ≡ false → Fed r sector row out r row out
  read_stays h = record {
    slots = refl;
    room = refl;
    takes = λ t. not-both (sym h ∙ e ∙ t);
    inside = λ i t. i;
    ends = λ t. not-both (sym h ∙ e ∙ t);
    stays = λ t. record { state = refl; kept = refl; output = refl };
  }

  module _ (h : w ≡ true) {n : ℕ} (q : n ≡ reported (r.count + 1)) (x : Reading) (row' : List (List ℕ)) where
    wanting : is_wanting r ≡ true
    wanting = sym e ∙ h

    pub read-lost : (length sector ≡ 2048 → ⊥) → row' ≡ zeroed row → Ends (counted r n) 1 x → Fed r sector row out x row' out
    unfolding settled_in
    read-lost l z p = record {
      slots = rw z (zeroed-long row);
      room = refl;
      takes = λ t. rw (ne_eqb (length sector) 2048 l, left-lost r row wanting) (record {
        left = ends-left (counted r n) x 1 p row' ∙ end-stop Io;
        answer = p.answer;
        count = p.count ∙ q;
        filled = p.length ∙ sym (add-zero r.length);
        output = put-nothing r.length out;
      });
      inside = λ i t. ends-not p t;
      ends = λ t u. z;
      stays = λ t. not-both (sym t ∙ wanting);
    }

    module _ (l : length sector ≡ 2048) (out' : List ℕ) (o : length out' ≡ length out) where
      goes : Arrives (wanted_behind (counted r n) row sector) (counted r n) out row row' x out'
          → Goes (settled_in false (length row) (length out - r.length) (fed_by (lent sector) (left_of r row))) (reported (r.count + 1)) r.length out x row' out'
      unfolding wanted_behind entry_behind head_behind part_behind extent_behind bytes_behind
      goes p = rw (eq-eqb (length sector) 2048 l, left-taken r row wanting sector, ← q) p.goes

-- what is left of a state that has ended isn't in the row
goes-ended : (s : Settled) (n from : ℕ) (out : List ℕ) (x : Reading) (row row' : List (List ℕ)) (after : List ℕ) → is_wanting x ≡ false → Goes s n from out x row after → Goes s n from out x row' after
unfolding left_of
goes-ended s n from out x row row' after e p = record {
  left = rw e (rw e at p.left);
  answer = p.answer;
  count = p.count;
  filled = p.filled;
  output = p.output;
}

pub read_taken : (r : Reading) (sector : List ℕ) (row : List (List ℕ)) (out : List ℕ) {w : Bool} → w ≡ is_wanting r → w ≡ true → {n : ℕ} → n ≡ reported (r.count + 1)
    → (x : Reading) (row₁ : List (List ℕ)) → length sector ≡ 2048 → (out' : List ℕ) → length out' ≡ length out → length row₁ ≡ length row
    → Arrives (wanted_behind (counted r n) row sector) (counted r n) out row row₁ x out' → (row' : List (List ℕ)) → row' ≡ pick (is_wanting x) row₁ (zeroed row₁) → Fed r sector row out x row' out'
read_taken r sector row out e h q x row₁ l out' o k p row' z = by (is_wanting x) refl z
  where
    wants : is_wanting r ≡ true
    wants = sym e ∙ h

    by : (t : Bool) → is_wanting x ≡ t → row' ≡ pick t row₁ (zeroed row₁) → Fed r sector row out x row' out'
    by true t y = rw y (record {
      slots = k;
      room = o;
      takes = λ u. goes r sector row out e h q x row₁ l out' o p;
      inside = p.inside;
      ends = λ u v. not-both (sym v ∙ t);
      stays = λ u. not-both (sym u ∙ wants);
    })
    by false t y =
        let g : row' ≡ zeroed row = y ∙ ap (λ n. replicate n no_extent) k in
        record {
          slots = rw g (zeroed-long row);
          room = o;
          takes = λ u. goes-ended _ _ _ out x row₁ row' out' t (goes r sector row out e h q x row₁ l out' o p);
          inside = λ i u. not-both (sym t ∙ u);
          ends = λ u v. g;
          stays = λ u. not-both (sym u ∙ wants);
        }

-- ---- the row of a read that has ended

module _ (x : Reading) (row : List (List ℕ)) {w : Bool} (e : w ≡ is_wanting x) where
  pub clear-not : w ≡ true → row ≡ pick (is_wanting x) row (zeroed row)
  clear-not h = rw (← e, h)

  pub clear-ended : w ≡ false → {row' : List (List ℕ)} → row' ≡ zeroed row → row' ≡ pick (is_wanting x) row (zeroed row)
  clear-ended h z = rw (← e, h) z

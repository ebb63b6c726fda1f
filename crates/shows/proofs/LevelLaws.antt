-- The first pass of a show: a directory opened, and its entries in their turns. Assumes nothing.
use Rattle.std.specs.Prelude.{Result, Ok, Err}
use mathlib.Core.Path.{◌≡◌, refl, sym, ap, ◌∙◌}
use mathlib.Core.Bool.{Bool, true, false}
use mathlib.Core.List.{List, [], ◌∷◌}
use Prim.Native.Nat.{ℕ, suc, ◌+◌, ◌-◌, ◌≤◌, ◌<◌}
use native.Mathlib.Nat.{add-zero, zero-add, sub-zero}
use native.Mathlib.Omega.{arith}
use lib.ListN.{length, take, drop, length-take, length-drop}
use borrow.Rule.Slice.PartMut.{mid_of}
use Rattle.disc.specs.Refusals.{number}
use Rattle.disc.specs.Counts.{reported}
use Rattle.disc.specs.Parts.{Bytes}
use Rattle.disc.specs.Places.{is_checked}
use Rattle.disc.specs.Ask.{Disc, Ask, Outcome, then, ended}
use Rattle.disc.specs.Ask.Outcome.{answered, refused}
use Rattle.disc.specs.Ran.{Ran, ran, after, onward, followed, told}
use Rattle.disc.specs.declared.places.Mount.{Mount}
use Rattle.disc.specs.declared.refusals.Refusal.{Refusal}
use Rattle.disc.specs.declared.refusals.Refusal.TheVariants.{OverBudget}
use Rattle.disc.specs.declared.replies.Reply.{Reply}
use Rattle.disc.proofs.RanLaws.{ran_then, ran-ended}
use Rattle.disc.proofs.RefusalLaws.{refusal-numbered}
use Rattle.records.specs.Allocations.{long_of}
use Rattle.records.specs.declared.allocations.LongAd.{LongAd}
use Rattle.identifiers.specs.Identifiers.{bit, is_directory}
use Rattle.listings.specs.Entries.{Entry, is_skipped, entries}
use Rattle.listings.specs.Listings.{records, entry_record}
use Rattle.listings.specs.Inner.Passes.{seen_of, size_of_listing}
use Rattle.listings.specs.declared.directory_entries.EntrySeen.{EntrySeen}
use Rattle.listings.proofs.EntryLaws.{Known, Inside, seen-inside, Sees, seen-known}
use Rattle.directories.specs.Directories.{directory_bytes}
use Rattle.directories.specs.Inner.Spaces.{reply_to, Reads}
use Rattle.directories.proofs.SpaceLaws.{reads-count, reads_bytes}
use Rattle.shows.specs.Shows.{Node, nodes_at}
use Rattle.shows.specs.Inner.Turns.{stopped_at, Held, capped_by, Visited, opening, Opens, turn_of, Handles}
use Rattle.shows.specs.Inner.Placings.{entry_placed, node_placed}
use Rattle.shows.specs.declared.levels.ShowPlace.{ShowPlace}
use Rattle.shows.proofs.NodeLaws.{record-long}
use Rattle.shows.proofs.TurnLaws.{part_of, raw-long, part-long, first_read, turned}
use Rattle.shows.proofs.VisitedLaws.{turn-skipped, turn-file, turn-directory, visited-none, visited-one, visited-refused, visited-over, visited-held, capped-within, joined-goes}

-- ---- a directory read and parsed

module _ (d : Disc) (m : Mount) (icb : LongAd) (w w' : List ℕ) {read : Reply} (p : Reads (ran d (directory_bytes m (length w) icb)) w w' read) where
  abbrev R : Ran (List ℕ)
  R = ran d (directory_bytes m (length w) icb)

  opened-is : (f : List ℕ → List Entry → Ask (List Node)) → ran d (opening m (length w) icb f) ≡ followed R (λ b. ran d (then (ended (entries (is_checked m) b)) (f b)))
  opened-is f = ran_then d (directory_bytes m (length w) icb) (λ b. then (ended (entries (is_checked m) b)) (f b))

  -- what was read is refused
  record NotRead : Type 0 where
    why : Refusal
    is : R.outcome ≡ refused why
    numbered : read.answer ≡ number why

  not-read : (read.answer ≡ 0 → ⊥) → NotRead
  not-read n = by R.outcome refl p.says
    where
      by : (o : Outcome (List ℕ)) → R.outcome ≡ o → read ≡ reply_to o (reported R.count) → NotRead
      by (answered b) e q = absurd (n (ap (λ (x : Reply). x.answer) q))
      by (refused why) e q = record { why = why; is = e; numbered = ap (λ (x : Reply). x.answer) q }

  module _ (p₀ : ShowPlace) {c : ℕ} (k : c ≡ reported (p₀.count + read.count)) where
    counted : c ≡ reported (p₀.count + R.count)
    counted = omega (arith, reads-count p)

    -- the read wants more sectors than the show may ask for, and so does whatever was to be done with it
    pub open-over : p₀.most < c → {a : ℕ} → a ≡ number OverBudget → {q : ShowPlace} {n : ℕ} → q ≡ stopped_at a p₀.most → Opens d m icb p₀ w w' (record { place = q; length = n })
    open-over h {a} f {q} e = record {
      good = λ z. absurd (refusal-numbered OverBudget (sym f ∙ sym (ap (λ (x : ShowPlace). x.answer) e) ∙ z));
      bad = λ z. record { shows = λ of g l. rw (opened-is g) (visited-over (omega (arith, counted, more R.outcome g)) (e ∙ rw f)) };
    }
      where
        more : (o : Outcome (List ℕ)) (g : List ℕ → List Entry → Ask (List Node)) → R.count ≤ (onward o R.count (λ b. ran d (then (ended (entries (is_checked m) b)) (g b)))).count
        more (answered b) g = omega arith
        more (refused why) g = omega arith

    module _ (within : c ≤ p₀.most) where
      -- a refusal that is come to within these
      stopped-is : (why : Refusal) → capped_by p₀ R.count (stopped_at (number why) (reported (p₀.count + R.count))) ≡ stopped_at (number why) c
      stopped-is why = capped-within p₀ R.count (stopped_at (number why) (reported (p₀.count + R.count))) (omega (arith, counted)) ∙ ap (stopped_at (number why)) (sym counted)

      pub open-refused : (read.answer ≡ 0 → ⊥) → {q : ShowPlace} {n : ℕ} → q ≡ stopped_at read.answer c → Opens d m icb p₀ w w' (record { place = q; length = n })
      open-refused n e =
          let x = not-read n in
          record {
            good = λ z. absurd (n (sym (ap (λ (x : ShowPlace). x.answer) e) ∙ z));
            bad = λ z. record { shows = λ of f l. visited-refused x.why R.count (opened-is f ∙ rw x.is) (e ∙ ap (λ a. stopped_at a c) x.numbered ∙ sym (stopped-is x.why)) };
          }

      module _ (z : read.answer ≡ 0) where
        abbrev b : List ℕ
        b = take read.length w'

        read_is : R.outcome ≡ answered b
        read_is = reads_bytes p z ∙ rw sub-zero

        parsed-is : (f : List ℕ → List Entry → Ask (List Node)) → ran d (opening m (length w) icb f) ≡ after R.count (followed (told (entries (is_checked m) b)) (λ es. ran d (f b es)))
        parsed-is f =
            opened-is f
            ∙ rw read_is
            (ap (after R.count) (ran_then d (ended (entries (is_checked m) b)) (f b) ∙ ap (λ (r : Ran (List Entry)). followed r (λ es. ran d (f b es))) (ran-ended d (entries (is_checked m) b))))

        module _ {check : Bool} (q : check ≡ is_checked m) {size : Result ℕ Refusal} (s : size ≡ size_of_listing (entries check (take (read.length - 0) (drop 0 w')))) where
          s' : size ≡ size_of_listing (entries (is_checked m) b)
          s' = s ∙ rw (sub-zero, q)

          pub open-bad : {why : Refusal} → size ≡ Err why → {a : ℕ} → a ≡ number why → {q : ShowPlace} {l : ℕ} → q ≡ stopped_at a c → Opens d m icb p₀ w w' (record { place = q; length = l })
          open-bad {why} n {a} v {q} {l} e = by (entries (is_checked m) b) refl (sym n ∙ s')
            where
              by : (o : Outcome (List Entry)) → entries (is_checked m) b ≡ o → Err why ≡ size_of_listing o → Opens d m icb p₀ w w' (record { place = q; length = l })
              by (answered es) f g = absurd (let y : ◌≡◌ {A = ℕ} 0 1 = cc in omega arith)
              by (refused x) f g =
                  let same : why ≡ x = cc in
                  record {
                    good = λ z. absurd (refusal-numbered why (sym v ∙ sym (ap (λ (x : ShowPlace). x.answer) e) ∙ z));
                    bad = λ z. record {
                      shows = λ of h l. visited-refused x R.count (parsed-is h ∙ rw f (rw add-zero)) (e ∙ ap (λ a. stopped_at a c) (v ∙ ap number same) ∙ sym (stopped-is x));
                    };
                  }

          pub open-good : {n : ℕ} → size ≡ Ok n → read.length ≤ length w' → {k : ℕ} → k ≡ reported (p₀.size + n)
              → Opens d m icb p₀ w w' (record { place = record { answer = 0; count = c; size = k; most = p₀.most }; length = read.length })
          open-good {n} v l {k} g = by (entries (is_checked m) b) refl (sym v ∙ s')
            where
              by : (o : Outcome (List Entry)) → entries (is_checked m) b ≡ o → Ok n ≡ size_of_listing o
                  → Opens d m icb p₀ w w' (record { place = record { answer = 0; count = c; size = k; most = p₀.most }; length = read.length })
              by (answered es) f e = record {
                good = λ z. record {
                  es = es;
                  n = R.count;
                  fits = l;
                  are = f;
                  goes = λ h. parsed-is h ∙ rw f (ap (λ k. record { outcome = (ran d (h b es)).outcome; count = R.count + k }) (zero-add (ran d (h b es)).count));
                  within = omega (arith, counted);
                  place = let same : n ≡ length (records es) = cc in rw (counted, g) (ap (λ i. record { answer = 0; count = reported (p₀.count + R.count); size = reported (p₀.size + i); most = p₀.most }) same);
                };
                bad = λ z. absurd (z refl);
              }
              by (refused why) f e = absurd (let y : ◌≡◌ {A = ℕ} 0 1 = cc in omega arith)

-- ---- the turn of the entry at `at` in a directory whose bytes are the first n of the work space

module _ (d : Disc) (m : Mount) (left : ℕ) (work : List ℕ) (n at : ℕ) (h : at + 38 ≤ n) (k : n ≤ length work) (b : Bytes work) (p : ShowPlace) {e : EntrySeen} (q : e ≡ seen_of (part_of work n at)) where
  abbrev inside : Inside (part_of work n at) e
  inside = seen-inside (part_of work n at) q

  -- its own turn was visited, and the others stand behind it
  handled : {place : ShowPlace} {tally tally₂ : List ℕ} → (place.answer ≡ 0 → Held p.most place)
      → ((x : Entry) → Known (part_of work n at) x → Sees (part_of work n at) x e → (level : ℕ)
      → Visited (node_placed d m p.most) (length (entry_record x)) (ran d (turn_of (nodes_at m left (suc level) (length work - n)) level x)) p tally place tally₂)
      → Handles d m left (take n work) (length work - n) at p tally (record { place = place; next = at + e.next }) tally₂
  handled i s = record {
    further = omega (arith, inside.further (omega (arith, part-long work n at h k)));
    near = omega (arith, inside.near, part-long work n at h k, raw-long work n at h k);
    held = i;
    good = λ es are.
        let f = first_read work n at h k b es are in
        let x = seen-known (part_of work n at) q f.knows in
        record { turned = turned f x.next; shows = s f.first f.knows x };
  }

  module _ (i : Held p.most p) where
    pub handle-skipped : e.skipped ≡ true → {tally : List ℕ} → Handles d m left (take n work) (length work - n) at p tally (record { place = p; next = at + e.next }) tally
    unfolding entry_record
    handle-skipped s {tally} = handled (λ j. i) (λ x y z level.
        let t : is_skipped x.identifier ≡ true = sym z.skips ∙ s in
        visited-none i (rw t) (turn-skipped d (nodes_at m left (suc level) (length work - n)) level x t) tally)

    module _ (s : e.skipped ≡ false) {size : ℕ} (c : size ≡ reported (p.size + 1)) {directory : Bool} (u : directory ≡ bit 2 e.marks) (tally : List ℕ) {tally₁ : List ℕ}
        (a : tally₁ ≡ entry_placed d m p.most directory (long_of (part_of work n at) 20) tally) where
      abbrev behind : ShowPlace
      behind = record { answer = 0; count = p.count; size = size; most = p.most }

      behind-held : Held p.most behind
      behind-held = record { going = refl; lends = refl; counted = i.counted; bounded = i.bounded; sized = omega arith }

      module _ (x : Entry) (y : Known (part_of work n at) x) (z : Sees (part_of work n at) x e) (level : ℕ) where
        abbrev node : Node
        node = record { level = level; entry = x }

        listed : is_skipped x.identifier ≡ false
        listed = sym z.skips ∙ s

        directory-is : is_directory x.identifier ≡ directory
        directory-is = ap (bit 2) (y.whole.characteristics ∙ sym z.marks) ∙ sym u

        own-visited : {r : Ran (List Node)} → r ≡ told (answered (node ∷ [])) → Visited (node_placed d m p.most) (length (entry_record x)) r p tally behind tally₁
        own-visited j = visited-one i j (record-long level x) c
            (a ∙ ap (λ t. entry_placed d m p.most t (long_of (part_of work n at) 20) tally) (sym directory-is) ∙ ap (λ g. entry_placed d m p.most (is_directory x.identifier) g tally) (sym y.whole.icb))

      pub handle-file : directory ≡ false → Handles d m left (take n work) (length work - n) at p tally (record { place = behind; next = at + e.next }) tally₁
      handle-file f = handled (λ j. behind-held) (λ x y z level.
          own-visited x y z level (turn-file d (nodes_at m left (suc level) (length work - n)) level x (listed x y z level) (directory-is x y z level ∙ f)))

      -- what stands under it was visited from the work space behind n on
      pub handle-directory : directory ≡ true → {icb : LongAd} → icb ≡ long_of (part_of work n at) 20 → {place : ShowPlace} {tally₂ : List ℕ}
          → ((level : ℕ) → Visited (node_placed d m p.most) 0 (ran d (nodes_at m left level (length (mid_of n (length work - n) work)) icb)) behind tally₁ place tally₂)
          → Handles d m left (take n work) (length work - n) at p tally (record { place = place; next = at + e.next }) tally₂
      handle-directory f {icb} j {place} {tally₂} v = handled (visited-held i.bounded (v 0)) (λ x y z level.
          let l : length (mid_of n (length work - n) work) ≡ length work - n = simp (length-take, length-drop) (omega arith) in
          let g : icb ≡ x.identifier.icb = j ∙ sym y.whole.icb in
          let w : Visited (node_placed d m p.most) 0 (ran d (nodes_at m left (suc level) (length work - n) x.identifier.icb)) behind tally₁ place tally₂ = rw (l, g) at (v (suc level)) in
          rw (turn-directory d (nodes_at m left (suc level) (length work - n)) level x (listed x y z level) (directory-is x y z level ∙ f), ← add-zero (length (entry_record x)))
          (joined-goes (own-visited x y z level refl) w refl))

-- Laws of a read that is fed: each state that the code makes stands for what is left of the feed. Assumes nothing.
use Rattle.std.specs.Prelude.{Option, Some, None}
use mathlib.Core.Path.{◌≡◌, refl, ap, sym, ◌∙◌}
use mathlib.Core.Bool.{Bool, true, false}
use mathlib.Core.List.{List, [], ◌∷◌, map}
use Prim.Native.Nat.{ℕ, zero, suc, ◌+◌, ◌-◌, ◌*◌, ◌/◌, ◌<◌, ◌≤◌, ◌^◌, min}
use native.Mathlib.Numerals.{add-one}
use native.Mathlib.Omega.{arith}
use lib.ListN.{length, get_or, take, drop, length-take, get_or-map, drop_of_length-le}
use lib.Seq.{get_or-take, drop-cons}
use lib.Dec.{eqb, ltb, leb}
use borrow.Author.Tests.{lt-ltb, le-ltb, eq-eqb, ne_eqb, lt-leb, le-leb, ltb-true, ltb-false}
use Rattle.disc.specs.Choice.{pick}
use Rattle.disc.specs.Refusals.{number}
use Rattle.disc.specs.Ask.{then}
use Rattle.disc.specs.Images.{sectors, sectors_for}
use Rattle.disc.specs.Places.{placed, BlockStands}
use Rattle.disc.specs.declared.places.Mount.{Mount}
use Rattle.disc.specs.declared.places.Sector.{Sector}
use Rattle.disc.specs.declared.refusals.Refusal.{Refusal}
use Rattle.disc.specs.declared.refusals.Refusal.TheVariants.{Malformed, Unsupported, NoSlot}
use Rattle.disc.proofs.RefusalLaws.{refusal-numbered, refusal-known}
use Rattle.disc.proofs.PlaceLaws.{stands-nowhere, stands_at}
use Rattle.disc.proofs.PickLaws.{not-both}
use Rattle.areas.specs.declared.AllocExtent.{AllocExtent}
use Rattle.areas.specs.declared.AdContinuation.{AdContinuation}
use Rattle.areas.specs.declared.AdEnding.TheVariants.{End, Continuation, Refused}
use Rattle.chains.specs.Chains.{area_from, next_area}
use Rattle.drives.specs.Feeds.{Feed, naming, crowded, settled_in, crowded_by}
use Rattle.drives.specs.Feeds.Feed.{over, stop, hold}
use Rattle.drives.specs.FileFeeds.{extent_feed, extents_feed, joined, named_by, chain_feed}
use Rattle.drives.specs.Openings.{most_sectors}
use Rattle.drives.specs.Readings.{reference_in, extent_in, extents_in, ending_of, header_phase, extent_phase, feed_of, is_wanting, end_tree, left_of}
use Rattle.drives.specs.Inner.Turns.{Ends, quiet, ReadingStands, extents_behind, Enters, EntersAt, continuing, next_of, Chains, ContinuesAt}
use Rattle.drives.specs.declared.scans.Scan.{Scan}
use Rattle.drives.specs.declared.readings.Reading.{Reading}

-- ---- an end

pub ends-left : (r x : Reading) (n : ℕ) → Ends r n x → (row : List (List ℕ)) → left_of x row ≡ end_tree n
unfolding left_of
ends-left r x n e row = rw (e.phase, e.answer)

-- an end wants nothing
pub ends-not : {A : Type 0} {r x : Reading} {n : ℕ} → Ends r n x → is_wanting x ≡ true → A
ends-not {A} {r} {x} e w = let z : is_wanting x ≡ false = rw e.phase in not-both (sym z ∙ w)

pub end-stop : (why : Refusal) → end_tree (number why) ≡ stop why
end-stop why = rw (ne_eqb (number why) 0 (refusal-numbered why), refusal-known why)

module _ (row : List (List ℕ)) (f : Feed) (r x : Reading) where
  pub stands-done : Ends r 0 x → ((room : ℕ) → settled_in false (length row) room f ≡ quiet over) → ReadingStands row f r x
  stands-done e h = record {
    left = λ room. h room ∙ ap quiet (sym (ends-left r x 0 e row));
    answer = e.answer ∙ rw (ends-left r x 0 e row);
    count = e.count;
    length = e.length;
    listed = ends-not e;
  }

  pub stands-stop : (why : Refusal) → Ends r (number why) x → ((room : ℕ) → settled_in false (length row) room f ≡ quiet (stop why)) → ReadingStands row f r x
  stands-stop why e h = record {
    left = λ room. h room ∙ ap quiet (sym (ends-left r x (number why) e row ∙ end-stop why));
    answer = e.answer ∙ rw (ends-left r x (number why) e row, end-stop why);
    count = e.count;
    length = e.length;
    listed = ends-not e;
  }

pub one_less : (n : ℕ) → (n ≡ 0 → ⊥) → suc (n - 1) ≡ n
one_less zero h = absurd (h refl)
one_less (suc n) h = omega arith

-- ---- an extent

-- a state in an extent, as the code makes it
abbrev pub in_extent : Reading → ℕ → ℕ → ℕ → ℕ → Reading
in_extent r at left size next = record {
  phase = extent_phase;
  at = at;
  left = left;
  mount = r.mount;
  kind = r.kind;
  hops = r.hops;
  missing = r.missing;
  size = size;
  next = next;
  scan = r.scan;
  body = r.body;
  answer = 0;
  count = r.count;
  length = r.length;
}

pub extent-stands : (r : Reading) (at left size next : ℕ) → at + left < most_sectors → (row : List (List ℕ))
    → ReadingStands row (extent_feed (suc left) at size r.missing (extents_behind r row next)) r (in_extent r at left size next)
unfolding left_of feed_of settled_in extent_feed
extent-stands r at left size next h row = record {
  left = λ room. rw (lt-ltb (at + left) most_sectors h);
  answer = rw (lt-ltb (at + left) most_sectors h);
  count = refl;
  length = refl;
  listed = λ w. refl;
}

sectors-some : (size : ℕ) → (size ≡ 0 → ⊥) → sectors_for size ≡ 0 → ⊥
sectors-some zero h e = h refl
sectors-some (suc n) h e = omega arith

sectors-low : (size at n : ℕ) → size < 2 ^ 32 → at < 2 ^ 33 → n ≡ sectors_for size → at + (n - 1) < most_sectors
sectors-low size at n h l e = omega arith

module _ (r : Reading) (at size next : ℕ) where
  pub at_done : {x : Reading} → size ≡ 0 → r.missing ≡ 0 → Ends r 0 x → EntersAt r at size next (Some x)
  unfolding extent_feed settled_in
  at_done {x} z m p row = stands-done row _ r x p (λ room. rw (z, m))

  pub at_some : {x : Reading} → (size ≡ 0 → ⊥) → size < 2 ^ 32 → at < 2 ^ 33 → {n : ℕ} → n ≡ sectors_for size → x ≡ in_extent r at (n - 1) size next → EntersAt r at size next (Some x)
  at_some z h l {n} q g row =
      let k : suc (n - 1) ≡ sectors_for size = one_less n (λ y. sectors-some size z (sym q ∙ y)) ∙ q in
      rw g (rw k at (extent-stands r at (n - 1) size next (sectors-low size at n h l q) row))

  pub at-skips : size ≡ 0 → (r.missing ≡ 0 → ⊥) → EntersAt r at size next None
  unfolding extent_feed
  at-skips z h = record { passes = λ f. rw z; misses = h }

module _ (r : Reading) (w : List ℕ) (next : ℕ) where
  stopped : {x : Reading} → ((es : List AllocExtent) → extents_feed r.mount (extent_in w ∷ es) r.missing ≡ stop Unsupported) → Ends r 4 x → Enters r w next (Some x)
  unfolding settled_in
  stopped {x} h p row = rw (h (drop next (extents_in row r.scan.listed))) (stands-stop row (stop Unsupported) r x Unsupported p (λ room. refl))

  pub enter-type : {x : Reading} → (get_or w 1 0 ≡ 0 → ⊥) → Ends r 4 x → Enters r w next (Some x)
  unfolding extents_feed
  enter-type z p = stopped (λ es. rw (ne_eqb (get_or w 1 0) 0 z)) p

  module _ (z : get_or w 1 0 ≡ 0) {f : Option ℕ} (y : f ≡ reference_in (get_or w 3 0)) {p : Option Sector} (q : BlockStands r.mount f (get_or w 2 0) p) where
    pub enter-nowhere : {x : Reading} → p ≡ None → Ends r 4 x → Enters r w next (Some x)
    unfolding extents_feed
    enter-nowhere h k =
        let d : placed r.mount (reference_in (get_or w 3 0)) (get_or w 2 0) ≡ None = rw y at (stands-nowhere r.mount f (get_or w 2 0) q h) in
        stopped (λ es. rw (z, d)) k

    pub enter-there : {s : Sector} → p ≡ Some s → (e : Option Reading) → EntersAt r s.0 (get_or w 0 0) next e → Enters r w next e
    unfolding extents_feed
    enter-there {s} h e k = by e k
      where
        d : placed r.mount (reference_in (get_or w 3 0)) (get_or w 2 0) ≡ Some s.0
        d = rw y at (stands_at r.mount f (get_or w 2 0) q h)

        some-missing : (r.missing ≡ 0 → ⊥) → 0 < r.missing
        some-missing = by r.missing
          where
            by : (n : ℕ) → (n ≡ 0 → ⊥) → 0 < n
            by zero g = absurd (g refl)
            by (suc n) g = omega arith

        by : (e : Option Reading) → EntersAt r s.0 (get_or w 0 0) next e → Enters r w next e
        by None k = λ es. rw (z, d) (k.passes (λ left. pick (leb left 0) over (extents_feed r.mount es left)) ∙ rw (lt-leb r.missing 0 (some-missing k.misses)))
        by (Some x) k = λ row. rw (z, d) (k row)

-- ---- the extents in turn

map-long : (l : List (List ℕ)) → length (map extent_in l) ≡ length l
map-long [] = refl
map-long (x ∷ l) = ap suc (map-long l)

extents-long : (row : List (List ℕ)) (n : ℕ) → length (extents_in row n) ≡ min n (length row)
extents-long row n = map-long (take n row) ∙ length-take n row

-- the extents from i on give what those from the first on give
pub record Seeks (r : Reading) (row : List (List ℕ)) (from i : ℕ) : Type 0 where
  pub same : extents_feed r.mount (drop i (extents_in row r.scan.listed)) r.missing ≡ extents_feed r.mount (drop from (extents_in row r.scan.listed)) r.missing

module _ (r : Reading) (row : List (List ℕ)) (from : ℕ) where
  pub seeks-starts : Seeks r row from from
  seeks-starts = record { same = refl }

  module _ (i : ℕ) (p : Seeks r row from i) {n : ℕ} (q : n ≡ min r.scan.listed (length row)) where
    here : (d : List ℕ) → i < n → drop i (extents_in row r.scan.listed) ≡ extent_in (get_or row i d) ∷ drop (i + 1) (extents_in row r.scan.listed)
    here d h =
        let l = extents-long row r.scan.listed in
        rw (add-one, drop-cons (extents_in row r.scan.listed) i (extent_in d) (omega arith), get_or-map extent_in (take r.scan.listed row) i d, get_or-take r.scan.listed row i d (omega arith))

    module _ (d : List ℕ) {e : Option Reading} (h : i < n) (k : Enters r (get_or row i d) (i + 1) e) where
      pub seeks-on : e ≡ None → Seeks r row from (i + 1)
      seeks-on t =
          let g : Enters r (get_or row i d) (i + 1) None = rw t at k in
          record { same = sym (g (drop (i + 1) (extents_in row r.scan.listed))) ∙ rw (here d h) at p.same }

      pub seeks-found : {x : Reading} → e ≡ Some x → ReadingStands row (extents_feed r.mount (drop from (extents_in row r.scan.listed)) r.missing) r x
      seeks-found {x} t =
          let g : Enters r (get_or row i d) (i + 1) (Some x) = rw t at k in
          rw (← p.same, here d h) (g row)

    pub seeks-ends : (x : Reading) → n ≤ i → Ends r 0 x → ReadingStands row (extents_feed r.mount (drop from (extents_in row r.scan.listed)) r.missing) r x
    unfolding extents_feed settled_in
    seeks-ends x h k =
        let l = extents-long row r.scan.listed in
        let z : drop i (extents_in row r.scan.listed) ≡ [] = drop_of_length-le (extents_in row r.scan.listed) {i = i} (omega arith) in
        rw (← p.same, z) (stands-done row over r x k (λ room. refl))

-- ---- a continuation

abbrev pub at_header : Reading → ℕ → ℕ → ℕ → Reading
at_header r at left size = record {
  phase = header_phase;
  at = at;
  left = left;
  mount = r.mount;
  kind = r.kind;
  hops = r.hops - 1;
  missing = r.missing;
  size = size;
  next = r.next;
  scan = r.scan;
  body = r.body;
  answer = 0;
  count = r.count;
  length = r.length;
}

module _ (r : Reading) (at size : ℕ) (x : Reading) where
  pub continue-short : size < 24 → Ends r 2 x → ContinuesAt r at size x
  unfolding area_from naming settled_in
  continue-short h e = record { stands = λ row. rw (lt-ltb size 24 h) (stands-stop row (stop Malformed) r x Malformed e (λ room. refl)) }

  pub continue-long : 24 ≤ size → 1048576 < size → Ends r 4 x → ContinuesAt r at size x
  unfolding area_from naming settled_in
  continue-long l h e = record { stands = λ row. rw (le-ltb size 24 l, lt-ltb 1048576 size h) (stands-stop row (stop Unsupported) r x Unsupported e (λ room. refl)) }

  pub continue-at : 24 ≤ size → size ≤ 1048576 → at < 2 ^ 33 → {n : ℕ} → n ≡ sectors_for size → x ≡ at_header r at (n - 1) size → ContinuesAt r at size x
  unfolding area_from left_of feed_of settled_in sectors then naming
  continue-at l h b {n} q e = record {
    stands = λ row.
        let k : suc (n - 1) ≡ sectors_for size = one_less n (λ y. sectors-some size (λ z. few z l) (sym q ∙ y)) ∙ q in
        let s : at + (n - 1) < most_sectors = sectors-low size at n (omega arith) b q in
        let w : size ≤ 2048 * (n - 1 + 1) = held size n q l in
        rw (e, le-ltb size 24 l, le-ltb 1048576 size h, ← k) (record {
          left = λ room. rw (lt-ltb (at + (n - 1)) most_sectors s, le-leb size (2048 * (n - 1 + 1)) w);
          answer = rw (lt-ltb (at + (n - 1)) most_sectors s, le-leb size (2048 * (n - 1 + 1)) w);
          count = refl;
          length = refl;
          listed = λ w. refl;
        });
  }
    where
      held : (a k : ℕ) → k ≡ (a + 2047) / 2048 → 24 ≤ a → a ≤ 2048 * (k - 1 + 1)
      held a k e l = omega arith

      few : size ≡ 0 → 24 ≤ size → ⊥
      few z l = omega arith

continuing-some : (m : Mount) (kind n missing : ℕ) (es : List AllocExtent) (a : AdContinuation) → (n ≡ 0 → ⊥)
    → continuing m kind n missing es a ≡ naming (named_by kind a.length es) (next_area m kind a) (λ x. chain_feed m kind (n - 1) missing (joined es x) x.ending)
continuing-some m kind zero missing es a h = absurd (h refl)
continuing-some m kind (suc n) missing es a h = let z : suc n - 1 ≡ n = omega arith in rw z

module _ (r x : Reading) where
  pub chain-none : r.hops ≡ 0 → Ends r 2 x → Chains r x
  unfolding settled_in
  chain-none z e = record { stands = λ row. stands-stop row _ r x Malformed e (λ room. rw z) }

  module _ (z : r.hops ≡ 0 → ⊥) {f : Option ℕ} (y : f ≡ reference_in r.scan.next_reference) {p : Option Sector} (q : BlockStands r.mount f r.scan.next_block p) where
    pub chain-nowhere : p ≡ None → Ends r 4 x → Chains r x
    unfolding next_area naming settled_in
    chain-nowhere h e = record {
      stands = λ row.
          let d : placed r.mount (reference_in r.scan.next_reference) r.scan.next_block ≡ None = rw y at (stands-nowhere r.mount f r.scan.next_block q h) in
          rw (continuing-some r.mount r.kind r.hops r.missing (extents_in row r.scan.listed) (next_of r.scan) z, d) (stands-stop row (stop Unsupported) r x Unsupported e (λ room. refl));
    }

    pub chain-there : {s : Sector} → p ≡ Some s → ContinuesAt r s.0 r.scan.next_length x → Chains r x
    unfolding next_area
    chain-there {s} h k = record {
      stands = λ row.
          let d : placed r.mount (reference_in r.scan.next_reference) r.scan.next_block ≡ Some s.0 = rw y at (stands_at r.mount f r.scan.next_block q h) in
          rw (continuing-some r.mount r.kind r.hops r.missing (extents_in row r.scan.listed) (next_of r.scan) z, d) (k.stands row);
    }

-- ---- behind an area

module _ (m : Mount) (kind missing : ℕ) (es : List AllocExtent) where
  pub chain-refused : (n : ℕ) (why : Refusal) → chain_feed m kind n missing es (Refused why) ≡ stop why
  unfolding chain_feed
  chain-refused zero why = refl
  chain-refused (suc n) why = refl

  pub chain-end : (n : ℕ) → chain_feed m kind n missing es End ≡ hold (length es) (extents_feed m es missing)
  unfolding chain_feed
  chain-end zero = refl
  chain-end (suc n) = refl

  pub chain-on : (n : ℕ) (a : AdContinuation) → chain_feed m kind n missing es (Continuation a) ≡ hold (length es) (continuing m kind n missing es a)
  unfolding chain_feed
  chain-on zero a = refl
  chain-on (suc n) a = refl

  -- where an extent was lost, unless the area itself is refused
  pub chain-crowded : (n : ℕ) (b : Bool) (a : AdContinuation) → crowded (chain_feed m kind n missing es (pick b End (Continuation a))) ≡ stop NoSlot
  unfolding crowded
  chain-crowded n true a = rw (chain-end n)
  chain-crowded n false a = rw (chain-on n a)

ending-open : (s : Scan) → s.closed ≤ 2 → ending_of s ≡ pick (ltb s.closed 2) End (Continuation (next_of s))
ending-open s h = by (ltb s.closed 2) refl
  where
    by : (b : Bool) → ltb s.closed 2 ≡ b → pick b End (pick (eqb s.closed 2) (Continuation (next_of s)) (Refused Unsupported)) ≡ pick b End (Continuation (next_of s))
    by true e = refl
    by false e = let l = ltb-false s.closed 2 e in rw (eq-eqb s.closed 2 (omega arith))

pub places-fit : (row : List (List ℕ)) (n : ℕ) → length (extents_in row n) ≤ length row
places-fit row n = let l = extents-long row n in omega arith

stands-held : (row : List (List ℕ)) (f g : Feed) (n : ℕ) (r x : Reading) → f ≡ hold n g → n ≤ length row → ReadingStands row g r x → ReadingStands row f r x
unfolding settled_in
stands-held row f g n r x e h p =
    rw e (record { left = λ room. rw (le-ltb (length row) n h) (p.left room); answer = p.answer; count = p.count; length = p.length; listed = p.listed })

module _ (row : List (List ℕ)) (r x : Reading) where
  abbrev es : List AllocExtent
  es = extents_in row r.scan.listed

  pub accept-refused : 2 < r.scan.closed → Ends r 4 x → ReadingStands row (crowded_by r.scan.full (chain_feed r.mount r.kind r.hops r.missing es (ending_of r.scan))) r x
  unfolding settled_in crowded
  accept-refused h e =
      rw (le-ltb r.scan.closed 2 (omega arith), ne_eqb r.scan.closed 2 (λ z. omega arith), chain-refused r.mount r.kind r.missing es r.hops Unsupported)
      (by r.scan.full)
    where
      by : (b : Bool) → ReadingStands row (pick b (stop Unsupported) (stop Unsupported)) r x
      by true = stands-stop row (stop Unsupported) r x Unsupported e (λ room. refl)
      by false = stands-stop row (stop Unsupported) r x Unsupported e (λ room. refl)

  module _ (undone : r.scan.closed ≤ 2) where
    pub accept-full : r.scan.full ≡ true → Ends r 7 x → ReadingStands row (crowded_by r.scan.full (chain_feed r.mount r.kind r.hops r.missing es (ending_of r.scan))) r x
    unfolding settled_in
    accept-full f e =
        let q : crowded_by r.scan.full (chain_feed r.mount r.kind r.hops r.missing es (ending_of r.scan)) ≡ stop NoSlot =
        rw (f, ending-open r.scan undone) (chain-crowded r.mount r.kind r.missing es r.hops (ltb r.scan.closed 2) (next_of r.scan)) in
        rw q (stands-stop row (stop NoSlot) r x NoSlot e (λ room. refl))

    module _ (f : r.scan.full ≡ false) where
      pub accept-continues : r.scan.closed ≡ 2 → Chains r x → ReadingStands row (crowded_by r.scan.full (chain_feed r.mount r.kind r.hops r.missing es (ending_of r.scan))) r x
      accept-continues z p =
          stands-held row _ _ (length es) r x
          (rw (f, z) (chain-on r.mount r.kind r.missing es r.hops (next_of r.scan)))
          (places-fit row r.scan.listed) (p.stands row)

      pub accept-ends : (r.scan.closed ≡ 2 → ⊥)
          → ReadingStands row (extents_feed r.mount (drop 0 es) r.missing) r x
          → ReadingStands row (crowded_by r.scan.full (chain_feed r.mount r.kind r.hops r.missing es (ending_of r.scan))) r x
      accept-ends z p =
          let l : r.scan.closed < 2 = below r.scan.closed undone z in
          stands-held row _ (extents_feed r.mount es r.missing) (length es) r x
          (rw (f, lt-ltb r.scan.closed 2 l) (chain-end r.mount r.kind r.missing es r.hops))
          (places-fit row r.scan.listed)
          p
        where
          below : (n : ℕ) → n ≤ 2 → (n ≡ 2 → ⊥) → n < 2
          below n h z = by (ltb n 2) refl
            where
              by : (b : Bool) → ltb n 2 ≡ b → n < 2
              by true e = ltb-true n 2 e
              by false e = let l = ltb-false n 2 e in absurd (z (omega arith))

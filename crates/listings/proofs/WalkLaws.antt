-- How a directory's entries follow each other, and what the loops over them use. Assumes nothing.
use Rattle.std.specs.Prelude.{Result, Ok, Err}
use mathlib.Core.Path.{◌≡◌, refl, sym, ap, ◌∙◌}
use mathlib.Core.Bool.{Bool, true, false}
use mathlib.Core.List.{List, [], ◌∷◌, ◌++◌, append-nil, append_assoc}
use Prim.Native.Nat.{ℕ, zero, suc, ◌+◌, ◌-◌, ◌*◌, ◌<◌, ◌≤◌, ◌^◌, zero-le}
use native.Mathlib.Nat.{add-zero, zero-add, sub-zero}
use native.Mathlib.Omega.{arith}
use lib.ListN.{length, drop, length-drop, length-append, length-take}
use lib.Seq.{drop-drop, get_or-drop, take_all, sets}
use borrow.Author.Tests.{lt-ltb, le-ltb}
use borrow.Rule.Slice.PartMut.{mid_of, put_mid, same_len_mid}
use mir.Syntax.{w64}
use mir.Val.{Fits}
use Rattle.disc.specs.Ran.{told}
use Rattle.disc.specs.Choice.{pick}
use Rattle.disc.specs.Refusals.{number}
use Rattle.disc.specs.Ask.{Outcome, and_then}
use Rattle.disc.specs.Ask.Outcome.{answered, refused}
use Rattle.disc.specs.Replies.{Replied}
use Rattle.disc.specs.declared.refusals.Refusal.{Refusal}
use Rattle.disc.specs.declared.refusals.Refusal.TheVariants.{NoRoom}
use Rattle.disc.specs.declared.replies.Reply.{Reply}
use Rattle.disc.proofs.MoveLaws.{over-fits, sets-append, sets-whole}
use Rattle.disc.proofs.ReplyLaws.{reply-refused, reply-full, reply-done}
use Rattle.disc.specs.Replies.{returned}
use Rattle.identifiers.specs.declared.FileIdentifierDescriptor.{FileIdentifierDescriptor}
use Rattle.identifiers.specs.Identifiers.{read_identifier, name_at, name_end, next_at}
use Rattle.identifiers.specs.Inner.Wholes.{Whole}
use Rattle.listings.specs.Entries.{Entry, entry_of, entry_read, is_skipped, in_front, entries_from, entries}
use Rattle.listings.specs.Listings.{entry_record, records, listing, fold_in, answers_to, all_named, chosen, find_in, unnamed, named_of}
use Rattle.listings.specs.Inner.Passes.{tail, GoodAt, Comes, Puts, size_of_listing, settled, joined_of, noted_of}
use Rattle.listings.specs.declared.directory_entries.Put.{Put}
use Rattle.listings.specs.declared.finds.Named.{Named}
use Rattle.listings.specs.declared.matchings.Matching.{Matching}
use Rattle.listings.specs.declared.matchings.Matching.TheVariants.{CaseIgnored, AsWritten, Unambiguous}
use Rattle.listings.proofs.EntryLaws.{tail-over, read-good, read_whole, read-bad, record-length}
use Rattle.listings.proofs.RecordLaws.{all_listed}
use Rattle.listings.proofs.GuardLaws.{entries-unchecked}
use Rattle.disc.specs.Parts.{Bytes}

-- ---- the entries at the front of s

skips : (check : Bool) (k : ℕ) (s : List ℕ) → entries_from check k s ≡ entries check (drop k s)
unfolding entries entries_from
skips check zero s = refl
skips check (suc k) [] = refl
skips check (suc k) (b ∷ s) = skips check k s

next-some : (s : List ℕ) → next_at s ≡ suc (next_at s - 1)
unfolding next_at name_end name_at
next-some s = omega arith

front-next : (check : Bool) (s : List ℕ) → 38 ≤ length s → {e : Entry} → entry_read check s ≡ answered e → entries check s ≡ in_front e (entries check (drop (next_at s) s))
unfolding entries entries_from
front-next check [] h g = absurd (omega arith)
front-next check (b ∷ s) h {e} g =
    simp (le-ltb _ _ h, g)
    (ap (in_front e) (skips check (next_at (b ∷ s) - 1) s ∙ ap (λ n. entries check (drop n (b ∷ s))) (sym (next-some (b ∷ s)))))

front-bad : (check : Bool) (s : List ℕ) → 38 ≤ length s → {why : Refusal} → entry_read check s ≡ refused why → entries check s ≡ refused why
unfolding entries entries_from
front-bad check [] h g = absurd (omega arith)
front-bad check (b ∷ s) h g = simp (le-ltb _ _ h, g)

front-end : (check : Bool) (s : List ℕ) → length s < 38 → entries check s ≡ answered []
unfolding entries entries_from
front-end check [] h = refl
front-end check (b ∷ s) h = simp (lt-ltb _ _ h)

-- ---- the same at `at`

module _ (raw : List ℕ) (at : ℕ) where
  pub tail-is : tail raw at ≡ drop at raw
  tail-is = take_all (length raw - at) (drop at raw) (rw length-drop (omega arith))

  pub tail-length : length (tail raw at) ≡ length raw - at
  tail-length = rw tail-is (length-drop at raw)

module _ (check : Bool) (raw : List ℕ) (at : ℕ) where
  pub at-end : length raw < at + 38 → entries check (drop at raw) ≡ answered []
  at-end h = front-end check (drop at raw) (rw length-drop (omega arith))

  module _ (h : at + 38 ≤ length raw) where
    pub at-bad : {why : Refusal} → entry_read check (tail raw at) ≡ refused why → entries check (drop at raw) ≡ refused why
    at-bad n = rw (← tail-is raw at) (front-bad check (tail raw at) (rw (tail-length raw at) (omega arith)) n)

    pub at_next : {e : Entry} → entry_read check (tail raw at) ≡ answered e → {n : ℕ} → n ≡ next_at (tail raw at) → entries check (drop at raw) ≡ in_front e (entries check (drop (at + n) raw))
    at_next {e} g {n} q =
        let z : drop (next_at (tail raw at)) (tail raw at) ≡ drop (at + n) raw =
        ap (drop (next_at (tail raw at))) (tail-is raw at) ∙ drop-drop _ at raw ∙ ap (λ k. drop (at + k) raw) (sym q) in
        ap (entries check) (sym (tail-is raw at)) ∙ front-next check (tail raw at) (rw (tail-length raw at) (omega arith)) g ∙ ap (λ l. in_front e (entries check l)) z

    -- what reading the entry there says
    pub comes : Bytes raw → {r : Result FileIdentifierDescriptor Refusal} → r ≡ returned (read_identifier check (tail raw at)) → Comes check raw at r
    comes a {r} p = told r p
      where
        b : Bytes (tail raw at)
        b i = rw (tail-is raw at, get_or-drop) (a (at + i))

        told : (r : Result FileIdentifierDescriptor Refusal) → r ≡ returned (read_identifier check (tail raw at)) → Comes check raw at r
        told (Ok f) q =
            let w = read_whole check (tail raw at) b q refl in
            record {
              is = at_next (read-good check (tail raw at) b q refl) w.next;
              whole = w;
              inside = omega (arith, w.within, tail-length raw at);
              near = omega (arith, w.within, w.near, tail-length raw at);
            }
        told (Err why) q = at-bad (read-bad check (tail raw at) b q refl)

-- ---- an entry that was read at `at`, in the form that the loops ask for

module _ (check : Bool) (raw : List ℕ) (at : ℕ) {r : Result FileIdentifierDescriptor Refusal} (p : Comes check raw at r) {f : FileIdentifierDescriptor} (z : r ≡ Ok f) where
  good : GoodAt check raw at f
  good = rw z at p

  pub name-inside : f.name_at + f.name_length ≤ length (tail raw at)
  name-inside = good.whole.within

  pub at_less : at + 38 ≤ length raw → length raw + 3 - (at + f.total_size) < length raw + 3 - at
  at_less h = omega (arith, good.whole.head, good.whole.on)

  pub next_fits : length raw * 1 < 2 ^ 63 → Fits w64 (at + f.total_size)
  next_fits k = omega (arith, good.near)

-- ---- the loop that measures has come to `at`

pick-le : (b : Bool) (m : ℕ) → pick b 0 m ≤ m
pick-le true m = zero-le
pick-le false m = omega arith

-- what was measured, with what is left
abbrev size_with : ℕ → Outcome (List Entry) → Result ℕ Refusal
size_with n (answered es) = Ok (n + length (records es))
size_with n (refused why) = Err why

size-starts : (o : Outcome (List Entry)) → size_with 0 o ≡ size_of_listing o
size-starts (answered es) = rw zero-add
size-starts (refused why) = refl

size-turn : (n : ℕ) (e : Entry) (o : Outcome (List Entry)) {v : ℕ} → v ≡ length (entry_record e) → size_with (n + v) o ≡ size_with n (in_front e o)
unfolding records
size-turn n e (answered es) q =
    let s : n + length (entry_record e) + length (records es) ≡ n + length (entry_record e ++ records es) = rw length-append (omega arith) in
    rw (q, s)
size-turn n e (refused why) q = refl

pub record Measuring (check : Bool) (raw : List ℕ) (n at : ℕ) : Type 0 where
  pub within : at ≤ length raw + 3
  pub small : n ≤ 2 * at
  pub rest : size_with n (entries check (drop at raw)) ≡ size_of_listing (entries check raw)

pub measure-starts : (check : Bool) (raw : List ℕ) → Measuring check raw 0 0
measure-starts check raw = record { within = zero-le; small = zero-le; rest = size-starts (entries check raw) }

module _ {check : Bool} {raw : List ℕ} {n at : ℕ} (m : Measuring check raw n at) where
  module _ {r : Result FileIdentifierDescriptor Refusal} (p : Comes check raw at r) where
    pub measure-bad : {why : Refusal} → r ≡ Err why → Err why ≡ size_of_listing (entries check raw)
    measure-bad {why} z = let w : entries check (drop at raw) ≡ refused why = rw z at p in rw w at m.rest

    module _ {f : FileIdentifierDescriptor} (z : r ≡ Ok f) where
      abbrev g : GoodAt check raw at f
      g = rw z at p

      pub name-fits : length raw * 1 < 2 ^ 63 → 21 + f.name_size < 18446744073709551616
      name-fits k = omega (arith, g.whole.short, g.whole.head, g.inside)

      module _ {v : ℕ} (e : v ≡ pick (is_skipped f) 0 (21 + f.name_size)) where
        bound : n + v ≤ 2 * (at + (f.name_at + f.name_length))
        bound = omega (arith, m.small, pick-le (is_skipped f) (21 + f.name_size), g.whole.short, g.whole.head)

        pub size_fits : length raw * 1 < 2 ^ 63 → Fits w64 (n + v)
        size_fits k = omega (arith, bound, g.inside)

        pub measure-next : Measuring check raw (n + v) (at + f.total_size)
        measure-next =
            record {
              within = g.near;
              small = omega (arith, bound, g.whole.on);
              rest =
                  size-turn n (entry_of (tail raw at) f) (entries check (drop (at + f.total_size) raw)) (e ∙ sym (record-length g.whole))
                  ∙ (rw g.is at m.rest);
            }

  pub measure-ends : length raw < at + 38 → Ok n ≡ size_of_listing (entries check raw)
  unfolding records
  measure-ends h =
      let k : Ok (n + 0) ≡ size_of_listing (entries check raw) = rw (at-end check raw at h) at m.rest in
      rw (add-zero n) at k

-- ---- the loop that writes has come to `at`

-- what is written, where the bytes are as they were measured, and the entries that are left
pub record Filled (raw d₀ d : List ℕ) (n at : ℕ) (es : List Entry) : Type 0 where
  pub left : List Entry
  pub are : entries false (drop at raw) ≡ answered left
  pub size : n + length (records left) ≡ length d₀
  pub rest : sets d n (records left) ≡ sets d₀ 0 (records es)

-- and where it stands, whatever they are
pub record Filling (raw d₀ d : List ℕ) (n at : ℕ) : Type 0 where
  pub within : at ≤ length raw + 3
  pub inside : n ≤ length d
  pub long : length d ≡ length d₀
  pub filled : (es : List Entry) → entries false raw ≡ answered es → length (records es) ≡ length d₀ → Filled raw d₀ d n at es

pub fill-starts : (raw d : List ℕ) → Filling raw d d 0 0
fill-starts raw d =
    record {
      within = zero-le;
      inside = zero-le;
      long = refl;
      filled = λ es s l. record { left = es; are = s; size = omega arith; rest = refl };
    }

-- the first of the entries that are left, and the others
pub record Taken (e : Entry) (o : Outcome (List Entry)) (left : List Entry) : Type 0 where
  pub others : List Entry
  pub are : o ≡ answered others
  pub all : left ≡ e ∷ others

pub taken : (e : Entry) (o : Outcome (List Entry)) {left : List Entry} → in_front e o ≡ answered left → Taken e o left
taken e (answered es) q = record { others = es; are = refl; all = cc }
taken e (refused why) q = absurd (let z : ◌≡◌ {A = ℕ} 0 1 = cc in omega arith)

module _ {raw d₀ d : List ℕ} {n at : ℕ} (m : Filling raw d₀ d n at) where
  pub fill-ends : length raw < at + 38 → (es : List Entry) → entries false raw ≡ answered es → length (records es) ≡ length d₀ → d ≡ records es
  unfolding records
  fill-ends h es s l =
      let f = m.filled es s l in
      let e : answered [] ≡ answered f.left = sym (at-end false raw at h) ∙ f.are in
      let z : f.left ≡ [] = cc in
      (rw z at f.rest) ∙ sets-whole (records es) d₀ l

  module _ (h : at + 38 ≤ length raw) {p : Put} {ys : List ℕ} (w : Puts (tail raw at) (mid_of n (length d - n) d) ys p) where
    lent : length (mid_of n (length d - n) d) ≡ length d - n
    lent = simp (length-take, length-drop) (omega arith)

    pub fill-fits : length d < 2 ^ 64 → Fits w64 (n + p.wrote)
    fill-fits k = omega (arith, m.inside, w.inside, lent)

    pub on_fits : length raw * 1 < 2 ^ 63 → Fits w64 (at + p.next)
    on_fits k = omega (arith, w.near, tail-length raw at)

    pub on-less : length raw + 3 - (at + p.next) < length raw + 3 - at
    on-less = omega (arith, w.further)

    -- a turn over bytes that are as they were measured
    turn : {es left : List Entry} {e : Entry} → n + length (records left) ≡ length d₀ → sets d n (records left) ≡ sets d₀ 0 (records es)
        → entry_read false (tail raw at) ≡ answered e → Taken e (entries false (drop (at + p.next) raw)) left
        → Filled raw d₀ (put_mid n (length d - n) d ys) (n + p.wrote) (at + p.next) es
    unfolding records
    turn {left = left} {e = e} size rest r t =
        let z : length (records left) ≡ length (entry_record e) + length (records t.others) = ap (λ l. length (records l)) t.all ∙ length-append (entry_record e) (records t.others) in
        let room : n + length (entry_record e) ≤ length d = omega (arith, z, m.long) in
        let v = w.wrote e r (omega (arith, lent)) in
        let u : put_mid n (length d - n) d ys ≡ sets d n (entry_record e) = tail-over n d (entry_record e) ys room v.bytes in
        record {
          left = t.others;
          are = t.are;
          size = omega (arith, z, v.count);
          rest = rw (u, v.count, ← sets-append) (ap (λ l. sets d n (records l)) (sym t.all) ∙ rest);
        }

    turns : {es : List Entry} → Filled raw d₀ d n at es → Filled raw d₀ (put_mid n (length d - n) d ys) (n + p.wrote) (at + p.next) es
    turns {es} f = by (entry_read false (tail raw at)) refl
      where
        by : (o : Outcome Entry) → entry_read false (tail raw at) ≡ o → Filled raw d₀ (put_mid n (length d - n) d ys) (n + p.wrote) (at + p.next) es
        by (answered e) r = turn f.size f.rest r (taken e (entries false (drop (at + p.next) raw)) (sym (at_next false raw at h r (w.next e r)) ∙ f.are))
        by (refused why) r = absurd (let k = sym (at-bad false raw at h r) ∙ f.are in let z : ◌≡◌ {A = ℕ} 0 1 = cc in omega arith)

    pub fill-next : length ys ≡ length (mid_of n (length d - n) d) → Filling raw d₀ (put_mid n (length d - n) d ys) (n + p.wrote) (at + p.next)
    fill-next k =
        let same : length (put_mid n (length d - n) d ys) ≡ length d = same_len_mid n (length d - n) d ys k in
        record {
          within = omega (arith, w.near, tail-length raw at);
          inside = omega (arith, m.inside, w.inside, lent);
          long = same ∙ m.long;
          filled = λ es s l. turns (m.filled es s l);
        }

-- ---- the loop that looks for a name has come to `at`

-- one more entry, by a choice of matching: what is done with those that matched is what was found
noted-chosen : (m : Matching) (component : List ℕ) (e : Entry) (xs : List Entry)
    → noted_of m (named_of (chosen m xs)) component e ≡ named_of (chosen m (xs ++ pick (answers_to (fold_in m) component e) (e ∷ []) []))
unfolding noted_of chosen
noted-chosen m component e xs = by m (answers_to (fold_in m) component e) xs
  where
    by : (m : Matching) (t : Bool) (xs : List Entry)
        → pick (settled m (named_of (chosen m xs))) (named_of (chosen m xs)) (pick t (joined_of (named_of (chosen m xs)) e.identifier) (named_of (chosen m xs)))
        ≡ named_of (chosen m (xs ++ pick t (e ∷ []) []))
    by CaseIgnored true [] = refl
    by CaseIgnored false [] = refl
    by CaseIgnored true (x ∷ []) = refl
    by CaseIgnored false (x ∷ []) = refl
    by CaseIgnored t (x ∷ y ∷ xs) = refl
    by AsWritten true [] = refl
    by AsWritten false [] = refl
    by AsWritten true (x ∷ []) = refl
    by AsWritten false (x ∷ []) = refl
    by AsWritten t (x ∷ y ∷ xs) = refl
    by Unambiguous true [] = refl
    by Unambiguous false [] = refl
    by Unambiguous true (x ∷ []) = refl
    by Unambiguous false (x ∷ []) = refl
    by Unambiguous t (x ∷ y ∷ xs) = refl

-- what is done with the entries that matched so far, and those of the rest
abbrev chosen_with : Matching → List ℕ → List Entry → Outcome (List Entry) → Named
chosen_with m component xs o = named_of (and_then o (λ es. chosen m (xs ++ all_named (fold_in m) component es)))

chosen-turn : (m : Matching) (component : List ℕ) (xs : List Entry) (e : Entry) (o : Outcome (List Entry))
    → chosen_with m component (xs ++ pick (answers_to (fold_in m) component e) (e ∷ []) []) o ≡ chosen_with m component xs (in_front e o)
unfolding all_named
chosen-turn m component xs e (refused why) = refl
chosen-turn m component xs e (answered es) = ap (λ l. named_of (chosen m l)) (by (answers_to (fold_in m) component e) (all_named (fold_in m) component es))
  where
    by : (t : Bool) (more : List Entry) → (xs ++ pick t (e ∷ []) []) ++ more ≡ xs ++ pick t (e ∷ more) more
    by true more = append_assoc xs (e ∷ []) more
    by false more = rw append-nil

pub record Finding (check : Bool) (m : Matching) (component raw : List ℕ) (found : Named) (at : ℕ) : Type 0 where
  pub small : length raw * 1 < 2 ^ 63
  pub within : at ≤ length raw + 3
  pub matches : List Entry
  pub is : found ≡ named_of (chosen m matches)
  pub rest : chosen_with m component matches (entries check (drop at raw)) ≡ named_of (find_in check m component raw)

pub find-starts : (check : Bool) (m : Matching) (component raw : List ℕ) {found : Named} → length raw * 1 < 2 ^ 63 → found ≡ unnamed 0 → Finding check m component raw found 0
unfolding find_in chosen
find-starts check m component raw l e = record { small = l; within = zero-le; matches = []; is = e; rest = refl }

module _ {check : Bool} {m : Matching} {component raw : List ℕ} {found : Named} {at : ℕ} (f : Finding check m component raw found at) where
  pub find-ends : length raw < at + 38 → found ≡ named_of (find_in check m component raw)
  unfolding all_named
  find-ends h = f.is ∙ ap (λ l. named_of (chosen m l)) (sym (append-nil f.matches)) ∙ (rw (at-end check raw at h) at f.rest)

  module _ {r : Result FileIdentifierDescriptor Refusal} (p : Comes check raw at r) where
    pub find-bad : {why : Refusal} → r ≡ Err why → {n : ℕ} → n ≡ number why → {a : Named} → a ≡ unnamed n → a ≡ named_of (find_in check m component raw)
    find-bad {why} z k e = let w : entries check (drop at raw) ≡ refused why = rw z at p in e ∙ rw k (rw w at f.rest)

    pub find-fits : {d : FileIdentifierDescriptor} → r ≡ Ok d → Fits w64 (at + d.total_size)
    find-fits z = next_fits check raw at p z f.small

    pub find-next : {d : FileIdentifierDescriptor} → r ≡ Ok d → {a : Named} → (Whole (tail raw at) d → a ≡ noted_of m found component (entry_of (tail raw at) d))
        → Finding check m component raw a (at + d.total_size)
    find-next {d} z e =
        let g : GoodAt check raw at d = rw z at p in
        let x : Entry = entry_of (tail raw at) d in
        record {
          small = f.small;
          within = g.near;
          matches = f.matches ++ pick (answers_to (fold_in m) component x) (x ∷ []) [];
          is = e g.whole ∙ ap (λ n. noted_of m n component x) f.is ∙ noted-chosen m component x f.matches;
          rest = chosen-turn m component f.matches x (entries check (drop (at + d.total_size) raw)) ∙ (rw g.is at f.rest);
        }

-- ---- the listing, by what was measured

done-listing : (check : Bool) (raw : List ℕ) {es : List Entry} → entries check raw ≡ answered es → {n : ℕ} → n ≡ length (records es) → {d ys : List ℕ} → n ≤ length d
    → (length (records es) ≡ length (mid_of 0 (n - 0) d) → ys ≡ records es)
    → Replied NoRoom (told (listing check raw)) d (put_mid 0 (n - 0) d ys) (record { answer = 0; count = 0; length = n })
done-listing check raw {es} are {n} q {d} h w =
    let l : length (records es) ≤ length d = omega arith in
    let k : length (records es) ≡ length (mid_of 0 (n - 0) d) = simp (length-take, length-drop) (omega arith) in
    rw (all_listed check raw are, w k, q) (reply-done (records es) 0 0 l refl (rw (over-fits (records es) d l, sub-zero)))

module _ (check : Bool) (raw : List ℕ) {m : Result ℕ Refusal} (p : m ≡ size_of_listing (entries check raw)) where
  pub list-bad : {why : Refusal} → m ≡ Err why → {n : ℕ} → n ≡ number why → {d : List ℕ} {reply : Reply} → reply ≡ record { answer = n; count = 0; length = 0 } → Replied NoRoom (told (listing check raw)) d d reply
  unfolding listing
  list-bad {why} z k {d} {reply} q = by (entries check raw) (sym z ∙ p)
    where
      by : (o : Outcome (List Entry)) → Err why ≡ size_of_listing o → Replied NoRoom (told (and_then o (λ es. answered (records es)))) d d reply
      by (answered es) e = absurd (let y : ◌≡◌ {A = ℕ} 0 1 = cc in omega arith)
      by (refused w) e = let v : why ≡ w = cc in reply-refused w 0 0 refl (q ∙ rw (k, v))

  module _ {n : ℕ} (z : m ≡ Ok n) where
    -- the entries that were measured
    record Sized : Type 0 where
      es : List Entry
      are : entries check raw ≡ answered es
      size : n ≡ length (records es)

    sized : Sized
    sized = by (entries check raw) refl (sym z ∙ p)
      where
        by : (o : Outcome (List Entry)) → entries check raw ≡ o → Ok n ≡ size_of_listing (entries check raw) → Sized
        by (answered es) e q = let k : Ok n ≡ size_of_listing (answered es) = rw e at q in record { es = es; are = e; size = cc }
        by (refused why) e q = absurd (let k : Ok n ≡ size_of_listing (refused why) = rw e at q in let y : ◌≡◌ {A = ℕ} 0 1 = cc in omega arith)

    pub list_full : {d : List ℕ} → length d < n → {a : ℕ} {reply : Reply} → a ≡ number NoRoom → reply ≡ record { answer = a; count = 0; length = 0 } → Replied NoRoom (told (listing check raw)) d d reply
    list_full h e q = rw (all_listed check raw sized.are) (reply-full (records sized.es) 0 0 (omega (arith, sized.size)) refl (q ∙ rw e))

    pub list_done : {d ys : List ℕ} → n ≤ length d → ((es : List Entry) → entries false raw ≡ answered es → length (records es) ≡ length (mid_of 0 (n - 0) d) → ys ≡ records es)
        → Replied NoRoom (told (listing check raw)) d (put_mid 0 (n - 0) d ys) (record { answer = 0; count = 0; length = n })
    list_done h w = done-listing check raw sized.are sized.size h (w sized.es (entries-unchecked check raw sized.are))

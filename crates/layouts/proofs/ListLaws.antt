-- A list of extents, put together from its passes. Assumes nothing.
use Rattle.std.specs.Prelude.{Result, Ok, Err}
use mathlib.Core.Path.{◌≡◌, refl, ap, sym, ◌∙◌}
use mathlib.Core.Bool.{Bool, true, false}
use mathlib.Core.List.{List, [], ◌∷◌, ◌++◌, map}
use Prim.Native.Nat.{ℕ, zero, suc, ◌+◌, ◌≤◌, ◌<◌, ◌^◌, min}
use native.Mathlib.Omega.{arith}
use native.Mathlib.Nat.{add-zero, zero-add}
use native.Mathlib.Numerals.{add-one}
use lib.ListN.{length, drop, set, length-map, length-set, drop_of_length-le}
use lib.Dec.{leb}
use lib.Seq.{sets, sets-eq}
use mir.Syntax.{w64}
use mir.Val.{Fits}
use borrow.Author.Tests.{le-leb, lt-leb, leb-true}
use Rattle.disc.specs.Refusals.{number}
use Rattle.disc.specs.Choice.{pick}
use Rattle.disc.specs.Counts.{reported}
use Rattle.disc.specs.Ask.{Outcome}
use Rattle.disc.specs.Ask.Outcome.{answered, refused}
use Rattle.disc.specs.Ran.{Ran, ran, each_in}
use Rattle.disc.specs.Replies.{reply_by, reply_of, left_by}
use Rattle.disc.specs.Images.{disc}
use Rattle.disc.specs.declared.places.Mount.{Mount}
use Rattle.disc.specs.declared.refusals.Refusal.{Refusal}
use Rattle.disc.specs.declared.refusals.Refusal.TheVariants.{NoSlot}
use Rattle.disc.specs.declared.replies.Reply.{Reply}
use Rattle.disc.proofs.RanLaws.{ran-done, ran_then}
use Rattle.records.specs.declared.allocations.LongAd.{LongAd}
use Rattle.areas.specs.declared.AllocExtent.{AllocExtent}
use Rattle.chains.specs.declared.cursors.ChainCursor.{ChainCursor}
use Rattle.chains.specs.declared.cursors.ChainStep.{ChainStep}
use Rattle.chains.specs.declared.cursors.ChainStep.TheVariants.{Takes, Hops, Ends}
use Rattle.chains.specs.declared.counts.Counted.{Counted}
use Rattle.chains.proofs.CountLaws.{counts-exact}
use Rattle.chains.specs.Inner.Walks.{left, step_of, Counts}
use Rattle.chains.proofs.WalkLaws.{ended, hopped, taken}
use Rattle.files.specs.declared.icbs.FilePlace.{FilePlace}
use Rattle.files.specs.Files.{entry_mount, file_extents}
use Rattle.files.specs.Inner.Wholes.{front_of, ChainedFile, Resolves}
use Rattle.layouts.specs.declared.lists.Extent.{Extent}
use Rattle.layouts.specs.declared.lists.Listing.{Listing}
use Rattle.layouts.specs.Calls.{reference_of, extent_of, Listed}
use Rattle.layouts.specs.Inner.Lists.{stored_of, Front, ListStands, Planned, listed_run}
use Rattle.disc.specs.Parts.{Bytes}
use Rattle.files.specs.declared.resolves.Resolved.TheVariants.{Embedded, Chained}
use Rattle.files.specs.declared.resolves.Resolved.{Resolved}
use Rattle.disc.specs.declared.refusals.CountedRefusal.{CountedRefusal}

-- ---- the return of `extent_of`

pub extent-is : (e : AllocExtent) {m : ℕ} → m ≡ reference_of e.partition_ref
    → record { length = e.length; extent_type = e.extent_type; block = e.block.0; partition = m } ≡ extent_of e
extent-is e f = rw f

-- ---- the loop that makes a listing

-- any listing stands for no extents
stands-empty : (image : List ℕ) {es : List AllocExtent} → es ≡ [] → {reply : Reply} {l : Listing} → l.reply ≡ reply → ListStands image es reply l
stands-empty image h e = record { same = e; next = λ x rest k. absurd (let z : ◌≡◌ {A = ℕ} 0 1 = cc in omega arith) }

module _ (image : List ℕ) (v : Mount) (kind : ℕ) (c₀ : ChainCursor) where
  pub record Walking (c : ChainCursor) : Type 0 where
    pub list : left image v kind c ≡ left image v kind c₀

  pub walk-starts : Walking c₀
  walk-starts = record { list = refl }

  module _ (c : ChainCursor) (w : Walking c) {r : ChainStep} (p : r ≡ step_of image v kind c) (b : Bytes image) where
    pub walk-hop : {c' : ChainCursor} → r ≡ Hops c' → Walking c'
    walk-hop e = record { list = sym (hopped image v kind c p b e).list ∙ w.list }

    pub walk_ends : r ≡ Ends → {reply : Reply} {l : Listing} → l.reply ≡ reply → ListStands image (left image v kind c₀) reply l
    walk_ends e f = stands-empty image (sym w.list ∙ ended image v kind c p b e) f

    pub walk-takes : {x : AllocExtent} {c' : ChainCursor} → r ≡ Takes x c' → (reply : Reply) {e : Extent} → e ≡ extent_of x
        → ListStands image (left image v kind c₀) reply (record { reply = reply; mount = v; kind = kind; front = e; behind = c' })
    walk-takes {x} {c'} e reply f = record {
      same = refl;
      next = λ y rest k.
          let h : x ∷ left image v kind c' ≡ y ∷ rest = sym (taken image v kind c p b e).list ∙ w.list ∙ k in
          record { front = cc; behind = cc };
    }

-- ---- the returns of `list_whole`

module _ (image : List ℕ) (v : Mount) (kind : ℕ) (c : ChainCursor) (n : ℕ) (small : n < 2 ^ 64) {k : Counted} (q : Counts image v kind c k) (room : ℕ) where
  pub list_full : room < k.extents → {a : ℕ} → a ≡ number NoSlot → {x : Reply} → x ≡ record { answer = a; count = n; length = 0 } → {l : Listing} → l.reply ≡ x
      → Planned image (listed_run image v kind c n) room l
  list_full h g f j =
      let s : room < length (left image v kind c) = omega (arith, q.extents) in
      let z : min n 0xffff_ffff_ffff_ffff ≡ n = omega arith in
      rw (lt-leb _ _ s, z) (stands-empty image refl (j ∙ f ∙ rw g))

  pub list_done : c.left ≤ 2048 → c.hops < 2 ^ 8 → k.extents ≤ room → {l : Listing} → ListStands image (left image v kind c) (record { answer = 0; count = n; length = k.extents }) l
      → Planned image (listed_run image v kind c n) room l
  list_done little hops h g =
      let all : k.extents ≡ length (left image v kind c) = counts-exact q (omega arith) in
      let s : length (left image v kind c) ≤ room = omega (arith, all) in
      let z : min n 0xffff_ffff_ffff_ffff ≡ n = omega arith in
      rw (le-leb _ _ s, z, ← all) g

-- ---- the returns of `plan`: r is what `resolve` found

module _ (image : List ℕ) (v : Mount) (icb : LongAd) (r : Result Resolved CountedRefusal) (y : Resolves image v icb r) (room : ℕ) where
  abbrev file : Ran (List AllocExtent)
  file = ran (disc image) (file_extents v icb)

  pub list-refused : {why : Refusal} {n : ℕ} → r ≡ Err (record { why = why; count = n }) → {a : ℕ} → a ≡ number why → {x : Reply} → x ≡ record { answer = a; count = n; length = 0 }
      → {l : Listing} → l.reply ≡ x → Planned image file room l
  unfolding file_extents
  list-refused {why} {n} e g f j =
      let q : Resolves image v icb (Err (record { why = why; count = n })) = rw e at y in
      let z : min n 0xffff_ffff_ffff_ffff ≡ n = omega (arith, q.few) in
      rw (ran_then, q.runs) (stands-empty image refl (rw z (j ∙ f ∙ rw g)))

  pub list-in : {p : FilePlace} → r ≡ Ok (Embedded p) → {l : Listing} → l.reply ≡ record { answer = 0; count = 1; length = 0 } → Planned image file room l
  unfolding file_extents
  list-in {p} e j =
      let q : Resolves image v icb (Ok (Embedded p)) = rw e at y in
      rw (ran_then, q.runs, ran-done) (stands-empty image (rw (le-leb 0 room (omega arith))) (rw (le-leb 0 room (omega arith)) j))

  module _ {p : FilePlace} {n : ℕ} (e : r ≡ Ok (Chained p n)) where
    in-chain : ChainedFile image v icb p n
    in-chain = rw e at y

    pub list_count : n < 2 ^ 64
    list_count = omega (arith, in-chain.few)

    pub list-small : {front : ChainCursor} → front ≡ front_of p → front.left ≤ 2048
    list-small g = rw g in-chain.small

    pub list-out : {own : Mount} → own ≡ entry_mount v icb → {front : ChainCursor} → front ≡ front_of p → {l : Listing} → Planned image (listed_run image own p.kind front n) room l → Planned image file room l
    unfolding file_extents
    list-out o g h = rw (ran_then, in-chain.runs, ran-done, add-zero, ← o, ← g) h

-- ---- the loop that stores: what is stored and what is left to store are all there is

-- what stands at i
pub record At {E : Type 0} (es : List E) (i : ℕ) : Type 0 where
  pub e : E
  pub is : drop i es ≡ e ∷ drop (suc i) es

pub at : {E : Type 0} (es : List E) (i : ℕ) → i < length es → At es i
at [] i h = absurd (omega arith)
at (x ∷ es) zero h = record { e = x; is = refl }
at (x ∷ es) (suc i) h = let k = at es i (omega arith) in record { e = k.e; is = k.is }

-- what is stored fits the row, is counted by the reply, and stands over the row's front
pub record Fit {E A : Type 0} (f : E → A) (row : List A) (stored : List E) (left : List A) (reply : Reply) : Type 0 where
  pub fits : length stored ≤ length row
  pub counts : reply.length ≡ length stored
  pub leaves : left ≡ map f stored ++ drop (length stored) row

fit-by : {E A : Type 0} (f : E → A) (row : List A) (n : ℕ) (es : List E) (b : Bool) → (b ≡ true → length es ≤ length row)
    → Fit f row (pick b es []) (pick b (map f es ++ drop (length es) row) row)
    (pick b (record { answer = 0; count = n; length = length es }) (record { answer = number NoSlot; count = n; length = 0 }))
fit-by f row n es true h = record { fits = h refl; counts = refl; leaves = refl }
fit-by f row n es false h = record { fits = omega arith; counts = refl; leaves = refl }

pub fit : {E A : Type 0} (f : E → A) (row : List A) (n : ℕ) (o : Outcome (List E)) → Fit f row (stored_of (length row) o) (left_by row (each_in f o)) (reply_by NoSlot (length row) n o)
fit f row n (refused r) = record { fits = omega arith; counts = refl; leaves = refl }
fit f row n (answered es) = rw length-map (fit-by f row n es (leb (length es) (length row)) (leb-true (length es) (length row)))

-- the reply counts slots, whatever they hold
pub reply-each : {E A : Type 0} (f : E → A) (room n : ℕ) (o : Outcome (List E)) → reply_by NoSlot room n (each_in f o) ≡ reply_by NoSlot room n o
reply-each f room n (refused r) = refl
reply-each f room n (answered es) = rw length-map

-- the extents, or what else a run lists, that a row has slots for
abbrev pub stored : {E A : Type 0} → Ran (List E) → List A → List E
stored r row = stored_of (length row) r.outcome

-- f is what a slot holds of an extent, by its record
pub record Storing {A : Type 0} (f : Extent → A) (image : List ℕ) (r : Ran (List AllocExtent)) (d₀ d : List A) (l : Listing) (n i : ℕ) : Type 0 where
  pub stands : ListStands image (drop i (stored r d₀)) (reply_of NoSlot (length d₀) r) l
  pub rest : sets d i (map (λ e. f (extent_of e)) (drop i (stored r d₀))) ≡ sets d₀ 0 (map (λ e. f (extent_of e)) (stored r d₀))
  pub long : length d ≡ length d₀
  pub many : n ≡ length (stored r d₀)

module _ {A : Type 0} (f : Extent → A) (image : List ℕ) (r : Ran (List AllocExtent)) (d₀ : List A) where
  abbrev fitted : Fit (λ e. f (extent_of e)) d₀ (stored r d₀) (left_by d₀ (each_in (λ e. f (extent_of e)) r.outcome)) (reply_of NoSlot (length d₀) r)
  fitted = fit (λ e. f (extent_of e)) d₀ (reported r.count) r.outcome

  pub store-starts : {l : Listing} → Planned image r (length d₀) l → Storing f image r d₀ d₀ l l.reply.length 0
  store-starts p = record { stands = p; rest = refl; long = refl; many = ap (λ (x : Reply). x.length) p.same ∙ fitted.counts }

  pub store-few : {l : Listing} → Planned image r (length d₀) l → l.reply.length ≤ length d₀
  store-few p = omega (arith, (store-starts p).many, fitted.fits)

  module _ {d : List A} {l : Listing} {n i : ℕ} (s : Storing f image r d₀ d l n i) where
    pub store-ends : n ≤ i → Listed (λ e. f (extent_of e)) r d₀ d l.reply
    store-ends h =
        let past : drop i (stored r d₀) ≡ [] = drop_of_length-le (stored r d₀) {i = i} (omega (arith, s.many)) in
        let all : d ≡ sets d₀ 0 (map (λ e. f (extent_of e)) (stored r d₀)) = rw past at s.rest in
        let room : 0 + length (map (λ e. f (extent_of e)) (stored r d₀)) ≤ length d₀ = rw (zero-add, length-map) fitted.fits in
        record {
          says = s.stands.same ∙ sym (reply-each (λ e. f (extent_of e)) (length d₀) (reported r.count) r.outcome);
          leaves = all ∙ sets-eq (map (λ e. f (extent_of e)) (stored r d₀)) d₀ 0 room ∙ rw (zero-add, length-map) (sym fitted.leaves);
        }

    module _ (h : i < n) where
      abbrev here : At (stored r d₀) i
      here = at (stored r d₀) i (omega (arith, s.many))

      abbrev front : Front image here.e (drop (suc i) (stored r d₀)) l
      front = s.stands.next here.e (drop (suc i) (stored r d₀)) here.is

      pub store-slot : i < length d
      store-slot = omega (arith, s.many, s.long, fitted.fits)

      pub store-next : {v : A} → v ≡ f l.front → {l' : Listing} → ListStands image (left image l.mount l.kind l.behind) l.reply l'
          → Storing f image r d₀ (set d i v) l' n (i + 1)
      store-next e t = rw (add-one, e, front.front) (record {
        stands = rw (s.stands.same, front.behind) at t;
        rest = rw here.is at s.rest;
        long = rw length-set s.long;
        many = s.many;
      })

-- the same where the run is known only from the listing that the loop began with
pub record Stores {A : Type 0} (f : Extent → A) (image : List ℕ) (l₀ : Listing) (d₀ d : List A) (l : Listing) (n i : ℕ) : Type 0 where
  pub whole : (r : Ran (List AllocExtent)) → Planned image r (length d₀) l₀ → Storing f image r d₀ d l n i

pub stores-start : {A : Type 0} (f : Extent → A) (image : List ℕ) (l : Listing) (d : List A) → Stores f image l d d l l.reply.length 0
stores-start f image l d = record { whole = λ r p. store-starts f image r d p }

module _ {A : Type 0} (f : Extent → A) (image : List ℕ) (r : Ran (List AllocExtent)) (l₀ : Listing) (d₀ : List A) (p : Planned image r (length d₀) l₀)
    {d : List A} {l : Listing} {n i : ℕ} (s : Stores f image l₀ d₀ d l n i) where
  pub stores-slot : i < n → i < length d
  stores-slot h = store-slot f image r d₀ (s.whole r p) h

  pub stores-long : length d ≡ length d₀
  stores-long = (s.whole r p).long

  -- that a slot's number and its place in bytes fit is known of the row as it was lent
  pub stores-below : i < n → i < length d₀
  stores-below h = omega (arith, stores-slot h, stores-long)

  pub stores-adds : i < n → length d₀ < 2 ^ 64 → Fits w64 (i + 1)
  stores-adds h k = omega (arith, stores-below h)

pub stores-next : {A : Type 0} (f : Extent → A) (image : List ℕ) (l₀ : Listing) (d₀ : List A) {d : List A} {l : Listing} {n i : ℕ} → Stores f image l₀ d₀ d l n i → i < n
    → {v : A} → v ≡ f l.front → {l' : Listing} → ListStands image (left image l.mount l.kind l.behind) l.reply l' → Stores f image l₀ d₀ (set d i v) l' n (i + 1)
stores-next f image l₀ d₀ s h e t = record { whole = λ r p. store-next f image r d₀ (s.whole r p) h e t }

pub slots-end : {A : Type 0} (f : Extent → A) (image : List ℕ) (r : Ran (List AllocExtent)) (l₀ : Listing) (d₀ : List A) → Planned image r (length d₀) l₀
    → {d : List A} {l : Listing} {n i : ℕ} → Stores f image l₀ d₀ d l n i → n ≤ i → Listed (λ e. f (extent_of e)) r d₀ d l.reply
slots-end f image r l₀ d₀ p s h = store-ends f image r d₀ (s.whole r p) h

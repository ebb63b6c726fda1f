-- A chain of areas, followed one area at a time. Assumes nothing.
use Rattle.std.specs.Prelude.{Option, Some, None, Result, Ok, Err}
use mathlib.Core.Path.{◌≡◌, refl, ap, sym, ◌∙◌}
use mathlib.Core.Bool.{Bool}
use mathlib.Core.List.{List, [], ◌++◌}
use Prim.Native.Nat.{ℕ, zero, suc, ◌+◌, ◌-◌, ◌*◌, ◌≤◌, ◌<◌, ◌^◌}
use native.Mathlib.Omega.{arith}
use native.Mathlib.Nat.{add-sub_cancel_left, add-zero, zero-add, add_assoc}
use lib.ListN.{take, drop}
use mir.Syntax.{w64}
use mir.Val.{Fits}
use borrow.Author.Tests.{le-leb, lt-leb, lt-ltb, le-ltb}
use Rattle.disc.specs.Ask.{outcome, then}
use Rattle.disc.specs.Ask.Ask.{done, refuse}
use Rattle.disc.specs.Ask.Outcome.{answered, refused}
use Rattle.disc.specs.Ran.{ran, after, followed}
use Rattle.disc.specs.Images.{disc, sectors, held_from, bytes_of, sectors_for}
use Rattle.disc.specs.Places.{placed, is_checked, BlockStands}
use Rattle.disc.specs.declared.places.Mount.{Mount}
use Rattle.disc.specs.declared.places.Sector.{Sector}
use Rattle.disc.specs.declared.refusals.Refusal.{Refusal}
use Rattle.disc.specs.declared.refusals.Refusal.TheVariants.{Io, Malformed, Unsupported}
use Rattle.disc.proofs.PlaceLaws.{stands-nowhere, stands_at}
use Rattle.disc.proofs.RanLaws.{ran-done, ran-refuse, ran_then}
use Rattle.disc.proofs.ImageLaws.{sectors-run, part-whole}
use Rattle.tags.specs.Tags.{read_aed}
use Rattle.tags.specs.declared.AllocationExtentDescriptor.{AllocationExtentDescriptor}
use Rattle.tags.proofs.HeadLaws.{aed-read}
use Rattle.areas.specs.declared.AdContinuation.{AdContinuation}
use Rattle.areas.specs.declared.AdEnding.{AdEnding}
use Rattle.areas.specs.declared.AdEnding.TheVariants.{End, Continuation, Refused as Refuses}
use Rattle.areas.specs.Areas.{Area, area_at}
use Rattle.areas.proofs.PartLaws.{same-part, same-u32, area-in-part}
use Rattle.chains.specs.declared.cursors.ChainCursor.{ChainCursor}
use Rattle.chains.specs.Chains.{area_in, area_from, next_area, continued}
use Rattle.chains.specs.Inner.Walks.{beyond, left}
use Rattle.chains.specs.Inner.Follows.{FoundArea, NoArea, Reaches, ReachesFrom, chain_at, Followed}
use Rattle.chains.proofs.WalkLaws.{beyond-end}
use Rattle.disc.specs.Lists.{sectors_run}
use Rattle.chains.specs.declared.continuations.NextArea.{NextArea}
use Rattle.disc.specs.declared.refusals.CountedRefusal.{CountedRefusal}

-- ---- the area that continues another

module _ (check : Bool) (image : List ℕ) (length first : ℕ) where
  pub next-short : length < 24 → ReachesFrom check image length first (Err (record { why = Malformed; count = 0 }))
  unfolding area_from
  next-short k = record { runs = λ kind. rw (lt-ltb length 24 k) (ran-refuse (disc image) Malformed); few = omega arith }

  module _ (h : 24 ≤ length) where
    pub next-long : 1048576 < length → ReachesFrom check image length first (Err (record { why = Unsupported; count = 0 }))
    unfolding area_from
    next-long k = record { runs = λ kind. rw (le-ltb length 24 h, lt-ltb 1048576 length k) (ran-refuse (disc image) Unsupported); few = omega arith }

    module _ (l : length ≤ 1048576) {n : ℕ} (u : n ≡ sectors_for length) {held : ℕ} (m : held ≡ held_from image first) where
      few-sectors : n ≤ 512
      few-sectors = omega arith

      asks : (kind : ℕ) → ran (disc image) (area_from check kind length first) ≡ followed (sectors_run image n first) (λ s. ran (disc image) (area_in kind length s (read_aed check s)))
      unfolding area_from
      asks kind = rw (le-ltb length 24 h, le-ltb 1048576 length l, ran_then, sectors-run, ← u)

      pub next-missing : held < n → ReachesFrom check image length first (Err (record { why = Io; count = (held + 1) }))
      next-missing k = record { runs = λ kind. asks kind ∙ rw (← m, lt-leb n held k); few = omega (arith, few-sectors) }

      module _ (k : n ≤ held) {b : List ℕ} (p : b ≡ bytes_of (outcome (disc image) (sectors n first))) {r : Result AllocationExtentDescriptor Refusal} (q : r ≡ read_aed check b) where
        abbrev buffer : List ℕ
        buffer = take (2048 * n) (drop (2048 * first) image)

        lies : b ≡ buffer
        lies =
            let x : first * 2048 ≡ 2048 * first = omega arith in
            let y : n * 2048 ≡ 2048 * n = omega arith in
            p ∙ sym (part-whole image n first held m k) ∙ rw (add-sub_cancel_left, x, y)

        header : r ≡ read_aed check buffer
        header = q ∙ ap (read_aed check) lies

        reads : (kind : ℕ) → ran (disc image) (area_from check kind length first) ≡ after n (ran (disc image) (area_in kind length buffer r))
        reads kind = asks kind ∙ rw (← m, le-leb n held k, header)

        pub next-none : {why : Refusal} → r ≡ Err why → ReachesFrom check image length first (Err (record { why = why; count = n }))
        next-none z = record { runs = λ kind. reads kind ∙ rw (z, ran-refuse, add-zero); few = few-sectors }

        module _ {x : AllocationExtentDescriptor} (z : r ≡ Ok x) where
          pub next-over : length < 24 + x.length_of_allocation_descriptors → ReachesFrom check image length first (Err (record { why = Malformed; count = n }))
          next-over y = record { runs = λ kind. reads kind ∙ rw (z, lt-ltb length (24 + x.length_of_allocation_descriptors) y, ran-refuse, add-zero); few = few-sectors }

          pub next-found : 24 + x.length_of_allocation_descriptors ≤ length
              → ReachesFrom check image length first (Ok (record { at = (2048 * first + 24); size = x.length_of_allocation_descriptors; sectors = n }))
          next-found y = record {
            runs = λ kind. reads kind ∙ rw (z, le-ltb length (24 + x.length_of_allocation_descriptors) y, ran-done, add-zero, area-in-part image (2048 * first) (2048 * n) kind 24 x.length_of_allocation_descriptors (omega arith));
            place = refl;
            says = (aed-read check buffer header z).area ∙ same-u32 buffer image 20 (2048 * first + 20) 4 (omega arith) (same-part image (2048 * first) (2048 * n) 20 4 (omega arith));
            few = few-sectors;
          }

-- where it stands, before those checks
module _ (image : List ℕ) (m : Mount) (a : AdContinuation) {p : Option Sector} (q : BlockStands m a.partition_ref a.block.0 p) where
  pub next-nowhere : p ≡ None → Reaches image m a (Err (record { why = Unsupported; count = 0 }))
  unfolding next_area
  next-nowhere e = record { runs = λ kind. rw (stands-nowhere m a.partition_ref a.block.0 q e) (ran-refuse (disc image) Unsupported); few = omega arith }

  module _ {s : Sector} (e : p ≡ Some s) where
    there : placed m a.partition_ref a.block.0 ≡ Some s.0
    there = stands_at m a.partition_ref a.block.0 q e

    pub next-there : {check : Bool} → check ≡ is_checked m → (r : Result NextArea CountedRefusal) → ReachesFrom check image a.length s.0 r → Reaches image m a r
    unfolding next_area
    next-there k (Ok x) y = record { runs = λ kind. rw (there, ← k) (y.runs kind); there = λ kind. rw (there, y.place, y.says); few = y.few }
    next-there k (Err e) y = record { runs = λ kind. rw (there, ← k) (y.runs kind); few = y.few }

-- ---- the loop over areas: what the rest comes to says what the whole comes to

module _ (image : List ℕ) (m : Mount) (kind : ℕ) where
  abbrev area : ChainCursor → Area
  area c = area_at kind image c.at c.left

  continued-end : (n : ℕ) → continued m kind n End ≡ done []
  unfolding continued
  continued-end zero = refl
  continued-end (suc n) = refl

  continued-refused : (n : ℕ) (r : Refusal) → continued m kind n (Refuses r) ≡ refuse r
  unfolding continued
  continued-refused zero r = refl
  continued-refused (suc n) r = refl

  -- a chain that ends, and one that is broken
  module _ (c : ChainCursor) where
    chain-end : End ≡ (area c).ending → chain_at image m kind c ≡ record { outcome = answered (left image m kind c); count = 0 }
    unfolding left then
    chain-end e = rw (← e, continued-end, beyond-end image m kind) (ran-done (disc image) _)

    chain-broken : (r : Refusal) → Refuses r ≡ (area c).ending → chain_at image m kind c ≡ record { outcome = refused r; count = 0 }
    unfolding then
    chain-broken r e = rw (← e, continued-refused) (ran-refuse (disc image) r)

    module _ (x : AdContinuation) (e : Continuation x ≡ (area c).ending) where
      chain-cut : c.hops ≡ 0 → chain_at image m kind c ≡ record { outcome = refused Malformed; count = 0 }
      unfolding then continued
      chain-cut z = rw (← e, z) (ran-refuse (disc image) Malformed)

      module _ (n : ℕ) (p : c.hops ≡ suc n) where
        chain-none : (r : Refusal) (j : ℕ) → NoArea image m x r j → chain_at image m kind c ≡ record { outcome = refused r; count = j }
        unfolding continued
        chain-none r j y = rw (← e, p, ran_then, ran_then, y.runs kind)

        module _ (at size j : ℕ) (y : FoundArea image m x at size j) where
          abbrev onto : ChainCursor
          onto = record { at = at; left = size; hops = n }

          turn-broken : (r : Refusal) (k : ℕ) → chain_at image m kind onto ≡ record { outcome = refused r; count = k }
              → chain_at image m kind c ≡ record { outcome = refused r; count = j + k }
          unfolding continued
          turn-broken r k q = rw (← e, p, ran_then, ran_then, y.runs kind, q)

          turn-left : left image m kind c ≡ (area c).extents ++ left image m kind onto
          unfolding left beyond
          turn-left = rw (← e, p, y.there kind)

          turn-whole : (k : ℕ) → chain_at image m kind onto ≡ record { outcome = answered (left image m kind onto); count = k }
              → chain_at image m kind c ≡ record { outcome = answered (left image m kind c); count = j + k }
          unfolding continued
          turn-whole k q = rw turn-left (rw (← e, p, ran_then, ran_then, y.runs kind, q, ran-done, add-zero))

  module _ (c₀ : ChainCursor) where
    pub record Following (c : ChainCursor) (count : ℕ) : Type 0 where
      pub whole : (n : ℕ) → chain_at image m kind c ≡ record { outcome = answered (left image m kind c); count = n }
          → chain_at image m kind c₀ ≡ record { outcome = answered (left image m kind c₀); count = count + n }
      pub broken : (r : Refusal) (n : ℕ) → chain_at image m kind c ≡ record { outcome = refused r; count = n }
          → chain_at image m kind c₀ ≡ record { outcome = refused r; count = count + n }
      pub few : count + 512 * c.hops ≤ 512 * c₀.hops
      pub deep : c₀.hops < 2 ^ 8

    pub follow-starts : c₀.hops < 2 ^ 8 → Following c₀ 0
    follow-starts d = record { whole = λ n e. rw zero-add e; broken = λ r n e. rw zero-add e; few = omega arith; deep = d }

    module _ (c : ChainCursor) (count : ℕ) (i : Following c count) {t : AdEnding} (e : t ≡ (area c).ending) where
      pub follow-end : t ≡ End → Followed image m kind c₀ (Ok count)
      follow-end z = record { runs = (rw add-zero at (i.whole 0 (chain-end c (sym z ∙ e)))); few = omega (arith, i.few) }

      pub follow-broken : {r : Refusal} → t ≡ Refuses r → Followed image m kind c₀ (Err (record { why = r; count = count }))
      follow-broken {r} z = record { runs = (rw add-zero at (i.broken r 0 (chain-broken c r (sym z ∙ e)))); few = omega (arith, i.few) }

      module _ {x : AdContinuation} (z : t ≡ Continuation x) where
        pub follow-cut : c.hops ≡ 0 → Followed image m kind c₀ (Err (record { why = Malformed; count = count }))
        follow-cut h = record { runs = (rw add-zero at (i.broken Malformed 0 (chain-cut c x (sym z ∙ e) h))); few = omega (arith, i.few) }

        module _ (h : c.hops ≡ 0 → ⊥) (r : Result NextArea CountedRefusal) (q : Reaches image m x r) where
          more : c.hops ≡ suc (c.hops - 1)
          more = omega arith

          pub follow-none : {w : CountedRefusal} → r ≡ Err w → Followed image m kind c₀ (Err (record { why = w.why; count = count + w.count }))
          follow-none {w} k =
              let y : NoArea image m x w.why w.count = rw k at q in
              record { runs = i.broken w.why w.count (chain-none c x (sym z ∙ e) (c.hops - 1) more w.why w.count y); few = omega (arith, i.few, y.few) }

          pub follow-none-fits : {w : CountedRefusal} → r ≡ Err w → Fits w64 (count + w.count)
          follow-none-fits {w} k = let y : NoArea image m x w.why w.count = rw k at q in omega (arith, i.few, i.deep, y.few)

          module _ {o : NextArea} (k : r ≡ Ok o) where
            found : FoundArea image m x o.at o.size o.sectors
            found = rw k at q

            pub follow-adds : Fits w64 (count + o.sectors)
            follow-adds = omega (arith, i.few, i.deep, found.few)

            pub follow-next : Following (record { at = o.at; left = o.size; hops = c.hops - 1 }) (count + o.sectors)
            follow-next = record {
              whole = λ j w. rw add_assoc (i.whole (o.sectors + j) (turn-whole c x (sym z ∙ e) (c.hops - 1) more o.at o.size o.sectors found j w));
              broken = λ b j w. rw add_assoc (i.broken b (o.sectors + j) (turn-broken c x (sym z ∙ e) (c.hops - 1) more o.at o.size o.sectors found b j w));
              few = omega (arith, i.few, found.few);
              deep = i.deep;
            }

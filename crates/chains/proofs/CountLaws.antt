-- What is left of a chain, counted one step at a time: its extents, and the areas that are gone to. Assumes nothing.
use Rattle.std.specs.Prelude.{Option, Some, None, Result, Ok, Err}
use mathlib.Core.Path.{◌≡◌, refl, sym, ◌∙◌}
use mathlib.Core.Bool.{Bool}
use mathlib.Core.List.{List, [], ◌∷◌}
use mathlib.Core.Logic.{⊎_elim}
use Prim.Native.Nat.{ℕ, zero, suc, ◌+◌, ◌-◌, ◌*◌, ◌≤◌, ◌<◌, ◌^◌}
use native.Mathlib.Omega.{arith}
use lib.ListN.{length}
use borrow.Author.Tests.{ne_eqb}
use Rattle.disc.specs.Counts.{reported}
use Rattle.disc.specs.Ask.{Outcome, outcome}
use Rattle.disc.specs.Ask.Ask.{refuse}
use Rattle.disc.specs.Ask.Outcome.{answered, refused}
use Rattle.disc.specs.Ran.{ran}
use Rattle.disc.specs.Images.{disc, sectors, held_from, bytes_of, sectors_for}
use Rattle.disc.specs.Places.{placed, is_checked}
use Rattle.disc.specs.declared.places.Mount.{Mount}
use Rattle.disc.specs.declared.refusals.Refusal.{Refusal}
use Rattle.disc.specs.declared.refusals.Refusal.TheVariants.{Io, Malformed, Unsupported}
use Rattle.disc.proofs.RanLaws.{ran-done, ran-refuse, ran_then, never}
use Rattle.disc.proofs.ImageLaws.{split}
use Rattle.tags.specs.Tags.{read_aed}
use Rattle.areas.specs.declared.AllocExtent.{AllocExtent}
use Rattle.areas.specs.declared.AdContinuation.{AdContinuation}
use Rattle.areas.specs.declared.AdCursor.{AdCursor}
use Rattle.areas.specs.declared.AdStep.{AdStep}
use Rattle.areas.specs.declared.AdStep.TheVariants.{Extent, Continuation as Continues, End as Stops, Refused as Refuses}
use Rattle.areas.specs.declared.AdEnding.{AdEnding}
use Rattle.areas.specs.declared.AdEnding.TheVariants.{End, Continuation, Refused}
use Rattle.areas.specs.Areas.{Area, area_at, next_of}
use Rattle.areas.proofs.AreaLaws.{walks-end, walks-continuation, walks-refused, walks-extent}
use Rattle.chains.specs.declared.counts.Counted.{Counted}
use Rattle.chains.specs.declared.cursors.ChainCursor.{ChainCursor}
use Rattle.chains.specs.declared.cursors.ChainStep.{ChainStep}
use Rattle.chains.specs.declared.cursors.ChainStep.TheVariants.{Takes, Hops, Ends}
use Rattle.chains.specs.Chains.{next_area, continued, hops}
use Rattle.chains.specs.Inner.Follows.{ReachesFrom, chain_at}
use Rattle.chains.specs.Inner.Walks.{left, passed, hops_at, weight, hop_to, hopping, stepped, step_of, Counts}
use Rattle.chains.proofs.WalkLaws.{Taken, Hopped, ended, hopped, taken}
use Rattle.chains.proofs.FollowLaws.{next-short, next-long, next-missing, next-none, next-over, next-found}
use Rattle.disc.specs.Parts.{Bytes}
use Rattle.tags.specs.declared.AllocationExtentDescriptor.{AllocationExtentDescriptor}
use Rattle.chains.specs.declared.continuations.NextArea.{NextArea}
use Rattle.disc.specs.declared.refusals.CountedRefusal.{CountedRefusal}

-- ---- the areas that are gone to, one step at a time

-- the hops that could still follow and those that were made stay together
pub record Level (image : List ℕ) (m : Mount) (kind : ℕ) (c c' : ChainCursor) : Type 0 where
  pub even : c'.hops + hops_at image m kind c ≡ c.hops + hops_at image m kind c'

abbrev Levels : List ℕ → Mount → ℕ → ChainCursor → ChainStep → Type 0
Levels image m kind c (Takes e c') = Level image m kind c c'
Levels image m kind c (Hops c') = Level image m kind c c'
Levels image m kind c Ends = hops_at image m kind c ≡ 0

module _ (image : List ℕ) (m : Mount) (kind : ℕ) where
  passed-end : (n : ℕ) → passed image m kind n End ≡ 0
  unfolding passed
  passed-end zero = refl
  passed-end (suc n) = refl

  passed-refused : (n : ℕ) (r : Refusal) → passed image m kind n (Refused r) ≡ 0
  unfolding passed
  passed-refused zero r = refl
  passed-refused (suc n) r = refl

  abbrev here : ChainCursor → AdCursor
  here c = record { at = c.at; left = c.left }

  levels : (c : ChainCursor) → Levels image m kind c (step_of image m kind c)
  unfolding hops_at step_of passed
  levels c = told (next_of kind image (here c)) refl
    where
      lands : (a : AdContinuation) → next_of kind image (here c) ≡ Continues a → (n : ℕ) → c.hops ≡ suc n → (o : Option ℕ) → placed m a.partition_ref a.block.0 ≡ o
          → Levels image m kind c (hop_to image o (suc n))
      lands a q n z None f = rw (walks-continuation kind image (here c) q, z, f)
      lands a q n z (Some s) f =
          let p : suc n - 1 ≡ n = omega arith in
          rw p (record { even = rw (walks-continuation kind image (here c) q, z, f) (omega arith) })

      hopping-to : (a : AdContinuation) → next_of kind image (here c) ≡ Continues a → (n : ℕ) → c.hops ≡ n → Levels image m kind c (hopping image m a n)
      hopping-to a q zero z = rw (walks-continuation kind image (here c) q, z)
      hopping-to a q (suc n) z = rw (ne_eqb (suc n) 0 (λ u. omega arith)) (lands a q n z (placed m a.partition_ref a.block.0) refl)

      told : (x : AdStep) → next_of kind image (here c) ≡ x → Levels image m kind c (stepped image m c.hops x)
      told Stops q = rw (walks-end kind image (here c) q) (passed-end c.hops)
      told (Refuses r) q = rw (walks-refused kind image (here c) q) (passed-refused c.hops r)
      told (Extent e k) q = record { even = rw (walks-extent kind image (here c) q) }
      told (Continues a) q = hopping-to a q c.hops refl

  module _ (c : ChainCursor) {r : ChainStep} (p : r ≡ step_of image m kind c) where
    pub end-level : r ≡ Ends → hops_at image m kind c ≡ 0
    end-level e = rw (sym p ∙ e) at (levels c)

    module _ {c' : ChainCursor} where
      pub hop-level : r ≡ Hops c' → Level image m kind c c'
      hop-level e = rw (sym p ∙ e) at (levels c)

      pub take_level : {x : AllocExtent} → r ≡ Takes x c' → Level image m kind c c'
      take_level e = rw (sym p ∙ e) at (levels c)

-- ---- an extent takes bytes: no more are left than there are bytes for

module _ (image : List ℕ) (v : Mount) (kind : ℕ) (b : Bytes image) where
  fewer : (c : ChainCursor) → ((c' : ChainCursor) → weight c' < weight c → length (left image v kind c') ≤ weight c')
      → (r : ChainStep) → r ≡ step_of image v kind c → length (left image v kind c) ≤ weight c
  fewer c ih Ends p = rw (ended image v kind c p b refl) (omega arith)
  fewer c ih (Hops c') p =
      let q : Hopped image v kind c c' = hopped image v kind c p b refl in
      rw q.list (omega (arith, q.less, ih c' q.less))
  fewer c ih (Takes x c') p =
      let q : Taken image v kind c x c' = taken image v kind c p b refl in
      rw q.list (omega (arith, q.less, ih c' q.less))

  few-below : (n : ℕ) (c : ChainCursor) → weight c < n → length (left image v kind c) ≤ weight c
  few-below zero c h = absurd (omega arith)
  few-below (suc n) c h = fewer c (λ c' k. few-below n c' (omega arith)) (step_of image v kind c) refl

  pub few-left : (c : ChainCursor) → length (left image v kind c) ≤ weight c
  few-left c = few-below (suc (weight c)) c (omega arith)

-- ---- the loop that counts

module _ (image : List ℕ) (v : Mount) (kind : ℕ) (c₀ : ChainCursor) where
  pub record Counting (c : ChainCursor) (n : ℕ) : Type 0 where
    pub total : reported (n + length (left image v kind c)) ≡ reported (length (left image v kind c₀))
    pub even : c.hops + hops_at image v kind c₀ ≡ c₀.hops + hops_at image v kind c
    pub fits : n ≤ 0xffff_ffff_ffff_ffff

  pub count-starts : Counting c₀ 0
  count-starts = record { total = omega arith; even = refl; fits = omega arith }

  module _ (c : ChainCursor) (n : ℕ) (i : Counting c n) {r : ChainStep} (p : r ≡ step_of image v kind c) (b : Bytes image) where
    pub count-ends : r ≡ Ends → Counts image v kind c₀ (record { extents = n; hops = c.hops })
    count-ends e =
        let t : reported (n + length {A = AllocExtent} []) ≡ reported (length (left image v kind c₀)) = (rw (ended image v kind c p b e) at i.total) in
        record {
          extents = omega (arith, t, i.fits);
          hops = omega (arith, i.even, end-level image v kind c p e);
          few = few-left image v kind b c₀;
        }

    pub count-hop : {c' : ChainCursor} → r ≡ Hops c' → Counting c' n
    count-hop {c'} e =
        let q : Hopped image v kind c c' = hopped image v kind c p b e in
        record {
          total = (rw q.list at i.total);
          even = omega (arith, i.even, (hop-level image v kind c p e).even);
          fits = i.fits;
        }

    pub count_next : {x : AllocExtent} {c' : ChainCursor} → r ≡ Takes x c' → {j : ℕ} → j ≡ reported (n + 1) → Counting c' j
    count_next {x} {c'} e {j} f =
        let q : Taken image v kind c x c' = taken image v kind c p b e in
        let t : reported (n + length (x ∷ left image v kind c')) ≡ reported (length (left image v kind c₀)) = (rw q.list at i.total) in
        record {
          total = omega (arith, t, f);
          even = omega (arith, i.even, (take_level image v kind c p e).even);
          fits = omega (arith, f);
        }

-- as many as there are, where the bytes for them can be counted
pub counts-exact : {image : List ℕ} {m : Mount} {kind : ℕ} {c : ChainCursor} {r : Counted} → Counts image m kind c r → weight c < 2 ^ 63 → r.extents ≡ length (left image m kind c)
counts-exact q h = omega (arith, q.extents, q.few)

-- ---- what the chain's tree says of them

-- an area in a sector is there or it isn't, by its checks
record Reached (check : Bool) (image : List ℕ) (length first : ℕ) : Type 0 where
  which : Result NextArea CountedRefusal
  is : ReachesFrom check image length first which

module _ (check : Bool) (image : List ℕ) (length first : ℕ) where
  abbrev buffer : List ℕ
  buffer = bytes_of (outcome (disc image) (sectors (sectors_for length) first))

  module _ (h : 24 ≤ length) (l : length ≤ 1048576) where
    reached-by : sectors_for length ≤ held_from image first → (r : Result AllocationExtentDescriptor Refusal) → r ≡ read_aed check buffer → Reached check image length first
    reached-by k (Err why) q = record { which = Err (record { why = why; count = (sectors_for length) }); is = next-none check image length first h l refl refl k refl q refl }
    reached-by k (Ok x) q = ⊎_elim
        (λ (y : 24 + x.length_of_allocation_descriptors ≤ length).
        record { which = Ok (record { at = (2048 * first + 24); size = x.length_of_allocation_descriptors; sectors = (sectors_for length) }); is = next-found check image length first h l refl refl k refl q refl y })
        (λ (y : length < 24 + x.length_of_allocation_descriptors).
        record { which = Err (record { why = Malformed; count = (sectors_for length) }); is = next-over check image length first h l refl refl k refl q refl y })
        (split (24 + x.length_of_allocation_descriptors) length)

  reached : Reached check image length first
  reached = ⊎_elim
      (λ (h : 24 ≤ length). ⊎_elim
      (λ (l : length ≤ 1048576). ⊎_elim
      (λ (k : sectors_for length ≤ held_from image first). reached-by h l k (read_aed check buffer) refl)
      (λ (k : held_from image first < sectors_for length). record { which = Err (record { why = Io; count = (held_from image first + 1) }); is = next-missing check image length first h l refl refl k })
      (split (sectors_for length) (held_from image first)))
      (λ (k : 1048576 < length). record { which = Err (record { why = Unsupported; count = 0 }); is = next-long check image length first h k })
      (split length 1048576))
      (λ (k : length < 24). record { which = Err (record { why = Malformed; count = 0 }); is = next-short check image length first k })
      (split 24 length)

module _ (image : List ℕ) (m : Mount) (kind : ℕ) where
  -- the areas gone to behind one whose chain is whole
  abbrev Goes : ℕ → AdEnding → Type 0
  Goes n how = (es : List AllocExtent) → (ran (disc image) (continued m kind n how)).outcome ≡ answered es → (ran (disc image) (hops m kind n how)).outcome ≡ answered (passed image m kind n how)

  module _ (n : ℕ) (a : AdContinuation) where
    -- where the next area is found
    module _ (x : Area) (j : ℕ) (y : ran (disc image) (next_area m kind a) ≡ record { outcome = answered x; count = j }) where
      behind-broken : {r : Refusal} → (ran (disc image) (continued m kind n x.ending)).outcome ≡ refused r → (ran (disc image) (continued m kind (suc n) (Continuation a))).outcome ≡ refused r
      unfolding continued
      behind-broken e = rw (ran_then, y, ran_then, e)

      behind-whole : {k : ℕ} → (ran (disc image) (hops m kind n x.ending)).outcome ≡ answered k → (ran (disc image) (hops m kind (suc n) (Continuation a))).outcome ≡ answered (suc k)
      unfolding hops
      behind-whole e = rw (ran_then, y, ran_then, e, ran-done)

      behind : Goes n x.ending → (es : List AllocExtent) → (ran (disc image) (continued m kind (suc n) (Continuation a))).outcome ≡ answered es
          → (ran (disc image) (hops m kind (suc n) (Continuation a))).outcome ≡ answered (suc (passed image m kind n x.ending))
      behind ih es q = by (ran (disc image) (continued m kind n x.ending)).outcome refl
        where
          by : (o : Outcome (List AllocExtent)) → (ran (disc image) (continued m kind n x.ending)).outcome ≡ o
              → (ran (disc image) (hops m kind (suc n) (Continuation a))).outcome ≡ answered (suc (passed image m kind n x.ending))
          by (answered more) e = behind-whole (ih more e)
          by (refused r) e = never (sym (behind-broken e) ∙ q)

    missed : (r : Refusal) (j : ℕ) → ran (disc image) (next_area m kind a) ≡ record { outcome = refused r; count = j } → (ran (disc image) (continued m kind (suc n) (Continuation a))).outcome ≡ refused r
    unfolding continued
    missed r j y = rw (ran_then, y)

    goes-next : ((how : AdEnding) → Goes n how) → Goes (suc n) (Continuation a)
    unfolding passed next_area
    goes-next ih es q = by (placed m a.partition_ref a.block.0) refl
      where
        from : (s : ℕ) → placed m a.partition_ref a.block.0 ≡ Some s → (r : Result NextArea CountedRefusal) → ReachesFrom (is_checked m) image a.length s r
            → (ran (disc image) (hops m kind (suc n) (Continuation a))).outcome ≡ answered (passed image m kind (suc n) (Continuation a))
        from s f (Err e) y = never (sym (missed e.why e.count (rw f (y.runs kind))) ∙ q)
        from s f (Ok x) y =
            rw (f, ← y.place, ← y.says) (behind (area_at kind image x.at x.size) x.sectors (rw f (y.runs kind)) (ih (area_at kind image x.at x.size).ending) es q)

        by : (o : Option ℕ) → placed m a.partition_ref a.block.0 ≡ o
            → (ran (disc image) (hops m kind (suc n) (Continuation a))).outcome ≡ answered (passed image m kind (suc n) (Continuation a))
        by None f = never (sym (missed Unsupported 0 (rw f (ran-refuse (disc image) Unsupported))) ∙ q)
        by (Some s) f = let g = reached (is_checked m) image a.length s in from s f g.which g.is

  refused-here : (r : Refusal) → (ran {A = List AllocExtent} (disc image) (refuse r)).outcome ≡ refused r
  refused-here r = rw ran-refuse

  goes : (n : ℕ) (how : AdEnding) → Goes n how
  unfolding continued hops passed
  goes zero End es q = rw ran-done
  goes zero (Refused r) es q = never (sym (refused-here r) ∙ q)
  goes zero (Continuation a) es q = never (sym (refused-here Malformed) ∙ q)
  goes (suc n) End es q = rw ran-done
  goes (suc n) (Refused r) es q = never (sym (refused-here r) ∙ q)
  goes (suc n) (Continuation a) es q = goes-next n a (goes n) es q

  -- the chain from a cursor on is whole: its tree counts the areas as the cursor does
  pub whole-hops : (c : ChainCursor) (es : List AllocExtent) → (chain_at image m kind c).outcome ≡ answered es
      → (ran (disc image) (hops m kind c.hops (area_at kind image c.at c.left).ending)).outcome ≡ answered (hops_at image m kind c)
  unfolding hops_at
  whole-hops c es q = by (ran (disc image) (continued m kind c.hops how)).outcome refl
    where
      how : AdEnding
      how = (area_at kind image c.at c.left).ending

      by : (o : Outcome (List AllocExtent)) → (ran (disc image) (continued m kind c.hops how)).outcome ≡ o → (ran (disc image) (hops m kind c.hops how)).outcome ≡ answered (passed image m kind c.hops how)
      by (answered more) e = goes c.hops how more e
      by (refused r) e =
          let b : (chain_at image m kind c).outcome ≡ refused r = rw (ran_then, e) in
          never (sym b ∙ q)

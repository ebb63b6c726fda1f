-- A file measured without a copy, put together from its passes; and what that says of a read. Assumes nothing.
use Rattle.std.specs.Prelude.{Result, Ok, Err}
use mathlib.Core.Path.{◌≡◌, refl, ap, ◌∙◌}
use mathlib.Core.Bool.{true}
use mathlib.Core.List.{List, []}
use Prim.Native.Nat.{ℕ, ◌+◌, ◌-◌, ◌≤◌, min}
use native.Mathlib.Omega.{arith}
use lib.ListN.{length, drop, length-drop}
use lib.Seq.{length-take-le}
use lib.Dec.{leb}
use mir.Syntax.{w64}
use mir.Val.{Fits}
use borrow.Author.Tests.{le-leb}
use Rattle.disc.specs.Choice.{pick}
use Rattle.disc.specs.Counts.{reported}
use Rattle.disc.specs.Refusals.{number}
use Rattle.disc.specs.Ask.{Outcome}
use Rattle.disc.specs.Ask.Outcome.{answered, refused}
use Rattle.disc.specs.Ran.{Ran, ran, after}
use Rattle.disc.specs.Images.{disc, bytes_of, is_answered}
use Rattle.disc.specs.Replies.{reply_of, measured_by, measured_of}
use Rattle.disc.specs.declared.places.Mount.{Mount}
use Rattle.disc.specs.declared.refusals.Refusal.{Refusal}
use Rattle.disc.specs.declared.replies.Reply.{Reply}
use Rattle.disc.proofs.PickLaws.{not-both}
use Rattle.disc.proofs.RanLaws.{ran-done, ran_then}
use Rattle.records.specs.declared.allocations.LongAd.{LongAd}
use Rattle.areas.specs.declared.AllocExtent.{AllocExtent}
use Rattle.areas.specs.Areas.{area_at, descriptors, size_of}
use Rattle.chains.specs.Chains.{most_continuations}
use Rattle.chains.specs.Inner.Walks.{beyond, left, passed, hops_at, Counts}
use Rattle.chains.specs.declared.cursors.ChainCursor.{ChainCursor}
use Rattle.chains.specs.declared.counts.Counted.{Counted}
use Rattle.chains.proofs.CountLaws.{counts-exact}
use Rattle.files.specs.declared.icbs.FilePlace.{FilePlace}
use Rattle.files.specs.declared.extents.Sizes.{Sizes}
use Rattle.files.specs.declared.sizes.Weighing.{Weighing}
use Rattle.files.specs.Files.{entry_mount, file_bytes, file_extents}
use Rattle.files.specs.Sizes.{sizes_by, sizes_of}
use Rattle.files.specs.Inner.Pieces.{rest_at}
use Rattle.files.specs.Inner.Passes.{SizedTo, Measures}
use Rattle.files.specs.Inner.Wholes.{embedded_in, front_of, EmbeddedFile, ChainedFile, Resolves}
use Rattle.files.specs.Inner.Weighings.{uncounted_by, sized_with, Weighs, WeighsChain, WeighsFile}
use Rattle.files.proofs.ReadLaws.{told-no, told-yes}
use Rattle.disc.specs.declared.refusals.CountedRefusal.{CountedRefusal}
use Rattle.files.specs.declared.resolves.Resolved.TheVariants.{Embedded, Chained}
use Rattle.files.specs.declared.resolves.Resolved.{Resolved}

-- ---- a read's reply is the measured one where the room suffices, else `full` with the same count

pub measured-reply : {A : Type 0} (full : Refusal) (room : ℕ) (r : Ran (List A))
    → reply_of full room r ≡ pick (leb (measured_of r).length room) (measured_of r) (record { answer = number full; count = (measured_of r).count; length = 0 })
measured-reply {A} full room r = by r.outcome
  where
    by : (o : Outcome (List A))
        → reply_of full room (record { outcome = o; count = r.count })
        ≡ pick (leb (measured_by (reported r.count) o).length room) (measured_by (reported r.count) o) (record { answer = number full; count = (measured_by (reported r.count) o).count; length = 0 })
    by (answered b) = refl
    by (refused why) = rw (le-leb 0 room (omega arith))

-- ---- where no chain is counted

module _ (image : List ℕ) (m : Mount) where
  abbrev nothing : ChainCursor
  nothing = record { at = 0; left = 0; hops = most_continuations }

  none_left : left image m 0 nothing ≡ []
  unfolding left area_at descriptors size_of beyond
  none_left = refl

  none-gone : hops_at image m 0 nothing ≡ 0
  unfolding hops_at area_at descriptors size_of passed
  none-gone = refl

  uncounted : (r : Ran (List ℕ)) (extents hops : ℕ) → sizes_by (measured_of r) r.outcome extents hops ≡ record { reply = measured_of r; extents = 0; hops = 0 }
      → {x : Reply} → x ≡ measured_of r → {w : Weighing} → w ≡ uncounted_by m x → Weighs image r extents hops w
  uncounted r extents hops z {x} e f = rw f (record { says = e; rest = λ k q. rw z (all k q); room = omega arith })
    where
      all : (k : Counted) → Counts image m 0 nothing k → sized_with (uncounted_by m x) k ≡ record { reply = measured_of r; extents = 0; hops = 0 }
      all k q =
          let a : k.extents ≡ 0 = q.extents ∙ ap (λ (l : List AllocExtent). reported (length l)) none_left in
          let b : k.hops ≡ 32 = omega (arith, q.hops, none-gone) in
          rw (e, a, b)

-- ---- the returns of `weigh_whole`: t is what `measure` found

pub weigh-little : (p : FilePlace) {front : ChainCursor} → front ≡ front_of p → p.size ≤ 2048 → front.left ≤ 2048
weigh-little p g h = rw g h

module _ (image : List ℕ) (v : Mount) (p : FilePlace) (n : ℕ) {front : ChainCursor} (g : front ≡ front_of p) (t : Result Sizes CountedRefusal) (q : Measures image v p.kind front p.information t) where
  abbrev rest : Ran (List ℕ)
  rest = rest_at image v p.kind (front_of p) p.information

  measured : Measures image v p.kind (front_of p) p.information t
  measured = rw g at q

  pub weigh-refused : {why : Refusal} {j : ℕ} → t ≡ Err (record { why = why; count = j }) → {a : ℕ} → a ≡ number why → {k : ℕ} → k ≡ reported (n + j) → {x : Reply} → x ≡ record { answer = a; count = k; length = 0 }
      → {w : Weighing} → w ≡ uncounted_by v x → WeighsChain image v p n w
  weigh-refused {why} f a {k} h e u =
      let d = told-no image v p.kind (front_of p) p.information t measured f in
      let c : k ≡ reported (n + rest.count) = omega (arith, d.count) in
      uncounted image v (after n rest) _ _ (rw d.outcome) (e ∙ rw (a, c, d.outcome)) u

  module _ (l : p.size ≤ 2048) {s : Sizes} (f : t ≡ Ok s) {k : ℕ} (h : k ≡ reported (n + s.count)) where
    sizes : SizedTo image v p.kind (front_of p) p.information s
    sizes = rw f at measured

    abbrev weighing : Weighing
    weighing = record { reply = record { answer = 0; count = k; length = s.size }; visits = s.visits; mount = v; kind = p.kind; behind = s.behind }

    module _ (c : Counted) (y : Counts image v p.kind s.behind c) where
      counted-all : s.visits + c.extents ≡ length (left image v p.kind (front_of p))
      counted-all = omega (arith, sizes.all, counts-exact y (omega (arith, sizes.room)))

      counted-gone : 32 - c.hops ≡ hops_at image v p.kind (front_of p)
      counted-gone = omega (arith, sizes.gone, y.hops)

    pub weigh-sized : WeighsChain image v p n (record { reply = record { answer = 0; count = k; length = s.size }; visits = s.visits; mount = v; kind = p.kind; behind = s.behind })
    weigh-sized =
        let d = told-yes image v p.kind (front_of p) p.information t measured f in
        by rest.outcome refl d.answers d.is d.count
      where
        by : (o : Outcome (List ℕ)) → rest.outcome ≡ o → is_answered o ≡ true → s.size ≡ length (bytes_of o) → s.count ≡ reported rest.count → WeighsChain image v p n weighing
        by (refused why) e a i c = not-both a
        by (answered b) e a i c =
            let j : k ≡ reported (n + rest.count) = omega arith in
            record {
              says = rw (e, i, j);
              rest = λ x y. rw (e, counted-all x y, counted-gone x y, i, j);
              room = omega (arith, sizes.room);
            }

-- ---- the returns of `weigh_file`: r is what `resolve` found

module _ (image : List ℕ) (m : Mount) (icb : LongAd) (r : Result Resolved CountedRefusal) (y : Resolves image m icb r) where
  abbrev bytes : Ran (List ℕ)
  bytes = ran (disc image) (file_bytes m icb)

  pub file-refused : {why : Refusal} {n : ℕ} → r ≡ Err (record { why = why; count = n }) → {a : ℕ} → a ≡ number why → {x : Reply} → x ≡ record { answer = a; count = n; length = 0 }
      → {w : Weighing} → w ≡ uncounted_by m x → WeighsFile image m icb w
  unfolding file_bytes
  file-refused {why} {n} e a f u =
      let q : Resolves image m icb (Err (record { why = why; count = n })) = rw e at y in
      let z : bytes ≡ record { outcome = refused why; count = n } = rw (ran_then, q.runs) in
      let c : reported n ≡ n = omega (arith, q.few) in
      uncounted image m bytes _ _ (rw z) (f ∙ rw (a, z, c)) u

  pub file-in : {p : FilePlace} → r ≡ Ok (Embedded p) → {k : ℕ} → k ≡ min p.size p.information → {w : Weighing} → w ≡ uncounted_by m (record { answer = 0; count = 1; length = k })
      → WeighsFile image m icb w
  unfolding file_bytes file_extents
  file-in {p} e {k} f u =
      let q : EmbeddedFile image m icb p = rw e at y in
      let z : bytes ≡ record { outcome = answered (embedded_in image p); count = 1 } = rw (ran_then, q.runs, ran-done, q.bytes) in
      let l : length (embedded_in image p) ≡ k = rw (← f) (length-take-le k (drop p.at image) (rw length-drop (omega (arith, q.inside)))) in
      let h : ran (disc image) (file_extents m icb) ≡ record { outcome = answered []; count = 1 } = rw (ran_then, q.runs, ran-done) in
      uncounted image m bytes _ _ (rw (z, h, q.hops)) (rw (z, l)) u

  module _ {p : FilePlace} {n : ℕ} (e : r ≡ Ok (Chained p n)) where
    in-chain : ChainedFile image m icb p n
    in-chain = rw e at y

    pub file-little : p.size ≤ 2048
    file-little = in-chain.small

    pub file-out : {own : Mount} → own ≡ entry_mount m icb → {w : Weighing} → WeighsChain image own p n w → WeighsFile image m icb w
    unfolding file_bytes file_extents
    file-out o q =
        let i : p.information ≡ in-chain.entry.entry.information_length = ap (λ (x : FilePlace). x.information) in-chain.is in
        rw (ran_then, ran_then, in-chain.runs, in-chain.hops, ran-done, ← i, ← o) q

-- ---- the returns of `measure_file` and `size_file`: w is what `weigh_file` found, and k what `count_left` did

module _ (image : List ℕ) (m : Mount) (icb : LongAd) (w : Weighing) (q : WeighsFile image m icb w) where
  pub measured-says : w.reply ≡ measured_of (ran (disc image) (file_bytes m icb))
  measured-says = q.says

  module _ (k : Counted) (y : Counts image w.mount w.kind w.behind k) where
    pub sizes-add : Fits w64 (w.visits + k.extents)
    sizes-add = omega (arith, q.room, y.few, y.extents)

    pub sizes-hops : k.hops ≤ 32
    sizes-hops = omega (arith, q.room, y.hops)

    pub sizes-done : record { reply = w.reply; extents = w.visits + k.extents; hops = 32 - k.hops } ≡ sizes_of (disc image) m icb
    unfolding sizes_of
    sizes-done = q.rest k y

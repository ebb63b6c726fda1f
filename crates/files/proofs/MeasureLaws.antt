-- The pass that measures, one turn at a time. Assumes nothing.
use Rattle.std.specs.Prelude.{Result, Ok, Err}
use mathlib.Core.Path.{◌≡◌, refl, ap, ◌∙◌}
use mathlib.Core.List.{List, ◌∷◌}
use Prim.Native.Nat.{ℕ, ◌+◌, ◌-◌, ◌≤◌, ◌<◌, ◌^◌}
use native.Mathlib.Nat.{add-zero}
use native.Mathlib.Omega.{arith}
use lib.ListN.{length, take, drop, length-append}
use mir.Syntax.{w64}
use mir.Val.{Fits}
use borrow.Author.Tests.{le-leb, lt-leb}
use Rattle.disc.specs.Counts.{reported}
use Rattle.disc.specs.Ask.{Outcome}
use Rattle.disc.specs.Ask.Outcome.{answered, refused}
use Rattle.disc.specs.Ran.{Ran}
use Rattle.disc.specs.declared.places.Mount.{Mount}
use Rattle.disc.specs.declared.refusals.Refusal.{Refusal}
use Rattle.areas.specs.declared.AllocExtent.{AllocExtent}
use Rattle.chains.specs.Inner.Walks.{left, hops_at, weight}
use Rattle.chains.specs.declared.cursors.ChainCursor.{ChainCursor}
use Rattle.files.specs.declared.pieces.Turn.{Turn}
use Rattle.files.specs.declared.pieces.Turn.TheVariants.{Piece, Hop, Refused as Stopped, End}
use Rattle.files.specs.Reads.{visited}
use Rattle.files.specs.Inner.Pieces.{in_front, joined, rest_at, Lies, PieceTurn, HopTurn, EndTurn, Turned}
use Rattle.files.specs.Inner.Passes.{Came, sized, Measures}
use Rattle.files.specs.Inner.Passes.Came.{comes, stops}
use Rattle.files.specs.Inner.Turns.{turn_at}
use Rattle.files.proofs.PieceLaws.{part-long}
use Rattle.files.proofs.TurnLaws.{turned}
use Rattle.disc.specs.Parts.{Bytes}
use Rattle.files.specs.declared.extents.Sizes.{Sizes}
use Rattle.disc.specs.declared.refusals.CountedRefusal.{CountedRefusal}

-- ---- what is measured, piece by piece

two-parts : {a b c d : ℕ} → a ≡ b → c ≡ d → comes a c ≡ comes b d
two-parts p q = rw (p, q)

sized-front : (b : List ℕ) (k : ℕ) → length b ≡ k → (size count n m : ℕ) (o : Outcome (List ℕ))
    → sized size count (in_front b n (record { outcome = o; count = m })) ≡ sized (size + k) (reported (count + n)) (record { outcome = o; count = m })
unfolding sized
sized-front b k e size count n m (answered a) = two-parts (rw (length-append, e) (omega arith)) (omega arith)
sized-front b k e size count n m (refused a) = ap (stops a) (omega arith)

module _ (image : List ℕ) (from n k w : ℕ) (y : Lies image from k w) (size count : ℕ) (r : Ran (List ℕ)) where
  sized-more : k < w → sized size count (joined (take k (drop from image)) n k w r) ≡ sized (size + k) (reported (count + n)) r
  sized-more h = rw (lt-leb w k h) (sized-front (take k (drop from image)) k (part-long image from k w y) size count n r.count r.outcome)

  sized-enough : w ≤ k → sized size count (joined (take k (drop from image)) n k w r) ≡ comes (size + k) (reported (count + n))
  unfolding sized
  sized-enough h = rw (le-leb w k h, part-long image from k w y)

-- ---- the loop

module _ (image : List ℕ) (m : Mount) (kind want : ℕ) (c₀ : ChainCursor) where
  abbrev extents : ChainCursor → List AllocExtent
  extents c = left image m kind c

  abbrev whole : Came
  whole = sized 0 0 (rest_at image m kind c₀ want)

  -- the extents that were begun and those behind them are all
  pub record Begun (c : ChainCursor) (size visits : ℕ) : Type 0 where
    pub rest : visits + visited (extents c) (want - size) ≡ visited (extents c₀) want
    pub all : visits + length (extents c) ≡ length (extents c₀)
    pub gone : c.hops + hops_at image m kind c₀ ≡ c₀.hops + hops_at image m kind c
    pub room : visits + weight c ≤ weight c₀

  pub record Measuring (c : ChainCursor) (size count visits : ℕ) : Type 0 where
    pub rest : sized size count (rest_at image m kind c (want - size)) ≡ whole
    pub begun : Begun c size visits
    pub low : size ≤ want
    pub fits : want < 2 ^ 64
    pub counts : count < 2 ^ 64
    pub deep : weight c₀ < 2 ^ 63
    pub known : Bytes image

  pub measure-starts : want < 2 ^ 64 → c₀.left ≤ 2048 → c₀.hops < 2 ^ 8 → Bytes image → Measuring c₀ 0 0 0
  measure-starts k l h b =
      let z : want - 0 ≡ want = omega arith in
      record {
        rest = rw z;
        begun = record { rest = rw z (omega arith); all = omega arith; gone = refl; room = omega arith };
        low = omega arith;
        fits = k;
        counts = omega arith;
        deep = omega arith;
        known = b;
      }

  module _ (c : ChainCursor) (size count visits : ℕ) (i : Measuring c size count visits) {t : Turn} (g : t ≡ turn_at image m kind c (want - size)) where
    p : Turned image m kind c (want - size) t
    p = turned image m kind c (want - size) i.known g

    pub measure-end : t ≡ End → {r : Result Sizes CountedRefusal} → r ≡ Ok (record { size = size; count = count; visits = visits; behind = c }) → Measures image m kind c₀ want r
    unfolding sized visited
    measure-end e f =
        let q : EndTurn image m kind c (want - size) = rw e at p in
        let n : reported (count + 0) ≡ count = omega (arith, i.counts) in
        let b = i.begun in
        let v : visits + 0 ≡ visited (extents c₀) want = (rw q.list at b.rest) in
        rw f (record { came = (rw (q.runs, n, add-zero) at i.rest); begun = omega (arith, v); all = b.all; gone = b.gone; room = b.room })

    pub measure-refused : {a : Refusal} {n k : ℕ} → t ≡ Stopped a n → k ≡ reported (count + n) → Measures image m kind c₀ want (Err (record { why = a; count = k }))
    unfolding sized
    measure-refused {a} {n} {k} e f =
        let q : Turned image m kind c (want - size) (Stopped a n) = rw e at p in
        (rw (q, ← f) at i.rest)

    module _ {c' : ChainCursor} (e : t ≡ Hop c') where
      hops : HopTurn image m kind c (want - size) c'
      hops = rw e at p

      pub measure-hop : Measuring c' size count visits
      measure-hop =
          let b = i.begun in
          record {
            rest = (rw hops.runs at i.rest);
            begun = record {
              rest = (rw hops.list at b.rest);
              all = (rw hops.list at b.all);
              gone = omega (arith, b.gone, hops.gone);
              room = omega (arith, b.room, hops.less);
            };
            low = i.low;
            fits = i.fits;
            counts = i.counts;
            deep = i.deep;
            known = i.known;
          }

      pub measure-hop-less : weight c' < weight c
      measure-hop-less = hops.less

    module _ {from n k : ℕ} {c' : ChainCursor} (e : t ≡ Piece from n k c') where
      turn : PieceTurn image m kind c (want - size) from n k c'
      turn = rw e at p

      pub measure-adds : Fits w64 (size + k)
      measure-adds = omega (arith, turn.lies.small, i.low, i.fits)

      pub measure-counts : Fits w64 (visits + 1)
      measure-counts = omega (arith, i.begun.room, i.deep, turn.less)

      pub measure-less : weight c' < weight c
      measure-less = turn.less

      all-begun : visits + 1 + length (extents c') ≡ length (extents c₀)
      all-begun = let t : visits + length (turn.extent ∷ extents c') ≡ length (extents c₀) = (rw turn.list at i.begun.all) in omega (arith, t)

      still-gone : c'.hops + hops_at image m kind c₀ ≡ c₀.hops + hops_at image m kind c'
      still-gone = omega (arith, i.begun.gone, turn.gone)

      still-room : visits + 1 + weight c' ≤ weight c₀
      still-room = omega (arith, i.begun.room, turn.less)

      module _ {j : ℕ} (f : j ≡ reported (count + n)) where
        pub measure-enough : want ≤ size + k → {r : Result Sizes CountedRefusal} → r ≡ Ok (record { size = size + k; count = j; visits = visits + 1; behind = c' }) → Measures image m kind c₀ want r
        measure-enough h g =
            let v : visited (extents c) (want - size) ≡ 1 + 0 = turn.begun ∙ rw (le-leb (want - size) k (omega arith)) in
            rw g (record {
              came = rw (f, ← sized-enough image from n k (want - size) turn.lies size count (rest_at image m kind c' (want - size - k)) (omega arith), ← turn.runs) i.rest;
              begun = omega (arith, i.begun.rest, v);
              all = all-begun;
              gone = still-gone;
              room = still-room;
            })

        pub measure-next : size + k < want → Measuring c' (size + k) j (visits + 1)
        measure-next h =
            let g : want - (size + k) ≡ want - size - k = omega arith in
            let v : visited (extents c) (want - size) ≡ 1 + visited (extents c') (want - size - k) = turn.begun ∙ rw (lt-leb (want - size) k (omega arith)) in
            record {
              rest = rw (f, g, ← sized-more image from n k (want - size) turn.lies size count (rest_at image m kind c' (want - size - k)) (omega arith), ← turn.runs) i.rest;
              begun = record { rest = rw g (omega (arith, i.begun.rest, v)); all = all-begun; gone = still-gone; room = still-room };
              low = omega arith;
              fits = i.fits;
              counts = omega arith;
              deep = i.deep;
              known = i.known;
            }

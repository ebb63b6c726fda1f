-- What the next piece of a file is: the laws that `sectors_read`, `weigh` and `next_piece` cite. Assumes nothing.
use Rattle.std.specs.Prelude.{Some, None, Result, Ok, Err}
use mathlib.Core.Path.{◌≡◌, refl, ◌∙◌}
use mathlib.Core.List.{List, [], ◌∷◌, ◌++◌}
use mathlib.Core.Logic.{⊎_elim}
use Prim.Native.Nat.{ℕ, ◌+◌, ◌-◌, ◌*◌, ◌/◌, ◌≤◌, ◌<◌, min}
use native.Mathlib.Omega.{arith}
use lib.ListN.{length, take, drop, length-drop}
use lib.Seq.{take_all, length-take-le}
use lib.Dec.{leb}
use borrow.Author.Tests.{eq-eqb, ne_eqb, le-leb, lt-leb}
use Rattle.disc.specs.Choice.{pick}
use Rattle.disc.specs.Ask.{Disc, Ask, Outcome}
use Rattle.disc.specs.Ask.Ask.{done}
use Rattle.disc.specs.Ask.Outcome.{answered, refused}
use Rattle.disc.specs.Ran.{ran, after, followed}
use Rattle.disc.specs.Images.{disc, held_from}
use Rattle.disc.specs.Places.{placed}
use Rattle.disc.specs.declared.places.Mount.{Mount}
use Rattle.disc.specs.declared.refusals.Refusal.{Refusal}
use Rattle.disc.specs.declared.refusals.Refusal.TheVariants.{Io, Unsupported}
use Rattle.disc.proofs.RanLaws.{ran-done, ran-refuse, ran_then}
use Rattle.disc.proofs.ImageLaws.{split, same_answer}
use Rattle.areas.specs.declared.AllocExtent.{AllocExtent}
use Rattle.chains.specs.Inner.Walks.{left, step_of}
use Rattle.chains.specs.declared.cursors.ChainCursor.{ChainCursor}
use Rattle.chains.specs.declared.cursors.ChainStep.{ChainStep}
use Rattle.chains.specs.declared.cursors.ChainStep.TheVariants.{Takes, Hops, Ends}
use Rattle.chains.proofs.WalkLaws.{ended, hopped, taken}
use Rattle.chains.proofs.CountLaws.{hop-level, take_level}
use Rattle.files.specs.declared.pieces.Turn.TheVariants.{Piece as APiece, Hop, Refused as Stopped, End}
use Rattle.files.specs.Reads.{joining, extents_bytes, visited}
use Rattle.files.specs.Inner.Pieces.{sectors_read, in_front, joined, rest_of, Lies, weighed_at, Weighed, Turned}
use Rattle.files.proofs.ExtentLaws.{extent_runs, extent-runs}
use Rattle.disc.specs.Parts.{Bytes}
use Rattle.files.specs.declared.pieces.Piece.{Piece}
use Rattle.disc.specs.declared.refusals.CountedRefusal.{CountedRefusal}

-- ---- what an extent gives

front-runs : (d : Disc) (b : List ℕ) (n : ℕ) (o : Outcome (List ℕ)) (m : ℕ)
    → after n (followed (record { outcome = o; count = m }) (λ a. ran d (done (b ++ a)))) ≡ in_front b n (record { outcome = o; count = m })
front-runs d b n (answered a) m = rw ran-done (same_answer refl (omega arith))
front-runs d b n (refused r) m = refl

fits_in : (long at size want n : ℕ) → n ≡ sectors_read size want → n ≤ long / 2048 - at → min size want ≤ long - 2048 * at
fits_in long at size want n e h = omega arith

pub part-long : (image : List ℕ) (from k want : ℕ) → Lies image from k want → length (take k (drop from image)) ≡ k
part-long image from k want y = length-take-le k (drop from image) (rw length-drop y.within)

-- k bytes were read and are joined
joined-runs : (d : Disc) (b : List ℕ) (k : ℕ) → length b ≡ k → (n want : ℕ) → k ≤ want → (more : ℕ → Ask (List ℕ))
    → after n (ran d (joining want b (more (want - length b)))) ≡ joined b n k want (ran d (more (want - k)))
joined-runs d b k e n want h more = rw e (⊎_elim
    (λ (t : want ≤ k). rw (le-leb want k t, ran-done) (same_answer (take_all want b (omega arith)) (omega arith)))
    (λ (t : k < want). rw (lt-leb want k t, ran_then) (front-runs d b n (ran d (more (want - k))).outcome (ran d (more (want - k))).count))
    (split want k))

module _ (image : List ℕ) (m : Mount) (e : AllocExtent) (want : ℕ) where
  pub weigh-type : (e.extent_type ≡ 0 → ⊥) → Weighed image m e want (Err (record { why = Unsupported; count = 0 }))
  unfolding extents_bytes
  weigh-type h es = rw (ne_eqb _ 0 h) (ran-refuse (disc image) Unsupported)

  module _ (h : e.extent_type ≡ 0) where
    pub weigh-nowhere : placed m e.partition_ref e.block.0 ≡ None → Weighed image m e want (Err (record { why = Unsupported; count = 0 }))
    unfolding extents_bytes
    weigh-nowhere k es = rw (eq-eqb _ 0 h, k) (ran-refuse (disc image) Unsupported)

    module _ {s : ℕ} (p : placed m e.partition_ref e.block.0 ≡ Some s) where
      extent-first : (es : List AllocExtent) → rest_of image m (e ∷ es) want
          ≡ followed (extent_runs image s e.length want) (λ b. ran (disc image) (joining want b (extents_bytes m es (want - length b))))
      unfolding extents_bytes
      extent-first es = rw (eq-eqb _ 0 h, p, ran_then, extent-runs image _ s e.length want refl)

      pub weigh-missing : held_from image s < sectors_read e.length want → Weighed image m e want (Err (record { why = Io; count = (held_from image s + 1) }))
      weigh-missing k es = extent-first es ∙ rw (lt-leb (sectors_read e.length want) (held_from image s) k)

      pub weigh-held : sectors_read e.length want ≤ held_from image s → Weighed image m e want (Ok (record { from = (2048 * s); sectors = (sectors_read e.length want); bytes = (min e.length want) }))
      weigh-held k =
          let y : Lies image (2048 * s) (min e.length want) want = record { small = omega arith; within = fits_in (length image) s e.length want (sectors_read e.length want) refl k } in
          record {
            runs = λ es. extent-first es ∙ rw (le-leb (sectors_read e.length want) (held_from image s) k) (joined-runs (disc image) _ (min e.length want) (part-long image (2048 * s) (min e.length want) want y) (sectors_read e.length want) want y.small (extents_bytes m es));
            lies = y;
            cut = refl;
            there = record { at = s; recorded = h; stands = p; held = k };
            place = refl;
            sectors = refl;
          }

      pub weigh-there : {w : Result Piece CountedRefusal} → w ≡ weighed_at image s e.length want → Weighed image m e want w
      weigh-there f = rw f (⊎_elim
          (λ (k : sectors_read e.length want ≤ held_from image s). rw (le-leb (sectors_read e.length want) (held_from image s) k) (weigh-held k))
          (λ (k : held_from image s < sectors_read e.length want). rw (lt-leb (sectors_read e.length want) (held_from image s) k) (weigh-missing k))
          (split (sectors_read e.length want) (held_from image s)))

-- ---- the returns of `weigh_at`

module _ (image : List ℕ) (s size want : ℕ) {n : ℕ} (e : n ≡ sectors_read size want) {h : ℕ} (f : h ≡ held_from image s) where
  pub at-missing : h < n → Err (record { why = Io; count = (h + 1) }) ≡ weighed_at image s size want
  at-missing k = rw (← e, ← f, lt-leb n h k)

  pub at_held : n ≤ h → {k : ℕ} → k ≡ min size want → Ok (record { from = (2048 * s); sectors = n; bytes = k }) ≡ weighed_at image s size want
  at_held k g = rw (← e, ← f, le-leb n h k, g)

-- ---- a turn: r is what `advance` found, and w what `weigh` did

-- a read goes on behind an extent where it has less than is wanted
begins : (e : AllocExtent) (es : List AllocExtent) (want k : ℕ) → k ≡ min e.length want → visited (e ∷ es) want ≡ 1 + pick (leb want k) 0 (visited es (want - k))
unfolding visited
begins e es want k h = ⊎_elim
    (λ (g : want ≤ e.length). rw (le-leb want e.length g, le-leb want k (omega arith)))
    (λ (g : e.length < want). let f : k ≡ e.length = omega arith in rw (lt-leb want e.length g, f, lt-leb want e.length g))
    (split want e.length)

module _ (image : List ℕ) (m : Mount) (kind : ℕ) (c : ChainCursor) (want : ℕ) {r : ChainStep} (p : r ≡ step_of image m kind c) (b : Bytes image) where
  pub turn_end : r ≡ Ends → Turned image m kind c want End
  unfolding extents_bytes
  turn_end e = let q = ended image m kind c p b e in record { runs = rw q (ran-done (disc image) []); list = q }

  pub turn-hop : {c' : ChainCursor} → r ≡ Hops c' → Turned image m kind c want (Hop c')
  turn-hop e = let q = hopped image m kind c p b e in record { runs = rw q.list; list = q.list; gone = (hop-level image m kind c p e).even; less = q.less }

  module _ {x : AllocExtent} {c' : ChainCursor} (e : r ≡ Takes x c') (w : Result Piece CountedRefusal) (v : Weighed image m x want w) where
    pub turn-refused : {why : Refusal} {n : ℕ} → w ≡ Err (record { why = why; count = n }) → Turned image m kind c want (Stopped why n)
    turn-refused {why} {n} f =
        let q = taken image m kind c p b e in
        let u : Weighed image m x want (Err (record { why = why; count = n })) = rw f at v in
        rw q.list (u _)

    pub turn-piece : {from n k : ℕ} → w ≡ Ok (record { from = from; sectors = n; bytes = k }) → Turned image m kind c want (APiece from n k c')
    turn-piece {from} {n} {k} f =
        let q = taken image m kind c p b e in
        let u : Weighed image m x want (Ok (record { from = from; sectors = n; bytes = k })) = rw f at v in
        record {
          runs = rw q.list (u.runs _);
          lies = u.lies;
          begun = rw q.list (begins x (left image m kind c') want k u.cut);
          extent = x;
          list = q.list;
          piece = u;
          gone = (take_level image m kind c p e).even;
          less = q.less;
        }

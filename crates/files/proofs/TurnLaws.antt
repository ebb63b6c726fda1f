-- A turn of a walk by its definition: the laws that `weigh` and `next_piece` cite, and what a turn says of the extents that are left. Assumes nothing.
use Rattle.std.specs.Prelude.{Option, Some, None, Result, Ok, Err}
use mathlib.Core.Path.{◌≡◌, refl, ap, sym, ◌∙◌}
use mathlib.Core.Bool.{Bool, true, false}
use mathlib.Core.List.{List}
use Prim.Native.Nat.{ℕ}
use lib.Dec.{eqb}
use borrow.Author.Tests.{eq-eqb, ne_eqb, eqb-true, eqb-false}
use Rattle.disc.specs.Choice.{pick}
use Rattle.disc.specs.Places.{placed}
use Rattle.disc.specs.Replies.{answer_of}
use Rattle.disc.specs.declared.places.Mount.{Mount}
use Rattle.disc.specs.declared.refusals.Refusal.{Refusal}
use Rattle.disc.specs.declared.refusals.Refusal.TheVariants.{Unsupported}
use Rattle.areas.specs.declared.AllocExtent.{AllocExtent}
use Rattle.chains.specs.Inner.Walks.{step_of}
use Rattle.chains.specs.declared.cursors.ChainCursor.{ChainCursor}
use Rattle.chains.specs.declared.cursors.ChainStep.{ChainStep}
use Rattle.chains.specs.declared.cursors.ChainStep.TheVariants.{Takes, Hops, Ends}
use Rattle.files.specs.declared.pieces.Turn.{Turn}
use Rattle.files.specs.declared.pieces.Turn.TheVariants.{Piece as APiece, Hop, Refused as Stopped, End}
use Rattle.files.specs.Inner.Pieces.{weighed_at, rest_at, Weighed, Turned}
use Rattle.files.specs.Inner.Turns.{weighed_in, weighed_of, turn_with, turn_by, turn_at, turn_answer}
use Rattle.files.proofs.PieceLaws.{weigh-type, weigh-nowhere, weigh-there, turn_end, turn-hop, turn-refused, turn-piece}
use Rattle.disc.specs.Parts.{Bytes}
use Rattle.files.specs.declared.pieces.Piece.{Piece}
use Rattle.disc.specs.declared.refusals.CountedRefusal.{CountedRefusal}

-- ---- the returns of `weigh`

module _ (image : List ℕ) (m : Mount) (e : AllocExtent) (want : ℕ) where
  pub weighs-type : (e.extent_type ≡ 0 → ⊥) → Err (record { why = Unsupported; count = 0 }) ≡ weighed_of image m e want
  weighs-type h = rw (ne_eqb e.extent_type 0 h)

  module _ (h : e.extent_type ≡ 0) where
    pub weighs-nowhere : placed m e.partition_ref e.block.0 ≡ None → Err (record { why = Unsupported; count = 0 }) ≡ weighed_of image m e want
    weighs-nowhere k = rw (eq-eqb e.extent_type 0 h, k)

    pub weighs-there : {s : ℕ} → placed m e.partition_ref e.block.0 ≡ Some s → {w : Result Piece CountedRefusal} → w ≡ weighed_at image s e.length want → w ≡ weighed_of image m e want
    weighs-there k f = f ∙ rw (eq-eqb e.extent_type 0 h, k)

  -- what it says of the extent
  weighed : Weighed image m e want (weighed_of image m e want)
  weighed = typed (eqb e.extent_type 0) refl
    where
      stands : e.extent_type ≡ 0 → (o : Option ℕ) → placed m e.partition_ref e.block.0 ≡ o → Weighed image m e want (weighed_in image e.length want o)
      stands h None k = weigh-nowhere image m e want h k
      stands h (Some s) k = weigh-there image m e want h k refl

      typed : (t : Bool) → eqb e.extent_type 0 ≡ t
          → Weighed image m e want (pick t (weighed_in image e.length want (placed m e.partition_ref e.block.0)) (Err (record { why = Unsupported; count = 0 })))
      typed false h = weigh-type image m e want (eqb-false _ _ h)
      typed true h = stands (eqb-true _ _ h) (placed m e.partition_ref e.block.0) refl

-- ---- the returns of `next_piece`: r is what `advance` found, and w what `weigh` did

module _ (image : List ℕ) (m : Mount) (kind : ℕ) (c : ChainCursor) (want : ℕ) {r : ChainStep} (p : r ≡ step_of image m kind c) where
  pub gives-end : r ≡ Ends → End ≡ turn_at image m kind c want
  unfolding turn_at
  gives-end e = ap (turn_by image m want) (sym e ∙ p)

  pub gives-hop : {c' : ChainCursor} → r ≡ Hops c' → Hop c' ≡ turn_at image m kind c want
  unfolding turn_at
  gives-hop e = ap (turn_by image m want) (sym e ∙ p)

  module _ {x : AllocExtent} {c' : ChainCursor} (e : r ≡ Takes x c') {w : Result Piece CountedRefusal} (v : w ≡ weighed_of image m x want) where
    pub gives-refused : {why : Refusal} {n : ℕ} → w ≡ Err (record { why = why; count = n }) → Stopped why n ≡ turn_at image m kind c want
    unfolding turn_at
    gives-refused f = ap (turn_with c') (sym f ∙ v) ∙ ap (turn_by image m want) (sym e ∙ p)

    pub gives-piece : {from n k : ℕ} → w ≡ Ok (record { from = from; sectors = n; bytes = k }) → APiece from n k c' ≡ turn_at image m kind c want
    unfolding turn_at
    gives-piece f = ap (turn_with c') (sym f ∙ v) ∙ ap (turn_by image m want) (sym e ∙ p)

-- ---- what a turn says of the extents that are left

pub turned : (image : List ℕ) (m : Mount) (kind : ℕ) (c : ChainCursor) (want : ℕ) → Bytes image → {t : Turn} → t ≡ turn_at image m kind c want → Turned image m kind c want t
unfolding turn_at
turned image m kind c want b {t} g = rw g (by (step_of image m kind c) refl)
  where
    piece : (e : AllocExtent) (c' : ChainCursor) → Takes e c' ≡ step_of image m kind c → (w : Result Piece CountedRefusal) → Weighed image m e want w → Turned image m kind c want (turn_with c' w)
    piece e c' p (Err e') v = turn-refused image m kind c want p b refl (Err (record { why = e'.why; count = e'.count })) v refl
    piece e c' p (Ok x) v = turn-piece image m kind c want p b refl (Ok (record { from = x.from; sectors = x.sectors; bytes = x.bytes })) v refl

    by : (r : ChainStep) → r ≡ step_of image m kind c → Turned image m kind c want (turn_by image m want r)
    by Ends p = turn_end image m kind c want p b refl
    by (Hops c') p = turn-hop image m kind c want p b refl
    by (Takes e c') p = piece e c' p (weighed_of image m e want) (weighed image m e want)

-- a turn that is refused has the number and the sectors of the whole read from there on
pub turn-answers : (image : List ℕ) (m : Mount) (kind : ℕ) (c : ChainCursor) (want : ℕ) → Bytes image → (t : Turn) → t ≡ turn_at image m kind c want → ((turn_answer t).number ≡ 0 → ⊥)
    → ((turn_answer t).number ≡ answer_of (rest_at image m kind c want).outcome) × ((turn_answer t).value.sectors ≡ (rest_at image m kind c want).count)
turn-answers image m kind c want b t g h = by t (turned image m kind c want b g) h
  where
    by : (t : Turn) → Turned image m kind c want t → ((turn_answer t).number ≡ 0 → ⊥)
        → ((turn_answer t).number ≡ answer_of (rest_at image m kind c want).outcome) × ((turn_answer t).value.sectors ≡ (rest_at image m kind c want).count)
    by (APiece from n k next) p z = absurd (z refl)
    by (Hop next) p z = absurd (z refl)
    by (Stopped why n) p z = (rw p, rw p)
    by End p z = absurd (z refl)

-- What a read of extents answers and how many sectors it asks for, on the disc that an image is: the first bytes of all that the extents hold, after
-- at most one sector for each 2,048 bytes answered and one for each extent visited. Assumes nothing.
use Rattle.std.specs.Prelude.{Option, Some, None}
use mathlib.Core.Path.{◌≡◌, refl, ap, sym, ◌∙◌}
use mathlib.Core.Bool.{Bool, true, false}
use mathlib.Core.List.{List, [], ◌∷◌, ◌++◌}
use mathlib.Core.Logic.{◌⊎◌, inl, inr, ⊎_elim}
use Prim.Native.Nat.{ℕ, ◌+◌, ◌-◌, ◌*◌, ◌/◌, ◌≤◌, ◌<◌, min}
use native.Mathlib.Omega.{arith}
use lib.ListN.{length, take, drop, length-append, length-take, length-drop}
use lib.Seq.{take-nil, take-take, take-append-le, take-append-add, take-length}
use lib.Dec.{eqb}
use borrow.Author.Tests.{le-leb, lt-leb, eqb-true, eqb-false}
use Rattle.disc.specs.Ask.{Outcome}
use Rattle.disc.specs.Ask.Outcome.{answered, refused}
use Rattle.disc.specs.Ran.{Ran}
use Rattle.disc.specs.Images.{disc, held_from}
use Rattle.disc.specs.Places.{placed}
use Rattle.disc.specs.declared.places.Mount.{Mount}
use Rattle.disc.specs.declared.refusals.Refusal.{Refusal}
use Rattle.disc.specs.declared.refusals.Refusal.TheVariants.{Io, Unsupported}
use Rattle.disc.proofs.RanLaws.{ran-done, never}
use Rattle.disc.proofs.ImageLaws.{split}
use Rattle.areas.specs.declared.AllocExtent.{AllocExtent}
use Rattle.files.specs.Reads.{extents_bytes, visited, extents_hold}
use Rattle.files.specs.Inner.Pieces.{sectors_read, before_outcome, in_front, rest_of, There, HeldPiece}
use Rattle.files.proofs.PieceLaws.{part-long, weigh-type, weigh-nowhere, weigh-missing, weigh-held}

-- ---- an extent is refused, or held

module _ (image : List ℕ) (m : Mount) (e : AllocExtent) (want : ℕ) where
  pub record Off : Type 0 where
    pub why : Refusal
    pub n : ℕ
    pub runs : (es : List AllocExtent) → rest_of image m (e ∷ es) want ≡ record { outcome = refused why; count = n }

  abbrev pub On : ℕ → Type 0
  On at = HeldPiece image m e want (2048 * at) (sectors_read e.length want) (min e.length want)

  pub on : (y : There image m e want) → On y.at
  on y = weigh-held image m e want y.recorded y.stands y.held

  pub weighs : There image m e want ⊎ Off
  weighs = typed (eqb e.extent_type 0) refl
    where
      typed : (t : Bool) → eqb e.extent_type 0 ≡ t → There image m e want ⊎ Off
      typed false p = inr (record { why = Unsupported; n = 0; runs = weigh-type image m e want (eqb-false _ _ p) })
      typed true p = stands (placed m e.partition_ref e.block.0) refl
        where
          stands : (o : Option ℕ) → placed m e.partition_ref e.block.0 ≡ o → There image m e want ⊎ Off
          stands None g = inr (record { why = Unsupported; n = 0; runs = weigh-nowhere image m e want (eqb-true _ _ p) g })
          stands (Some at) g = ⊎_elim
              (λ (h : sectors_read e.length want ≤ held_from image at). inl (record { at = at; recorded = eqb-true _ _ p; stands = g; held = h }))
              (λ (h : held_from image at < sectors_read e.length want). inr (record { why = Io; n = held_from image at + 1; runs = weigh-missing image m e want (eqb-true _ _ p) g h }))
              (split (sectors_read e.length want) (held_from image at))

-- fewer bytes want no more sectors
fewer-sectors : (size want w : ℕ) → w ≤ want → sectors_read size w ≤ sectors_read size want
fewer-sectors size want w h = omega arith

abbrev fewer-there : (image : List ℕ) (m : Mount) (e : AllocExtent) (want w : ℕ) → w ≤ want → There image m e want → There image m e w
fewer-there image m e want w h y = record { at = y.at; recorded = y.recorded; stands = y.stands; held = omega (arith, y.held, fewer-sectors e.length want w h) }

-- ---- what is claimed of a read: its bytes b and its count n

record Claimed (image : List ℕ) (m : Mount) (es : List AllocExtent) (want : ℕ) (b : List ℕ) (n : ℕ) : Type 0 where
  cut : b ≡ take want (extents_hold image m es)
  few : n ≤ length b / 2048 + visited es want

one_piece : (size want : ℕ) → sectors_read size want ≤ min size want / 2048 + 1
one_piece size want = omega arith

module _ (image : List ℕ) (m : Mount) where
  abbrev Claim : List AllocExtent → ℕ → Type 0
  Claim es want = (b : List ℕ) → (rest_of image m es want).outcome ≡ answered b → Claimed image m es want b (rest_of image m es want).count

  module _ (e : AllocExtent) (es : List AllocExtent) (want : ℕ) (y : There image m e want) where
    abbrev here : List ℕ
    here = drop (2048 * y.at) image

    abbrev k : ℕ
    k = min e.length want

    it : On image m e want y.at
    it = on image m e want y

    holds-it : extents_hold image m (e ∷ es) ≡ take e.length here ++ extents_hold image m es
    unfolding extents_hold
    holds-it = rw y.stands

    -- the extent is all that is wanted
    last : want ≤ k → Claim (e ∷ es) want
    unfolding visited
    last h b q =
        let l : length (take k here) ≡ k = part-long image (2048 * y.at) k want it.lies in
        let t : rest_of image m (e ∷ es) want ≡ record { outcome = answered (take k here); count = sectors_read e.length want } = it.runs es ∙ rw (le-leb want k h) in
        let c : answered (take k here) ≡ answered b = sym (ap (λ x. x.outcome) t) ∙ q in
        let g : b ≡ take k here = cc in
        let w : k ≡ want = omega arith in
        let v : want ≤ length (take e.length here) = simp (length-take, length-drop) (omega (arith, it.lies.within)) in
        record {
          cut = g ∙ rw (holds-it, w, take-append-le want (take e.length here) (extents_hold image m es) v, take-take want e.length here (omega arith));
          few = rw (t, g, l) (omega (arith, one_piece e.length want));
        }

    -- more comes behind it
    behind : (o : Outcome (List ℕ)) (j : ℕ)
        → ((b : List ℕ) → o ≡ answered b → Claimed image m es (want - e.length) b j)
        → (b : List ℕ) → before_outcome (take e.length here) o ≡ answered b → length (take e.length here) ≡ e.length → e.length < want → (n : ℕ) → n ≤ e.length / 2048 + 1
        → Claimed image m (e ∷ es) want b (n + j)
    unfolding visited
    behind (answered c) j ih b q l h n s =
        let r : b ≡ take e.length here ++ c = cc in
        let g = ih c refl in
        let w : want ≡ length (take e.length here) + (want - e.length) = rw l (omega arith) in
        record {
          cut = r ∙ ap (λ x. take e.length here ++ x) g.cut ∙ sym (ap (λ x. take x (take e.length here ++ extents_hold image m es)) w ∙ take-append-add (take e.length here) (extents_hold image m es) (want - e.length)) ∙ ap (take want) (sym holds-it);
          few = rw (r, length-append, l, lt-leb want e.length h) (omega (arith, g.few));
        }
    behind (refused a) j ih b q l h n s = never q

    more : k < want → Claim es (want - e.length) → Claim (e ∷ es) want
    more h ih b q =
        let g : k ≡ e.length = omega arith in
        let l : length (take e.length here) ≡ e.length = (rw g at (part-long image (2048 * y.at) k want it.lies)) in
        let t : rest_of image m (e ∷ es) want ≡ in_front (take e.length here) (sectors_read e.length want) (rest_of image m es (want - e.length)) = it.runs es ∙ rw (lt-leb want k h, g) in
        let c : before_outcome (take e.length here) (rest_of image m es (want - e.length)).outcome ≡ answered b = sym (ap (λ x. x.outcome) t) ∙ q in
        rw t (behind _ _ ih b c l (omega arith) (sectors_read e.length want) (omega (arith, one_piece e.length want)))

  next : (e : AllocExtent) (es : List AllocExtent) (want : ℕ) → Claim es (want - e.length) → Claim (e ∷ es) want
  next e es want ih = ⊎_elim
      (λ (y : There image m e want). ⊎_elim
      (λ (h : want ≤ min e.length want). last e es want y h)
      (λ (h : min e.length want < want). more e es want y h ih)
      (split want (min e.length want)))
      (λ (y : Off image m e want) b q. never (sym (ap (λ x. x.outcome) (y.runs es)) ∙ q))
      (weighs image m e want)

  claims : (es : List AllocExtent) (want : ℕ) → Claim es want
  unfolding visited extents_bytes extents_hold
  claims [] want b q =
      let c : answered [] ≡ answered b = sym (ap (λ (x : Ran (List ℕ)). x.outcome) (ran-done (disc image) [])) ∙ q in
      let g : b ≡ [] = cc in
      record { cut = g ∙ sym (take-nil want); few = rw ran-done (omega arith) }
  claims (e ∷ es) want b q = next e es want (claims es (want - e.length)) b q

  -- what is answered: the joined bytes, cut
  pub extents-cut : (es : List AllocExtent) (want : ℕ) (b : List ℕ) → (rest_of image m es want).outcome ≡ answered b → b ≡ take want (extents_hold image m es)
  extents-cut es want b q = (claims es want b q).cut

  -- after how many sectors
  pub extents-bound : (es : List AllocExtent) (want : ℕ) (b : List ℕ) → (rest_of image m es want).outcome ≡ answered b
      → (rest_of image m es want).count ≤ length b / 2048 + visited es want
  extents-bound es want b q = (claims es want b q).few

  pub few_bytes : (es : List AllocExtent) (want : ℕ) (b : List ℕ) → (rest_of image m es want).outcome ≡ answered b → length b ≤ want
  few_bytes es want b q = rw (extents-cut es want b q, length-take) (omega arith)

-- ---- fewer bytes wanted of a read that is answered: the front of what it answers

module _ (image : List ℕ) (m : Mount) where
  abbrev Fronts : List AllocExtent → ℕ → Type 0
  Fronts es want = (b : List ℕ) → (rest_of image m es want).outcome ≡ answered b → (w : ℕ) → w ≤ length b
      → (rest_of image m es w).outcome ≡ answered (take w b)

  module _ (e : AllocExtent) (es : List AllocExtent) (want : ℕ) (y : There image m e want) (b : List ℕ)
      (q : (rest_of image m (e ∷ es) want).outcome ≡ answered b) (w : ℕ) (h : w ≤ length b) where
    abbrev spot : List ℕ
    spot = drop (2048 * y.at) image

    less : w ≤ want
    less = omega (arith, few_bytes image m (e ∷ es) want b q)

    held : On image m e w y.at
    held = on image m e w (fewer-there image m e want w less y)

    -- the extent has them all
    front-here : w ≤ min e.length w → (rest_of image m (e ∷ es) w).outcome ≡ answered (take w b)
    front-here g =
        let k : min e.length w ≡ w = omega arith in
        let l : w ≤ length (take e.length spot) = simp (length-take, length-drop) (omega (arith, held.lies.within)) in
        let c : take w b ≡ take w spot =
        ap (take w) (extents-cut image m (e ∷ es) want b q) ∙ take-take w want _ less ∙ ap (take w) (holds-it image m e es want y) ∙ take-append-le w _ _ l ∙ take-take w e.length spot (omega arith) in
        ap (λ x. x.outcome) (held.runs es) ∙ rw (k, le-leb w w (omega arith), c)

    -- the rest has some of them
    front-there : Fronts es (want - e.length) → min e.length w < w → (rest_of image m (e ∷ es) w).outcome ≡ answered (take w b)
    front-there ih g = by (rest_of image m es (want - e.length)).outcome refl joins
      where
        fewer : min e.length w ≡ e.length
        fewer = omega arith

        whole : min e.length want ≡ e.length
        whole = omega (arith, less)

        long : length (take e.length spot) ≡ e.length
        long = (rw fewer at (part-long image (2048 * y.at) (min e.length w) w held.lies))

        joins : before_outcome (take e.length spot) (rest_of image m es (want - e.length)).outcome ≡ answered b
        joins = sym (ap (λ x. x.outcome) ((on image m e want y).runs es) ∙ rw (lt-leb want (min e.length want) (omega (arith, less, whole)), whole)) ∙ q

        by : (o : Outcome (List ℕ)) → (rest_of image m es (want - e.length)).outcome ≡ o → before_outcome (take e.length spot) o ≡ answered b
            → (rest_of image m (e ∷ es) w).outcome ≡ answered (take w b)
        by (refused r) p j = never j
        by (answered c) p j =
            let u : b ≡ take e.length spot ++ c = cc in
            let v : length b ≡ e.length + length c = ap length u ∙ rw (length-append, long) in
            let t = ih c p (w - e.length) (omega arith) in
            let z : w ≡ length (take e.length spot) + (w - e.length) = rw long (omega arith) in
            let x : take w b ≡ take e.length spot ++ take (w - e.length) c =
            ap (take w) u ∙ ap (λ n. take n (take e.length spot ++ c)) z ∙ take-append-add (take e.length spot) c (w - e.length) in
            ap (λ r. r.outcome) (held.runs es) ∙ rw (lt-leb w (min e.length w) g, fewer, t, x)

  fronts : (es : List AllocExtent) (want : ℕ) → Fronts es want
  unfolding extents_bytes
  fronts [] want b q w h =
      let c : answered [] ≡ answered b = sym (ap (λ (x : Ran (List ℕ)). x.outcome) (ran-done (disc image) [])) ∙ q in
      let g : b ≡ [] = cc in
      rw (ran-done, g, take-nil)
  fronts (e ∷ es) want b q w h = ⊎_elim
      (λ (y : There image m e want). ⊎_elim
      (λ (g : w ≤ min e.length w). front-here e es want y b q w h g)
      (λ (g : min e.length w < w). front-there e es want y b q w h (fronts es (want - e.length)) g)
      (split w (min e.length w)))
      (λ (y : Off image m e want). never (sym (ap (λ x. x.outcome) (y.runs es)) ∙ q))
      (weighs image m e want)

  -- wanting as many bytes as were answered is answered with the same
  pub same_bytes : (es : List AllocExtent) (want : ℕ) (b : List ℕ) → (rest_of image m es want).outcome ≡ answered b
      → (rest_of image m es (length b)).outcome ≡ answered b
  same_bytes es want b q = fronts es want b q (length b) (omega arith) ∙ rw take-length

-- The pass that copies, one turn at a time. Assumes nothing.
use mathlib.Core.Path.{◌≡◌, refl, ap, sym, ◌∙◌}
use mathlib.Core.Bool.{true}
use mathlib.Core.List.{List, [], ◌∷◌, ◌++◌, append-nil, append_assoc}
use Prim.Native.Nat.{ℕ, suc, ◌+◌, ◌-◌, ◌≤◌, ◌<◌, ◌^◌}
use native.Mathlib.Nat.{add-sub_cancel_left}
use native.Mathlib.Omega.{arith}
use lib.ListN.{length, take, drop, set, length-take, length-drop, drop_of_length-le}
use lib.Seq.{take_all, drop-drop, drop-set-lt, length-take-le, sets, length-sets, sets-eq}
use mir.Syntax.{w64}
use mir.Val.{Fits}
use borrow.Author.Tests.{le-leb, lt-leb}
use borrow.Rule.Slice.PartMut.{mid_of, put_mid}
use Rattle.disc.specs.Ask.{Outcome}
use Rattle.disc.specs.Ask.Outcome.{answered, refused}
use Rattle.disc.specs.Ran.{Ran}
use Rattle.disc.specs.Images.{bytes_of, is_answered}
use Rattle.disc.specs.Moves.{over}
use Rattle.disc.specs.declared.places.Mount.{Mount}
use Rattle.disc.specs.declared.refusals.Refusal.{Refusal}
use Rattle.disc.proofs.PickLaws.{not-both}
use Rattle.disc.proofs.MoveLaws.{over-fits, sets-append, sets-front}
use Rattle.chains.specs.Inner.Walks.{weight}
use Rattle.chains.specs.declared.cursors.ChainCursor.{ChainCursor}
use Rattle.files.specs.declared.pieces.Turn.{Turn}
use Rattle.files.specs.declared.pieces.Turn.TheVariants.{Piece, Hop, Refused as Stopped, End}
use Rattle.files.specs.Inner.Pieces.{before_outcome, in_front, rest_at, PieceTurn, Turned}
use Rattle.files.specs.Inner.Passes.{Copied}
use Rattle.chains.specs.Inner.Walks.{left}
use Rattle.files.specs.Inner.Turns.{turn_at}
use Rattle.files.proofs.PieceLaws.{part-long}
use Rattle.files.proofs.TurnLaws.{turned}
use Rattle.files.proofs.BoundLaws.{few_bytes}
use Rattle.disc.specs.Parts.{Bytes}

-- ---- stores

pub copied : (image out : List ℕ) {z : List ℕ} (from n : ℕ) → (n ≤ length image - from) × (n ≤ length out) → z ≡ over (take (from + n - from) (drop from image)) out
    → z ≡ take n (drop from image) ++ drop n out
copied image out from n h e =
    let l : length (take n (drop from image)) ≡ n = length-take-le n (drop from image) (rw length-drop h.0) in
    (rw add-sub_cancel_left at e) ∙ over-fits (take n (drop from image)) out (rw l h.1) ∙ rw l

-- a tail of xs that was lent came back with v written over its front
tail-sets : (a : ℕ) (xs v ys : List ℕ) (n : ℕ) → n ≡ length v → a + n ≤ length xs → ys ≡ v ++ drop n (mid_of a (length xs - a) xs) → put_mid a (length xs - a) xs ys ≡ sets xs a v
tail-sets a xs v ys n l h e =
    let k : length (drop a xs) ≤ length xs - a = rw length-drop (omega arith) in
    rw (e, take_all (length xs - a) (drop a xs), drop_of_length-le (drop a xs) k, drop-drop, l) (rw (append-nil, ← append_assoc (take a xs) v) (sym (sets-eq v xs a (omega arith))))

-- ---- what is answered, piece by piece

-- what is stored before `n` leaves what is behind it
drop-sets : (v l : List ℕ) (i n : ℕ) → i + length v ≤ n → drop n (sets l i v) ≡ drop n l
drop-sets [] l i n h = refl
drop-sets (a ∷ v) l i n h = drop-sets v (set l i a) (suc i) n (omega arith) ∙ drop-set-lt n l i a (omega arith)

front-answers : (b : List ℕ) (o : Outcome (List ℕ)) → is_answered (before_outcome b o) ≡ is_answered o
front-answers b (answered a) = refl
front-answers b (refused a) = refl

front_bytes : (b : List ℕ) (o : Outcome (List ℕ)) → is_answered o ≡ true → bytes_of (before_outcome b o) ≡ b ++ bytes_of o
front_bytes b (answered a) h = refl
front_bytes b (refused a) h = not-both h

-- ---- the loop

module _ (image : List ℕ) (m : Mount) (kind want : ℕ) (out₀ : List ℕ) (c₀ : ChainCursor) where
  abbrev rest : ChainCursor → ℕ → Ran (List ℕ)
  rest c w = rest_at image m kind c w

  abbrev whole : List ℕ
  whole = bytes_of (rest c₀ want).outcome

  abbrev Answers : Type 0
  Answers = is_answered (rest c₀ want).outcome ≡ true

  -- the whole read has few bytes, if it is answered
  whole-few : Answers → length whole ≤ want
  whole-few a = by (rest c₀ want).outcome refl a
    where
      by : (o : Outcome (List ℕ)) → (rest c₀ want).outcome ≡ o → is_answered o ≡ true → length (bytes_of o) ≤ want
      by (answered b) e h = few_bytes image m (left image m kind c₀) want b e
      by (refused r) e h = not-both h

  -- what the rest will store makes, with what was stored, the whole
  pub record Stores (out : List ℕ) (c : ChainCursor) (filled : ℕ) : Type 0 where
    pub same : sets out filled (bytes_of (rest c (want - filled)).outcome) ≡ sets out₀ 0 whole
    pub answers : is_answered (rest c (want - filled)).outcome ≡ true

  pub record Copying (out : List ℕ) (c : ChainCursor) (filled : ℕ) : Type 0 where
    pub stores : Answers → Stores out c filled
    pub kept : drop want out ≡ drop want out₀
    pub long : length out ≡ length out₀
    pub low : filled ≤ want
    pub wide : want < 2 ^ 64
    pub room : want ≤ length out₀
    pub known : Bytes image

  pub copy-starts : want < 2 ^ 64 → want ≤ length out₀ → Bytes image → Copying out₀ c₀ 0
  copy-starts g k b =
      let z : want - 0 ≡ want = omega arith in
      record { stores = λ a. record { same = rw z; answers = rw z a }; kept = refl; long = refl; low = omega arith; wide = g; room = k; known = b }

  module _ (out : List ℕ) (c : ChainCursor) (filled : ℕ) (i : Copying out c filled) {t : Turn} (g : t ≡ turn_at image m kind c (want - filled)) where
    p : Turned image m kind c (want - filled) t
    p = turned image m kind c (want - filled) i.known g

    ended : (Answers → sets out filled [] ≡ sets out₀ 0 whole) → Copied (rest c₀ want) want out₀ out
    ended e = record { bytes = λ a. e a ∙ sets-front whole out₀ (omega (arith, whole-few a, i.room)); kept = i.kept }

    pub copy-end : t ≡ End → Copied (rest c₀ want) want out₀ out
    copy-end e =
        let q : Turned image m kind c (want - filled) End = rw e at p in
        ended (λ a. rw q.runs at (i.stores a).same)

    pub copy-refused : {a : Refusal} {n : ℕ} → t ≡ Stopped a n → Copied (rest c₀ want) want out₀ out
    copy-refused {a} {n} e =
        let q : Turned image m kind c (want - filled) (Stopped a n) = rw e at p in
        ended (λ b. not-both (rw q at (i.stores b).answers))

    pub copy-hop : {c' : ChainCursor} → t ≡ Hop c' → Copying out c' filled
    copy-hop {c'} e =
        let q : Turned image m kind c (want - filled) (Hop c') = rw e at p in
        record {
          stores = λ a. record { same = (rw q.runs at (i.stores a).same); answers = (rw q.runs at (i.stores a).answers) };
          kept = i.kept;
          long = i.long;
          low = i.low;
          wide = i.wide;
          room = i.room;
          known = i.known;
        }

    pub copy-hop-less : {c' : ChainCursor} → t ≡ Hop c' → weight c' < weight c
    copy-hop-less {c'} e =
        let q : Turned image m kind c (want - filled) (Hop c') = rw e at p in q.less

    module _ {from n k : ℕ} {c' : ChainCursor} (e : t ≡ Piece from n k c') where
      turn : PieceTurn image m kind c (want - filled) from n k c'
      turn = rw e at p

      pub copy-less : weight c' < weight c
      copy-less = turn.less

      abbrev part : List ℕ
      part = take k (drop from image)

      part-size : length part ≡ k
      part-size = part-long image from k (want - filled) turn.lies

      -- what the piece and the rest are, where more is wanted and where not
      all_wanted : want ≤ filled + k → rest c (want - filled) ≡ record { outcome = answered part; count = n }
      all_wanted h = turn.runs ∙ rw (le-leb (want - filled) k (omega arith))

      more-wanted : filled + k < want → rest c (want - filled) ≡ in_front part n (rest c' (want - (filled + k)))
      more-wanted h =
          let g : want - (filled + k) ≡ want - filled - k = omega arith in
          rw g (turn.runs ∙ rw (lt-leb (want - filled) k (omega arith)))

      more-answers : filled + k < want → is_answered (rest c (want - filled)).outcome ≡ true → is_answered (rest c' (want - (filled + k))).outcome ≡ true
      more-answers h a = sym (front-answers part (rest c' (want - (filled + k))).outcome) ∙ (rw (more-wanted h) at a)

      more_bytes : (h : filled + k < want) → is_answered (rest c (want - filled)).outcome ≡ true
          → bytes_of (rest c (want - filled)).outcome ≡ part ++ bytes_of (rest c' (want - (filled + k))).outcome
      more_bytes h a = ap (λ r. bytes_of r.outcome) (more-wanted h) ∙ front_bytes part (rest c' (want - (filled + k))).outcome (more-answers h a)

      -- a piece has no more bytes than are wanted, and all of those have room
      pub copy-room : filled + k ≤ length out
      copy-room = omega (arith, turn.lies.small, i.low, i.room, i.long)

      pub copy-adds : Fits w64 (filled + k)
      copy-adds = omega (arith, turn.lies.small, i.low, i.wide)

      pub copy-source : k ≤ length image - from
      copy-source = turn.lies.within

      pub copy-target : k ≤ length (mid_of filled (length out - filled) out)
      copy-target = simp (length-take, length-drop) (omega (arith, copy-room))

      module _ {ys : List ℕ} (w : ys ≡ part ++ drop k (mid_of filled (length out - filled) out)) where
        abbrev out' : List ℕ
        out' = put_mid filled (length out - filled) out ys

        stored : out' ≡ sets out filled part
        stored = tail-sets filled out part ys k (sym part-size) copy-room w

        keeps : drop want out' ≡ drop want out₀
        keeps = ap (drop want) stored ∙ drop-sets part out filled want (omega (arith, part-size, turn.lies.small, i.low)) ∙ i.kept

        pub copy-enough : want ≤ filled + k → Copied (rest c₀ want) want out₀ out'
        copy-enough h = record {
          bytes = λ a. stored ∙ (rw (all_wanted h) at (i.stores a).same) ∙ sets-front whole out₀ (omega (arith, whole-few a, i.room));
          kept = keeps;
        }

        pub copy-next : filled + k < want → Copying out' c' (filled + k)
        copy-next h = record {
          stores = λ a. record {
            same = rw stored (rw (more_bytes h (i.stores a).answers, sets-append, part-size) at (i.stores a).same);
            answers = more-answers h (i.stores a).answers;
          };
          kept = keeps;
          long = rw (stored, length-sets) i.long;
          low = omega arith;
          wide = i.wide;
          room = i.room;
          known = i.known;
        }

-- What a stack of items holds: each item as it is read alone into the room that those before it left, and what all of them took. Assumes nothing.
use mathlib.Core.Path.{◌≡◌, refl, ap, sym, ◌∙◌}
use mathlib.Core.Bool.{Bool, true, false}
use mathlib.Core.List.{List, [], ◌∷◌, ◌++◌}
use Prim.Native.Nat.{ℕ, suc, ◌+◌, ◌-◌, ◌≤◌}
use native.Mathlib.Omega.{arith}
use lib.ListN.{length, get_or, take, drop, length-append, length-drop}
use lib.Seq.{length-take-le, take_at, drop-drop, drop-append-add, drop-append_seam}
use lib.Dec.{leb}
use borrow.Author.Tests.{leb-true}
use Rattle.disc.specs.Choice.{pick}
use Rattle.disc.specs.Refusals.{number}
use Rattle.disc.specs.Counts.{reported}
use Rattle.disc.specs.Ask.{Disc, Ask, Outcome, asked, Agree}
use Rattle.disc.specs.Ask.Outcome.{answered, refused}
use Rattle.disc.specs.Ran.{Ran, ran}
use Rattle.disc.specs.Replies.{reply_by, left_by}
use Rattle.disc.specs.declared.refusals.Refusal.TheVariants.{NoRoom}
use Rattle.disc.specs.declared.replies.Reply.{Reply}
use Rattle.disc.proofs.AskLaws.{agree-front, agree-back, same_asked}
use Rattle.disc.proofs.RanLaws.{same-ran}
use Rattle.cue_stacks.specs.Stacks.{reply_in, room_left, Stack, on_top, stacked, asked_by_each}
use Rattle.cue_stacks.specs.Items.{total}

-- ---- one item in its room

-- what is said of an answer that has room, and of one that has none
abbrev said : ℕ → ℕ → Bool → Reply
said size n t = pick t (record { answer = 0; count = n; length = size }) (record { answer = number NoRoom; count = n; length = 0 })

pub reply-fits : (room n : ℕ) (o : Outcome (List ℕ)) → (reply_by NoRoom room n o).length ≤ room
reply-fits room n (refused why) = omega arith
reply-fits room n (answered b) = by (leb (length b) room) refl
  where
    by : (t : Bool) → leb (length b) room ≡ t → (said (length b) n t).length ≤ room
    by true e = leb-true (length b) room e
    by false e = omega arith

pub left-long : (room : List ℕ) (o : Outcome (List ℕ)) → length (left_by room o) ≡ length room
left-long room (refused why) = refl
left-long room (answered b) = by (leb (length b) (length room)) refl
  where
    by : (t : Bool) → leb (length b) (length room) ≡ t → length (pick t (b ++ drop (length b) room) room) ≡ length room
    by true e = let h : length b ≤ length room = leb-true (length b) (length room) e in simp (length-append, length-drop) (omega arith)
    by false e = refl

-- what is behind its bytes is as it came
left_behind : (room : List ℕ) (n : ℕ) (o : Outcome (List ℕ)) → drop (reply_by NoRoom (length room) n o).length (left_by room o) ≡ drop (reply_by NoRoom (length room) n o).length room
left_behind room n (refused why) = refl
left_behind room n (answered b) = by (leb (length b) (length room))
  where
    by : (t : Bool) → drop (said (length b) n t).length (pick t (b ++ drop (length b) room) room) ≡ drop (said (length b) n t).length room
    by true = drop-append_seam b (drop (length b) room)
    by false = refl

module _ (room : List ℕ) (r : Ran (List ℕ)) where
  abbrev size : ℕ
  size = (reply_in room r).length

  abbrev left : List ℕ
  left = left_by room r.outcome

  pub size_fits : size ≤ length room
  size_fits = reply-fits (length room) (reported r.count) r.outcome

  pub room-is : room_left room r ≡ drop size room
  room-is = left_behind room (reported r.count) r.outcome

  front_long : length (take size left) ≡ size
  front_long = length-take-le size left (rw left-long size_fits)

  -- an item under others: its bytes stand in front, and theirs behind them
  front_bytes : (rest : List ℕ) → take size (take size left ++ rest) ≡ take size left
  front_bytes rest = take_at (take size left) rest size front_long

  behind-bytes : (n : ℕ) (rest : List ℕ) → drop (size + n) (take size left ++ rest) ≡ drop n rest
  behind-bytes n rest = rw front_long at (drop-append-add (take size left) rest n)

-- ---- all of them

-- the item at i, whose bytes start at `at`, is as it is read alone into the room from there on
pub record Alone (s : Stack) (i at : ℕ) (room : List ℕ) (r : Ran (List ℕ)) : Type 0 where
  pub answer : get_or s.answers i 0 ≡ (reply_in (drop at room) r).answer
  pub length : get_or s.lengths i 0 ≡ (reply_in (drop at room) r).length
  pub bytes : take (reply_in (drop at room) r).length (drop at s.out) ≡ take (reply_in (drop at room) r).length (left_by (drop at room) r.outcome)

module _ (read : List ℕ → Ran (List ℕ)) where
  -- a length and an answer for each item
  pub lengths-many : (room : List ℕ) (ps : List (List ℕ)) → length (stacked read room ps).lengths ≡ length ps
  unfolding stacked
  lengths-many room [] = refl
  lengths-many room (p ∷ ps) = ap suc (lengths-many (room_left room (read p)) ps)

  pub answers-many : (room : List ℕ) (ps : List (List ℕ)) → length (stacked read room ps).answers ≡ length ps
  unfolding stacked
  answers-many room [] = refl
  answers-many room (p ∷ ps) = ap suc (answers-many (room_left room (read p)) ps)

  -- what is filled is the sum of the lengths
  pub lengths-total : (room : List ℕ) (ps : List (List ℕ)) → total (stacked read room ps).lengths ≡ (stacked read room ps).filled
  unfolding stacked
  lengths-total room [] = refl
  lengths-total room (p ∷ ps) = ap (λ n. size room (read p) + n) (lengths-total (room_left room (read p)) ps)

  pub filled-fits : (room : List ℕ) (ps : List (List ℕ)) → (stacked read room ps).filled ≤ length room
  unfolding stacked
  filled-fits room [] = omega arith
  filled-fits room (p ∷ ps) =
      let l : length (room_left room (read p)) ≡ length room - size room (read p) = rw (room-is room (read p), length-drop) in
      omega (arith, filled-fits (room_left room (read p)) ps, size_fits room (read p), l)

  pub out-long : (room : List ℕ) (ps : List (List ℕ)) → length (stacked read room ps).out ≡ length room
  unfolding stacked
  out-long room [] = refl
  out-long room (p ∷ ps) =
      let l : length (room_left room (read p)) ≡ length room - size room (read p) = rw (room-is room (read p), length-drop) in
      rw (length-append, front_long room (read p), out-long (room_left room (read p)) ps, l) (omega (arith, size_fits room (read p)))

  -- what is behind all of them is as it came
  pub out-behind : (room : List ℕ) (ps : List (List ℕ)) → drop (stacked read room ps).filled (stacked read room ps).out ≡ drop (stacked read room ps).filled room
  unfolding stacked
  out-behind room [] = refl
  out-behind room (p ∷ ps) =
      behind-bytes room (read p) (stacked read (room_left room (read p)) ps).filled (stacked read (room_left room (read p)) ps).out
      ∙ out-behind (room_left room (read p)) ps
      ∙ ap (drop (stacked read (room_left room (read p)) ps).filled) (room-is room (read p))
      ∙ drop-drop (stacked read (room_left room (read p)) ps).filled (size room (read p)) room

  pub alone : (room : List ℕ) (before : List (List ℕ)) (p : List ℕ) (behind : List (List ℕ))
      → Alone (stacked read room (before ++ p ∷ behind)) (length before) (total (take (length before) (stacked read room (before ++ p ∷ behind)).lengths)) room (read p)
  unfolding stacked
  alone room [] p behind = record { answer = refl; length = refl; bytes = front_bytes room (read p) (stacked read (room_left room (read p)) behind).out }
  alone room (q ∷ before) p behind = on (total (take (length before) rest.lengths)) (alone (room_left room (read q)) before p behind)
    where
      rest : Stack
      rest = stacked read (room_left room (read q)) (before ++ p ∷ behind)

      on : (at : ℕ) → Alone rest (length before) at (room_left room (read q)) (read p) → Alone (on_top room (read q) rest) (suc (length before)) (size room (read q) + at) room (read p)
      on at a =
          let e : drop (size room (read q) + at) room ≡ drop at (room_left room (read q)) = sym (ap (drop at) (room-is room (read q)) ∙ drop-drop at (size room (read q)) room) in
          record { answer = rw e a.answer; length = rw e a.length; bytes = rw (e, behind-bytes room (read q) at rest.out) a.bytes }

-- ---- the sectors of all of them

module _ (d : Disc) (tree : List ℕ → Ask (List ℕ)) where
  pub count-is : (room : List ℕ) (ps : List (List ℕ)) → (stacked (λ p. ran d (tree p)) room ps).count ≡ length (asked_by_each d tree ps)
  unfolding stacked asked_by_each ran
  count-is room [] = refl
  count-is room (p ∷ ps) = rw length-append (ap (λ n. length (asked d (tree p)) + n) (count-is (room_left room (ran d (tree p))) ps))

  -- on discs that agree on them, the same stack and the same sectors
  pub stack_same : (e : Disc) (room : List ℕ) (ps : List (List ℕ)) → Agree d e (asked_by_each d tree ps) → stacked (λ p. ran d (tree p)) room ps ≡ stacked (λ p. ran e (tree p)) room ps
  unfolding stacked asked_by_each
  stack_same e room [] h = refl
  stack_same e room (p ∷ ps) h =
      let first : ran d (tree p) ≡ ran e (tree p) = same-ran (tree p) d e (agree-front d e (asked d (tree p)) (asked_by_each d tree ps) h) in
      ap (on_top room (ran d (tree p))) (stack_same e (room_left room (ran d (tree p))) ps (agree-back d e (asked d (tree p)) (asked_by_each d tree ps) h))
      ∙ ap (λ r. on_top room r (stacked (λ x. ran e (tree x)) (room_left room r) ps)) first

  pub asked-same : (e : Disc) (ps : List (List ℕ)) → Agree d e (asked_by_each d tree ps) → asked_by_each d tree ps ≡ asked_by_each e tree ps
  unfolding asked_by_each
  asked-same e [] h = refl
  asked-same e (p ∷ ps) h =
      let first : asked d (tree p) ≡ asked e (tree p) = same_asked (tree p) d e (agree-front d e (asked d (tree p)) (asked_by_each d tree ps) h) in
      let others : asked_by_each d tree ps ≡ asked_by_each e tree ps = asked-same e ps (agree-back d e (asked d (tree p)) (asked_by_each d tree ps) h) in
      cc

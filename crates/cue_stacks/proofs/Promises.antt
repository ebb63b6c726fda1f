-- What is proved of a list of paths, and of its files read in one call: RULES 8.26 to 8.33. Assumes nothing.
use mathlib.Core.Path.{◌≡◌, refl, ap, sym, ◌∙◌}
use mathlib.Core.Bool.{Bool, true, false}
use mathlib.Core.List.{List, [], ◌∷◌, ◌++◌, append-nil}
use mathlib.Core.Logic.{◌⊎◌, inl, inr, ⊎_elim}
use Prim.Native.Nat.{ℕ, suc, ◌≤◌, ◌<◌, min}
use native.Mathlib.Nat.{zero-add}
use native.Mathlib.Omega.{arith}
use lib.ListN.{length, take, drop, length-append, length-drop, get_or-append}
use lib.Seq.{take_at, take-append-le, drop_at}
use lib.Dec.{eqb, leb}
use borrow.Author.Tests.{le-leb, lt-leb, eqb-true}
use Rattle.disc.specs.Choice.{pick}
use Rattle.disc.specs.Refusals.{number}
use Rattle.disc.specs.Counts.{reported}
use Rattle.disc.specs.Ask.{Disc, Ask, Outcome, Agree}
use Rattle.disc.specs.Ask.Outcome.{answered, refused}
use Rattle.disc.specs.Ran.{Ran, ran}
use Rattle.disc.specs.Replies.{reply_by, left_by, Replied}
use Rattle.disc.specs.declared.places.Mount.{Mount}
use Rattle.disc.specs.declared.refusals.Refusal.TheVariants.{NoRoom, TooMany}
use Rattle.disc.specs.declared.replies.Reply.{Reply}
use Rattle.disc.proofs.ImageLaws.{split}
use Rattle.disc.proofs.RanLaws.{ran_then}
use Rattle.records.specs.declared.allocations.LongAd.{LongAd}
use Rattle.files.specs.Files.{file_bytes}
use Rattle.listings.specs.declared.matchings.Matching.{Matching}
use Rattle.directories.specs.Lookups.{lookup_of, read_path_of}
use Rattle.directories.proofs.Promises.{empty-path}
use Rattle.cue_stacks.specs.Stacks.{item, items_behind, items, Stack, stacked, Stacked, on_front, laid, read_all_of, asked_by_each, asked_by_all}
use Rattle.cue_stacks.proofs.StackLaws.{Alone, alone, lengths-many, answers-many, lengths-total, filled-fits, out-long, out-behind, count-is, stack_same, asked-same}
use Rattle.cue_stacks.specs.Items.{total, zeros, NoZeros, joined, None, start_of, Holds, Enough}

-- ---- the items are the bytes between the zeros, and no others

-- n zeros make n + 1 items
pub items-many : (s : List ℕ) → length (items s) ≡ suc (zeros s)
unfolding items_behind
items-many s = ap suc (behind s)
  where
    behind : (s : List ℕ) → length (items_behind s) ≡ zeros s
    behind [] = refl
    behind (b ∷ s) = by (eqb b 0) (behind s)
      where
        by : (t : Bool) → length (items_behind s) ≡ zeros s → length (pick t (item s ∷ items_behind s) (items_behind s)) ≡ pick t (suc (zeros s)) (zeros s)
        by true h = ap suc h
        by false h = h

-- joined again they are the whole list
pub items-joined : (s : List ℕ) → joined (item s) (items_behind s) ≡ s
unfolding item items_behind
items-joined [] = refl
items-joined (b ∷ s) = by (eqb b 0) (eqb-true b 0) (items-joined s)
  where
    longer : (p : List ℕ) (ps : List (List ℕ)) → joined (b ∷ p) ps ≡ b ∷ joined p ps
    longer p [] = refl
    longer p (q ∷ ps) = refl

    by : (t : Bool) → (t ≡ true → b ≡ 0) → joined (item s) (items_behind s) ≡ s → joined (pick t [] (b ∷ item s)) (pick t (item s ∷ items_behind s) (items_behind s)) ≡ b ∷ s
    by true z h = rw (z refl) (ap (λ l. 0 ∷ l) h)
    by false z h = longer (item s) (items_behind s) ∙ ap (λ l. b ∷ l) h

-- a front without a zero belongs to the first
item-behind : (p t : List ℕ) → zeros p ≡ 0 → item (p ++ t) ≡ p ++ item t
unfolding item
item-behind [] t h = refl
item-behind (b ∷ p) t h = by (eqb b 0) h (item-behind p t)
  where
    by : (z : Bool) → pick z (suc (zeros p)) (zeros p) ≡ 0 → (zeros p ≡ 0 → item (p ++ t) ≡ p ++ item t) → pick z [] (b ∷ item (p ++ t)) ≡ b ∷ (p ++ item t)
    by true k ih = absurd (omega arith)
    by false k ih = ap (λ l. b ∷ l) (ih k)

others-behind : (p t : List ℕ) → zeros p ≡ 0 → items_behind (p ++ t) ≡ items_behind t
unfolding items_behind
others-behind [] t h = refl
others-behind (b ∷ p) t h = by (eqb b 0) h (others-behind p t)
  where
    by : (z : Bool) → pick z (suc (zeros p)) (zeros p) ≡ 0 → (zeros p ≡ 0 → items_behind (p ++ t) ≡ items_behind t) → pick z (item (p ++ t) ∷ items_behind (p ++ t)) (items_behind (p ++ t)) ≡ items_behind t
    by true k ih = absurd (omega arith)
    by false k ih = ih k

-- and whatever was joined is what they are, where it has no zeros of its own
pub items-are : (p : List ℕ) (ps : List (List ℕ)) → NoZeros (p ∷ ps) → items (joined p ps) ≡ p ∷ ps
unfolding item items_behind
items-are p [] h =
    let a : item p ≡ p = ap item (sym (append-nil p)) ∙ item-behind p [] h.0 ∙ append-nil p in
    let b : items_behind p ≡ [] = ap items_behind (sym (append-nil p)) ∙ others-behind p [] h.0 in
    cc
items-are p (q ∷ ps) h =
    let a : item (p ++ 0 ∷ joined q ps) ≡ p = item-behind p (0 ∷ joined q ps) h.0 ∙ append-nil p in
    let b : items_behind (p ++ 0 ∷ joined q ps) ≡ items (joined q ps) = others-behind p (0 ∷ joined q ps) h.0 in
    let c : items (joined q ps) ≡ q ∷ ps = items-are q ps h.1 in
    cc

-- no bytes are one item, and so is every list without a zero
pub items-none : items [] ≡ [] ∷ []
unfolding item items_behind
items-none = refl

-- an empty item reads the root's bytes, under every choice of matching
pub empty-item : (d : Disc) (matching : Matching) (v : Mount) (work : ℕ) (root : LongAd) → ran d (read_path_of matching v work root []) ≡ ran d (file_bytes v root)
unfolding read_path_of
empty-item d matching v work root = ran_then d (lookup_of matching v work root []) (λ icb. file_bytes v icb) ∙ rw (empty-path d matching v work root, zero-add)

-- ---- one item alone: what a refusal and an answer come to in the room that is left

pub refused_none : {r : Ran (List ℕ)} {room after : List ℕ} {reply : Reply} → Replied NoRoom r room after reply → (reply.answer ≡ 0 → ⊥) → None room after reply
refused_none {r} {room} {after} {reply} e h = by r.outcome e.says e.leaves
  where
    by : (o : Outcome (List ℕ)) → reply ≡ reply_by NoRoom (length room) (reported r.count) o → after ≡ left_by room o → None room after reply
    by (refused why) f g = record { length = rw f; leaves = g }
    by (answered b) f g = fits (leb (length b) (length room)) f g
      where
        fits : (t : Bool) → reply ≡ pick t (record { answer = 0; count = reported r.count; length = length b }) (record { answer = number NoRoom; count = reported r.count; length = 0 })
            → after ≡ pick t (b ++ drop (length b) room) room → None room after reply
        fits true f g = absurd (h (rw f))
        fits false f g = record { length = rw f; leaves = g }

-- ---- the whole call

-- a row is as it came behind what was written over its front
front-stays : (written row : List ℕ) (n : ℕ) → length written ≡ n → drop n (on_front written row) ≡ drop n row
front-stays written row n e = drop_at written (drop (length written) row) n e ∙ rw e

-- so it is where the item is as it is read alone
laid-holds : (lengths answers : List ℕ) (s : Stack) (i : ℕ) → i < length s.lengths → i < length s.answers → {out : List ℕ} {r : Ran (List ℕ)} → Alone s i (total (take i s.lengths)) out r
    → {after : List ℕ} {reply : Reply} → Replied NoRoom r (drop (start_of (laid lengths answers s) i) out) after reply → Holds (laid lengths answers s) i reply after
laid-holds lengths answers s i h k {out} {r} a {after} {reply} e =
    let q : start_of (laid lengths answers s) i ≡ total (take i s.lengths) = ap total (take-append-le i s.lengths (drop (length s.lengths) lengths) (omega arith)) in
    let f : Replied NoRoom r (drop (total (take i s.lengths)) out) after reply = rw q at e in
    record {
      answer = get_or-append s.answers (drop (length s.answers) answers) 0 i k ∙ a.answer ∙ sym (ap (λ (x : Reply). x.answer) f.says);
      length = get_or-append s.lengths (drop (length s.lengths) lengths) 0 i h ∙ a.length ∙ sym (ap (λ (x : Reply). x.length) f.says);
      bytes = rw (q, f.says, f.leaves) a.bytes;
    }

module _ (read : List ℕ → Ran (List ℕ)) (paths out lengths answers : List ℕ) where
  abbrev whole : Stack
  whole = stacked read out (items paths)

  all_done : Enough paths lengths answers → (read_all_of read paths out lengths answers) ≡ laid lengths answers whole
  unfolding read_all_of
  all_done h = rw (le-leb _ _ h)

  -- more items than places are 12: count 0, and nothing is written
  pub too_many : min (length lengths) (length answers) < length (items paths)
      → (read_all_of read paths out lengths answers) ≡ record { reply = record { answer = 12; count = 0; length = 0 }; out = out; lengths = lengths; answers = answers }
  unfolding read_all_of
  too_many h = rw (lt-leb _ _ h)

  -- else the answer is 0, whatever the items are answered
  pub enough : Enough paths lengths answers → (read_all_of read paths out lengths answers).reply.answer ≡ 0
  enough h = rw (all_done h)

  -- so it is 12 exactly when there are more items than places
  pub twelve-when : (read_all_of read paths out lengths answers).reply.answer ≡ 12 → min (length lengths) (length answers) < length (items paths)
  twelve-when e = ⊎_elim
      (λ (h : Enough paths lengths answers). absurd (omega (arith, enough h)))
      (λ (h : min (length lengths) (length answers) < length (items paths)). h)
      (split (length (items paths)) (min (length lengths) (length answers)))

  either : (P : Stacked → Type 0) → (Enough paths lengths answers → P (laid lengths answers whole))
      → P (record { reply = record { answer = 12; count = 0; length = 0 }; out = out; lengths = lengths; answers = answers }) → P (read_all_of read paths out lengths answers)
  either P f g = ⊎_elim
      (λ (h : Enough paths lengths answers). rw (all_done h) (f h))
      (λ (h : min (length lengths) (length answers) < length (items paths)). rw (too_many h) g)
      (split (length (items paths)) (min (length lengths) (length answers)))

  pub zero-or-twelve : ((read_all_of read paths out lengths answers).reply.answer ≡ 0) ⊎ ((read_all_of read paths out lengths answers).reply.answer ≡ 12)
  zero-or-twelve = either (λ l. (l.reply.answer ≡ 0) ⊎ (l.reply.answer ≡ 12)) (λ h. inl refl) (inr refl)

  -- lent memory has the length that it came with
  pub out-kept : length (read_all_of read paths out lengths answers).out ≡ length out
  out-kept = either (λ l. length l.out ≡ length out) (λ h. out-long read out (items paths)) refl

  pub lengths-kept : length (read_all_of read paths out lengths answers).lengths ≡ length lengths
  lengths-kept = either (λ l. length l.lengths ≡ length lengths)
      (λ h. rw (length-append, length-drop, lengths-many) (omega arith)) refl

  pub answers-kept : length (read_all_of read paths out lengths answers).answers ≡ length answers
  answers-kept = either (λ l. length l.answers ≡ length answers)
      (λ h. rw (length-append, length-drop, answers-many) (omega arith)) refl

  -- behind what is written it is as it came
  pub out_stays : drop (read_all_of read paths out lengths answers).reply.length (read_all_of read paths out lengths answers).out ≡ drop (read_all_of read paths out lengths answers).reply.length out
  out_stays = either (λ l. drop l.reply.length l.out ≡ drop l.reply.length out) (λ h. out-behind read out (items paths)) refl

  pub lengths-stay : drop (length (items paths)) (read_all_of read paths out lengths answers).lengths ≡ drop (length (items paths)) lengths
  lengths-stay = either (λ l. drop (length (items paths)) l.lengths ≡ drop (length (items paths)) lengths)
      (λ h. front-stays whole.lengths lengths (length (items paths)) (lengths-many read out (items paths))) refl

  pub answers_stay : drop (length (items paths)) (read_all_of read paths out lengths answers).answers ≡ drop (length (items paths)) answers
  answers_stay = either (λ l. drop (length (items paths)) l.answers ≡ drop (length (items paths)) answers)
      (λ h. front-stays whole.answers answers (length (items paths)) (answers-many read out (items paths))) refl

  -- the reply's length is the sum of the items' lengths, and at most the output's
  pub length-total : Enough paths lengths answers → (read_all_of read paths out lengths answers).reply.length ≡ total (take (length (items paths)) (read_all_of read paths out lengths answers).lengths)
  length-total h = rw (all_done h, take_at whole.lengths (drop (length whole.lengths) lengths) (length (items paths)) (lengths-many read out (items paths)), lengths-total)

  pub length-fits : (read_all_of read paths out lengths answers).reply.length ≤ length out
  length-fits = either (λ l. l.reply.length ≤ length out) (λ h. filled-fits read out (items paths)) (omega arith)

  -- each item is answered as its path alone is, read into the output from its start on as that came
  pub each_item : Enough paths lengths answers → (before : List (List ℕ)) (p : List ℕ) (behind : List (List ℕ)) → items paths ≡ before ++ p ∷ behind
      → {after : List ℕ} {reply : Reply} → Replied NoRoom (read p) (drop (start_of (read_all_of read paths out lengths answers) (length before)) out) after reply → Holds (read_all_of read paths out lengths answers) (length before) reply after
  each_item h before p behind e {after} {reply} r =
      let a : Alone whole (length before) (total (take (length before) whole.lengths)) out (read p) = rw e (alone read out before p behind) in
      let k : length before < length (items paths) = omega (arith, ap length e, length-append before (p ∷ behind)) in
      let t : Replied NoRoom (read p) (drop (start_of (laid lengths answers whole) (length before)) out) after reply = rw (all_done h) at r in
      rw (all_done h) (laid-holds lengths answers whole (length before) (rw lengths-many k) (rw answers-many k) a t)

-- ---- the call's list of sectors

module _ (d : Disc) (tree : List ℕ → Ask (List ℕ)) (paths out lengths answers : List ℕ) where
  -- the count is min(the length of the list, 2^64 - 1)
  pub all-counts : (read_all_of (λ p. ran d (tree p)) paths out lengths answers).reply.count ≡ min (length (asked_by_all d tree paths lengths answers)) 0xffff_ffff_ffff_ffff
  unfolding read_all_of asked_by_all
  all-counts = by (leb (length (items paths)) (min (length lengths) (length answers)))
    where
      by : (t : Bool) → (pick t (laid lengths answers (stacked (λ p. ran d (tree p)) out (items paths))) (record { reply = record { answer = number TooMany; count = 0; length = 0 }; out = out; lengths = lengths; answers = answers })).reply.count
          ≡ min (length (pick t (asked_by_each d tree (items paths)) [])) 0xffff_ffff_ffff_ffff
      by true = rw (count-is d tree out (items paths))
      by false = refl

  -- discs that agree on it give the same reply, output and rows, and the same list
  pub all_same : (e : Disc) → Agree d e (asked_by_all d tree paths lengths answers)
      → read_all_of (λ p. ran d (tree p)) paths out lengths answers ≡ read_all_of (λ p. ran e (tree p)) paths out lengths answers
  unfolding read_all_of asked_by_all
  all_same e = by (leb (length (items paths)) (min (length lengths) (length answers)))
    where
      unchanged : Stacked
      unchanged = record { reply = record { answer = number TooMany; count = 0; length = 0 }; out = out; lengths = lengths; answers = answers }

      by : (t : Bool) → Agree d e (pick t (asked_by_each d tree (items paths)) [])
          → pick t (laid lengths answers (stacked (λ p. ran d (tree p)) out (items paths))) unchanged ≡ pick t (laid lengths answers (stacked (λ p. ran e (tree p)) out (items paths))) unchanged
      by true h = ap (laid lengths answers) (stack_same d tree e out (items paths) h)
      by false h = refl

  pub all-asked-same : (e : Disc) → Agree d e (asked_by_all d tree paths lengths answers) → asked_by_all d tree paths lengths answers ≡ asked_by_all e tree paths lengths answers
  unfolding asked_by_all
  all-asked-same e = by (leb (length (items paths)) (min (length lengths) (length answers)))
    where
      by : (t : Bool) → Agree d e (pick t (asked_by_each d tree (items paths)) []) → pick t (asked_by_each d tree (items paths)) [] ≡ pick t (asked_by_each e tree (items paths)) []
      by true h = asked-same d tree e (items paths) h
      by false h = refl

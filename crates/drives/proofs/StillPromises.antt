-- What is promised of a file's read that is fed where row and output are the same ones and untouched between steps, beside the read by its own contract:
-- RULES 14. It is the walk of ReadPromises in which nothing grows. Assumes nothing.
--
--   with slots and room enough list, answer, count and output are those of the read                       whole-list, whole-answer, whole-count, whole-output
--   5 exactly when the read is refused by 5, or more bytes than there is room for arrive before a refusal five-how, five-when; five-only, full-answer
--   7 exactly when an extent has no slot, once the entry or continuation that names it was accepted       seven-only, crowded-answer
--   an answered read has the read's reply, and leaves its output                                          done-equal
--   after a refusal the front of the output holds what had arrived; how many bytes is reported            output-holds, length-told, full-bytes
--   discs that agree on the sectors wanted leave the same output and row                                  still_alike
use mathlib.Core.Path.{◌≡◌, refl, ap, sym, ◌∙◌}
use mathlib.Core.Bool.{Bool, true, false}
use mathlib.Core.List.{List, [], ◌++◌, append-nil}
use mathlib.Core.Logic.{⊎_elim}
use Prim.Native.Nat.{ℕ, ◌<◌, ◌≤◌}
use native.Mathlib.Nat.{zero-add}
use native.Mathlib.Omega.{arith}
use lib.ListN.{length, take, drop, replicate, take-append-drop}
use lib.Seq.{length-take-le, drop-length}
use lib.Dec.{leb}
use borrow.Author.Tests.{le-leb, lt-leb, leb-false}
use Rattle.disc.specs.Choice.{pick}
use Rattle.disc.specs.Counts.{reported}
use Rattle.disc.specs.Refusals.{number}
use Rattle.disc.specs.Ask.{Disc, Outcome, outcome, asked, Agree}
use Rattle.disc.specs.Ask.Outcome.{answered, refused}
use Rattle.disc.specs.Ran.{ran}
use Rattle.disc.specs.Replies.{answer_of, reply_by, left_by, Replied}
use Rattle.disc.specs.declared.replies.Reply.{Reply}
use Rattle.disc.specs.declared.places.Mount.{Mount}
use Rattle.disc.specs.declared.refusals.Refusal.TheVariants.{NoRoom}
use Rattle.disc.proofs.RanLaws.{never}
use Rattle.disc.proofs.ImageLaws.{split}
use Rattle.disc.proofs.PickLaws.{pick-both}
use Rattle.records.specs.declared.allocations.LongAd.{LongAd}
use Rattle.files.specs.Files.{file_bytes}
use Rattle.drives.specs.Feeds.{Feed, End, end_of, arrived, held_most}
use Rattle.drives.specs.Feeds.End.{answers, refuses}
use Rattle.drives.specs.FileFeeds.{file_feed}
use Rattle.drives.specs.Told.{bounded_by, Equal, FiveBy, StillAlike, outcome_by}
use Rattle.drives.specs.Told.FiveBy.{at_last, before}
use Rattle.drives.specs.Readings.{zeroed, Starts}
use Rattle.drives.specs.declared.readings.Reading.{Reading}
use Rattle.drives.proofs.Walks.{number_by, Kept, still-walks, still-keeps}
use Rattle.drives.proofs.RefusalLaws.{says-end, file-says}
use Rattle.drives.proofs.Promises.{feed-outcome, read-full, read-crowded}
use Rattle.drives.specs.Walks.{Walk, Still}
use Rattle.drives.proofs.ReadPromises as reads

starts-fits : {f : Feed} {row₀ row : List (List ℕ)} {r : Reading} → Starts f row₀ row r → (out : List ℕ) → r.length ≤ length out
starts-fits st out = rw st.filled (omega arith)

module _ (d : Disc) (m : Mount) (icb : LongAd) {row₀ row row' : List (List ℕ)} {out out' ns : List ℕ} {r q : Reading} (st : Starts (file_feed m icb) row₀ row r)
    (still : Still d ns r row out q row' out') where
  w : Walk d ns [] [] r row out q row' out'
  w = still-walks still (starts-fits st out)

  keeps : Kept r row out q row' out'
  keeps = still-keeps still (starts-fits st out)

  -- what arrived stands at the front of the output, also after a refusal; how many bytes is reported; behind them nothing has changed
  pub length-told : q.length ≡ length (arrived d (bounded_by m icb row₀ out []))
  length-told = sym (zero-add q.length) ∙ reads.bytes-told d m icb st w

  pub output-holds : out' ≡ arrived d (bounded_by m icb row₀ out []) ++ drop (length (arrived d (bounded_by m icb row₀ out []))) out
  output-holds =
      sym (take-append-drop q.length out') ∙ ap (λ x. x ++ drop q.length out') (reads.bytes-hold d m icb st w) ∙ ap (λ x. arrived d (bounded_by m icb row₀ out []) ++ x) (keeps.behind ∙ ap (λ n. drop n out) length-told)

  -- the row is zero, however the read ended, and as long as it was
  pub row_zero : row' ≡ zeroed row₀
  row_zero = reads.row_zero d m icb st w ∙ ap (λ n. replicate n (replicate 4 0)) (keeps.slots ∙ reads.starts-long st)

  -- ---- enough slots and room: list, answer, count and output are the read's

  module _ (h : held_most 0 d (file_feed m icb) ≤ length row₀) (l : length (arrived d (file_feed m icb)) ≤ length out) where
    pub whole-list : ns ≡ asked d (file_bytes m icb)
    whole-list = reads.whole-list d m icb st w (reads.ample d m icb st w h l)

    pub whole-answer : q.answer ≡ answer_of (outcome d (file_bytes m icb))
    whole-answer = reads.whole-answer d m icb st w (reads.ample d m icb st w h l)

    pub whole-count : q.count ≡ reported (ran d (file_bytes m icb)).count
    whole-count = reads.whole-count d m icb st w (reads.ample d m icb st w h l)

    whole-own : (q.answer ≡ 5 → ⊥) × (q.answer ≡ 7 → ⊥)
    whole-own = reads.whole-own d m icb st w (reads.ample d m icb st w h l)

    module _ {b : List ℕ} (e : outcome d (file_bytes m icb) ≡ answered b) where
      bytes-are : arrived d (bounded_by m icb row₀ out []) ≡ b
      bytes-are = reads.whole-bytes d m icb st w (reads.ample d m icb st w h l) e

      pub whole_length : q.length ≡ length b
      whole_length = length-told ∙ ap length bytes-are

      pub whole-output : out' ≡ b ++ drop (length b) out
      whole-output = output-holds ∙ ap (λ x. x ++ drop (length x) out) bytes-are

  -- ---- 5: exactly when there are slots enough, and more bytes arrive than there is room for; before it what fits is put

  pub full-answer : held_most 0 d (file_feed m icb) ≤ length row₀ → length out < length (arrived d (file_feed m icb)) → q.answer ≡ 5
  full-answer h l = (reads.came d m icb st w).answer ∙ ap number_by (read-full d m icb (length row₀) (length out) h l).ends

  pub full-bytes : held_most 0 d (file_feed m icb) ≤ length row₀ → length out < length (arrived d (file_feed m icb)) → out' ≡ take (length out) (arrived d (file_feed m icb))
  full-bytes h l =
      let p = (read-full d m icb (length row₀) (length out) h l).gives in
      let n : length (take (length out) (arrived d (file_feed m icb))) ≡ length out = length-take-le (length out) (arrived d (file_feed m icb)) (omega arith) in
      output-holds ∙ rw (p, n, drop-length) (append-nil (take (length out) (arrived d (file_feed m icb))))

  -- ---- 7: exactly when an extent has no slot, once the entry or continuation that names it was accepted; no byte has arrived

  pub crowded-answer : length row₀ < held_most 0 d (file_feed m icb) → q.answer ≡ 7
  crowded-answer h = (reads.came d m icb st w).answer ∙ ap number_by (read-crowded d m icb (length row₀) (length out) h).ends

  pub crowded-output : length row₀ < held_most 0 d (file_feed m icb) → out' ≡ out
  crowded-output h = output-holds ∙ rw (read-crowded d m icb (length row₀) (length out) h).gives refl

  -- ---- and only then

  data Case : Type 0 where
    enough : held_most 0 d (file_feed m icb) ≤ length row₀ → length (arrived d (file_feed m icb)) ≤ length out → Case
    full : held_most 0 d (file_feed m icb) ≤ length row₀ → length out < length (arrived d (file_feed m icb)) → Case
    crowded : length row₀ < held_most 0 d (file_feed m icb) → Case

  cases : Case
  cases = ⊎_elim (λ h. ⊎_elim (λ l. enough h l) (λ l. full h l) (split (length (arrived d (file_feed m icb))) (length out))) (λ h. crowded h) (split (held_most 0 d (file_feed m icb)) (length row₀))

  pub five-only : q.answer ≡ 5 → (held_most 0 d (file_feed m icb) ≤ length row₀) × (length out < length (arrived d (file_feed m icb)))
  five-only e = by cases
    where
      by : Case → (held_most 0 d (file_feed m icb) ≤ length row₀) × (length out < length (arrived d (file_feed m icb)))
      by (enough h l) = absurd ((whole-own h l).0 e)
      by (full h l) = (h, l)
      by (crowded h) = absurd (let z = crowded-answer h in omega arith)

  pub seven-only : q.answer ≡ 7 → length row₀ < held_most 0 d (file_feed m icb)
  seven-only e = by cases
    where
      by : Case → length row₀ < held_most 0 d (file_feed m icb)
      by (enough h l) = absurd ((whole-own h l).1 e)
      by (full h l) = absurd (let z = full-answer h l in omega arith)
      by (crowded h) = h

  -- ---- beside the read of that disc into the same output, by its own contract

  module _ {after : List ℕ} {reply : Reply} (p : Replied NoRoom (ran d (file_bytes m icb)) out after reply) where
    -- the reply by the outcome and the count
    ran-is : ((ran d (file_bytes m icb)).outcome ≡ outcome d (file_bytes m icb)) × ((ran d (file_bytes m icb)).count ≡ length (asked d (file_bytes m icb)))
    unfolding ran
    ran-is = (refl, refl)

    pub beside-count : held_most 0 d (file_feed m icb) ≤ length row₀ → length (arrived d (file_feed m icb)) ≤ length out → q.count ≡ reply.count
    beside-count h l = whole-count h l ∙ sym (ap (λ (x : Reply). x.count) p.says ∙ by (ran d (file_bytes m icb)).outcome)
      where
        by : (o : Outcome (List ℕ)) → (reply_by NoRoom (length out) (reported (ran d (file_bytes m icb)).count) o).count ≡ reported (ran d (file_bytes m icb)).count
        by (answered b) = pick-both (λ (x : Reply). x.count ≡ reported (ran d (file_bytes m icb)).count) (leb (length b) (length out)) refl refl
        by (refused why) = refl

    reply-by : {o : Outcome (List ℕ)} → outcome d (file_bytes m icb) ≡ o → reply ≡ reply_by NoRoom (length out) (reported (ran d (file_bytes m icb)).count) o
    reply-by e = p.says ∙ ap (reply_by NoRoom (length out) (reported (ran d (file_bytes m icb)).count)) (ran-is.0 ∙ e)

    -- an answered read by the drive has the reply of the read, and leaves the same output
    pub done-equal : q.answer ≡ 0 → (Equal q out' after reply)
    done-equal e = let x = reads.done-reads d m icb st w e in by x.bytes x.reads cases
      where
        by : (b : List ℕ) → outcome d (file_bytes m icb) ≡ answered b → Case → (Equal q out' after reply)
        by b g (full h l) = absurd (let z = full-answer h l in omega arith)
        by b g (crowded h) = absurd (let z = crowded-answer h in omega arith)
        by b g (enough h l) =
            let fits : length b ≤ length out = rw (whole_length h l g, keeps.room) at (reads.came d m icb st w).fits in
            let y = reply-by g in
            let t = le-leb (length b) (length out) fits in
            record {
              answer = e ∙ sym (ap (λ (z : Reply). z.answer) y ∙ rw t refl);
              count = beside-count h l;
              length = whole_length h l g ∙ sym (ap (λ (z : Reply). z.length) y ∙ rw t refl);
              output = whole-output h l g ∙ sym (p.leaves ∙ ap (left_by out) (ran-is.0 ∙ g) ∙ rw t refl);
            }

    -- how 5 comes
    pub five-how : q.answer ≡ 5 → (FiveBy d m icb out reply)
    five-how e = by (outcome d (file_bytes m icb)) refl (end_of d (file_feed m icb)) (feed-outcome d m icb) (five-only e).1
      where
        by : (o : Outcome (List ℕ)) → outcome d (file_bytes m icb) ≡ o → (x : End) → outcome_by x (arrived d (file_feed m icb)) ≡ outcome d (file_bytes m icb) → length out < length (arrived d (file_feed m icb)) → (FiveBy d m icb out reply)
        by (refused why) g x f l = before g l
        by (answered b) g answers f l =
            let z : arrived d (file_feed m icb) ≡ b = cc in
            let k = rw z at l in
            at_last (ap (λ (x : Reply). x.answer) (reply-by g) ∙ rw (lt-leb (length b) (length out) k) refl)
        by (answered b) g (refuses why) f l = never (f ∙ g)

    pub five-when : held_most 0 d (file_feed m icb) ≤ length row₀ → (FiveBy d m icb out reply) → q.answer ≡ 5
    five-when h (before g l) = full-answer h l
    five-when h (at_last a) = by (outcome d (file_bytes m icb)) refl (end_of d (file_feed m icb)) refl (feed-outcome d m icb)
      where
        past : (b : List ℕ) → (reply_by NoRoom (length out) (reported (ran d (file_bytes m icb)).count) (answered b)).answer ≡ 5 → length out < length b
        past b = told (leb (length b) (length out)) refl
          where
            told : (t : Bool) → leb (length b) (length out) ≡ t
                → (pick {A = Reply} t (record { answer = 0; count = reported (ran d (file_bytes m icb)).count; length = length b }) (record { answer = 5; count = reported (ran d (file_bytes m icb)).count; length = 0 })).answer ≡ 5
                → length out < length b
            told true e n = absurd (omega arith)
            told false e n = leb-false (length b) (length out) e

        by : (o : Outcome (List ℕ)) → outcome d (file_bytes m icb) ≡ o → (x : End) → end_of d (file_feed m icb) ≡ x → outcome_by (end_of d (file_feed m icb)) (arrived d (file_feed m icb)) ≡ outcome d (file_bytes m icb) → q.answer ≡ 5
        by (refused why) g answers y f = absurd (let t = ap (λ x. outcome_by x (arrived d (file_feed m icb))) (sym y) ∙ f ∙ g in let z : ◌≡◌ {A = ℕ} 0 1 = cc in omega arith)
        by (refused why) g (refuses r) y f =
            let t = ap (λ x. outcome_by x (arrived d (file_feed m icb))) (sym y) ∙ f ∙ g in
            let z : r ≡ why = cc in
            let n : number why ≡ 5 = sym (ap (λ (x : Reply). x.answer) (reply-by g)) ∙ a in
            absurd ((says-end d (file_feed m icb) (file-says m icb) y).0 (rw z n))
        by (answered b) g answers y f =
            let t = ap (λ x. outcome_by x (arrived d (file_feed m icb))) (sym y) ∙ f ∙ g in
            let z : arrived d (file_feed m icb) ≡ b = cc in
            full-answer h (rw z (past b (sym (ap (λ (x : Reply). x.answer) (reply-by g)) ∙ a)))
        by (answered b) g (refuses r) y f = never (ap (λ x. outcome_by x (arrived d (file_feed m icb))) (sym y) ∙ f ∙ g)

-- ---- discs that agree on the sectors wanted leave the same length, row and output

pub still_alike : (d e : Disc) (m : Mount) (icb : LongAd) {row₀ row row₁ row₂ : List (List ℕ)} {out out₁ out₂ ns ns' : List ℕ} {r q q' : Reading} → Starts (file_feed m icb) row₀ row r
    → Still d ns r row out q row₁ out₁ → Still e ns' r row out q' row₂ out₂ → Agree d e ns → StillAlike q q' row₁ row₂ out₁ out₂
still_alike d e m icb {row₀} {row} {row₁} {row₂} {out} st v x a =
    let b = (reads.agreed-alike d e m icb st (w d m icb st v) (w e m icb st x) a).bytes in
    let s : arrived d (bounded_by m icb row₀ out []) ≡ arrived e (bounded_by m icb row₀ out []) = sym (reads.bytes-hold d m icb st (w d m icb st v)) ∙ b ∙ reads.bytes-hold e m icb st (w e m icb st x) in
    record {
      length = length-told d m icb st v ∙ ap lib.ListN.length s ∙ sym (length-told e m icb st x);
      rows = row_zero d m icb st v ∙ sym (row_zero e m icb st x);
      output = output-holds d m icb st v ∙ ap (λ b. b ++ drop (lib.ListN.length b) out) s ∙ sym (output-holds e m icb st x);
    }

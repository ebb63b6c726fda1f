-- Laws of replies. Assumes nothing.
use mathlib.Core.Path.{◌≡◌, refl, sym, ◌∙◌}
use mathlib.Core.Bool.{Bool, true, false}
use mathlib.Core.List.{List}
use Prim.Native.Nat.{ℕ, ◌≤◌, ◌<◌}
use lib.ListN.{length}
use lib.Dec.{leb}
use borrow.Author.Tests.{le-leb, lt-leb}
use Rattle.disc.specs.Choice.{pick}
use Rattle.disc.specs.Refusals.{number}
use Rattle.disc.specs.Counts.{reported}
use Rattle.disc.specs.Ask.{Disc, Ask, Outcome, asked, Agree}
use Rattle.disc.specs.Ask.Outcome.{answered, refused}
use Rattle.disc.specs.Moves.{over}
use Rattle.disc.specs.Ran.{Ran, ran}
use Rattle.disc.specs.Replies.{reply_by, Replied}
use Rattle.disc.specs.declared.refusals.Refusal.{Refusal}
use Rattle.disc.specs.declared.replies.Reply.{Reply}
use Rattle.disc.proofs.MoveLaws.{over-fits}
use Rattle.disc.proofs.RanLaws.{same-ran}

-- a contract by `Replied` leaves one result
pub replied-one : {A : Type 0} {full : Refusal} {r : Ran (List A)} {b a a' : List A} {p p' : Reply} → Replied full r b a p → Replied full r b a' p' → (p ≡ p') × (a ≡ a')
replied-one h k = (h.says ∙ sym k.says, h.leaves ∙ sym k.leaves)

-- RULES 2.7: on discs that agree on the list of a call, the same reply and the same memory
pub same-replied : {A : Type 0} {full : Refusal} (m : Ask (List A)) (d e : Disc) → Agree d e (asked d m) → {b a : List A} {p : Reply}
    → Replied full (ran d m) b a p → Replied full (ran e m) b a p
same-replied m d e h k = rw (same-ran m d e h) at k

-- a reply has the count that it was made with
pub reply-counts : {A : Type 0} (full : Refusal) (room n : ℕ) (o : Outcome (List A)) → (reply_by full room n o).count ≡ n
reply-counts full room n (answered b) = by (leb (length b) room)
  where
    by : (t : Bool) → (pick {A = Reply} t (record { answer = 0; count = n; length = length b }) (record { answer = number full; count = n; length = 0 })).count ≡ n
    by true = refl
    by false = refl
reply-counts full room n (refused r) = refl

-- the same reply with another count
pub recount : (full : Refusal) (room a n : ℕ) (o : Outcome (List ℕ)) {l : Reply} → l ≡ reply_by full room a o
    → ◌≡◌ {A = Reply} (record { answer = l.answer; count = n; length = l.length }) (reply_by full room n o)
recount full room a n (refused r) e = rw e
recount full room a n (answered b) {l} e = by (leb (length b) room) e
  where
    by : (t : Bool) → l ≡ pick t (record { answer = 0; count = a; length = length b }) (record { answer = number full; count = a; length = 0 })
        → ◌≡◌ {A = Reply} (record { answer = l.answer; count = n; length = l.length }) (pick t (record { answer = 0; count = n; length = length b }) (record { answer = number full; count = n; length = 0 }))
    by true e = rw e
    by false e = rw e

-- ---- the ways a call comes to its reply

module _ {full : Refusal} {lent : List ℕ} where
  -- refused: nothing is written
  pub reply-refused : (r : Refusal) (n c : ℕ) {p : Reply} → c ≡ reported n → p ≡ record { answer = number r; count = c; length = 0 }
      → Replied full (record { outcome = refused r; count = n }) lent lent p
  reply-refused r n c e q = record { says = rw (q, e); leaves = refl }

  -- answered, and there is no room
  pub reply-full : (b : List ℕ) (n c : ℕ) {p : Reply} → length lent < length b → c ≡ reported n → p ≡ record { answer = number full; count = c; length = 0 }
      → Replied full (record { outcome = answered b; count = n }) lent lent p
  reply-full b n c h e q = record { says = rw (lt-leb _ _ h, q, e); leaves = rw (lt-leb _ _ h) }

  -- answered, and written over the front
  pub reply-done : (b : List ℕ) (n c : ℕ) {after : List ℕ} → length b ≤ length lent → c ≡ reported n → after ≡ over b lent
      → Replied full (record { outcome = answered b; count = n }) lent after (record { answer = 0; count = c; length = length b })
  reply-done b n c h e q = record { says = rw (le-leb _ _ h, e); leaves = rw (le-leb _ _ h) (q ∙ over-fits b lent h) }

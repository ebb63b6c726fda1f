-- Decoding a d-string leaves what writing its name says. Assumes nothing.
use mathlib.Core.Path.{◌≡◌}
use mathlib.Core.List.{List}
use mathlib.Core.Logic.{⊎_elim}
use Prim.Native.Nat.{ℕ, ◌<◌, ◌≤◌}
use lib.ListN.{length}
use borrow.Author.Tests.{le-leb, lt-leb, le-ltb, lt-ltb}
use Rattle.disc.specs.Ask.{Outcome}
use Rattle.disc.specs.Ask.Outcome.{answered, refused}
use Rattle.disc.specs.Ran.{told}
use Rattle.disc.specs.Replies.{Replied}
use Rattle.disc.specs.declared.refusals.Refusal.TheVariants.{NoRoom}
use Rattle.disc.specs.declared.replies.Reply.{Reply}
use Rattle.disc.proofs.ImageLaws.{split}
use Rattle.disc.proofs.MoveLaws.{over-fits}
use Rattle.records_c.specs.Decoded.{Decoded, decoded}

pub decode_is : (o : Outcome (List ℕ)) {lent after : List ℕ} {p : Reply}
    → Replied NoRoom (told o) lent after p
    → ◌≡◌ {A = Decoded} (record { answer = p.answer; length = p.length; out = after }) (decoded o lent)
unfolding decoded
decode_is (refused why) q = rw (q.says, q.leaves)
decode_is (answered name) {lent} q =
    ⊎_elim
    (λ (h : length name ≤ length lent). rw (q.says, q.leaves) (rw (le-leb _ _ h, le-ltb _ _ h, over-fits name lent h)))
    (λ (h : length lent < length name). rw (q.says, q.leaves) (rw (lt-leb _ _ h, lt-ltb _ _ h)))
    (split (length name) (length lent))

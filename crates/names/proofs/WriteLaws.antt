-- A name that was measured and then written: the ways in which that ends. Assumes nothing.
use Rattle.std.specs.Prelude.{Result, Ok, Err}
use mathlib.Core.Path.{◌≡◌, refl, sym, ◌∙◌}
use mathlib.Core.List.{List}
use Prim.Native.Nat.{ℕ, ◌-◌, ◌<◌, ◌≤◌}
use native.Mathlib.Nat.{sub-zero}
use native.Mathlib.Omega.{arith}
use lib.ListN.{length, length-take, length-drop}
use borrow.Rule.Slice.PartMut.{mid_of, put_mid}
use Rattle.disc.specs.Refusals.{number}
use Rattle.disc.specs.Ask.{Outcome}
use Rattle.disc.specs.Ask.Outcome.{answered, refused}
use Rattle.disc.specs.Ran.{told}
use Rattle.disc.specs.Replies.{Replied}
use Rattle.disc.specs.declared.refusals.Refusal.{Refusal}
use Rattle.disc.specs.declared.refusals.Refusal.TheVariants.{NoRoom}
use Rattle.disc.specs.declared.replies.Reply.{Reply}
use Rattle.disc.proofs.MoveLaws.{sets-whole, over-fits}
use Rattle.disc.proofs.ReplyLaws.{reply-refused, reply-full, reply-done}
use Rattle.names.specs.Names.{Wrote, written, size_of}
use Rattle.names.proofs.UnitLaws.{sets_over}

-- Here z is what was measured of the name, and d what was lent.
pub wrote_none : (o : Outcome (List ℕ)) {d : List ℕ} {z : Result ℕ Refusal} {why : Refusal} {a : ℕ} {p : Reply}
    → z ≡ size_of o
    → z ≡ Err why
    → a ≡ number why
    → p ≡ record { answer = a; count = 0; length = 0 }
    → Replied NoRoom (told o) d d p
wrote_none (refused w) {why = why} e h k q = let same : w ≡ why = cc in reply-refused w 0 0 refl (q ∙ rw (k, same))
wrote_none (answered t) e h k q = absurd (let c : ◌≡◌ {A = ℕ} 0 1 = cc in omega arith)

pub wrote-full : (o : Outcome (List ℕ)) {d : List ℕ} {z : Result ℕ Refusal} {n : ℕ} {p : Reply}
    → z ≡ size_of o
    → z ≡ Ok n
    → length d < n
    → p ≡ record { answer = 5; count = 0; length = 0 }
    → Replied NoRoom (told o) d d p
wrote-full (refused w) e h f q = absurd (let c : ◌≡◌ {A = ℕ} 0 1 = cc in omega arith)
wrote-full (answered t) {n = n} e h f q = let same : n ≡ length t = cc in reply-full t 0 0 (omega arith) refl q

-- The front that was lent is the name's length, and holds the name whole.
pub wrote-all : (o : Outcome (List ℕ)) {d ys : List ℕ} {z : Result ℕ Refusal} {n w : ℕ}
    → z ≡ size_of o
    → z ≡ Ok n
    → n ≤ length d
    → Wrote (written o) (mid_of 0 (n - 0) d) ys w
    → Replied NoRoom (told o) d (put_mid 0 (n - 0) d ys) (record { answer = 0; count = 0; length = n })
wrote-all (refused why) e h f w = absurd (let c : ◌≡◌ {A = ℕ} 0 1 = cc in omega arith)
wrote-all (answered t) {d} {ys} {n = n} e h f w =
    let same : n ≡ length t = cc in
    let fits : length t ≤ length d = omega arith in
    let front : length t ≡ length (mid_of 0 (n - 0) d) = simp (length-take, length-drop) (omega arith) in
    let whole : ys ≡ t = w.bytes ∙ sym (sets_over t (mid_of 0 (n - 0) d)) ∙ sets-whole t (mid_of 0 (n - 0) d) front in
    rw (whole, same) (reply-done t 0 0 fits refl (rw (over-fits t d fits, sub-zero)))

-- RULES 10.3: an answer is written over the front of what was lent and nothing behind it, by each call that answers with bytes or slots. Assumes nothing.
use Prim.Native.Nat.{ℕ, ◌≤◌}
use mathlib.Core.Path.{◌≡◌, refl, ◌∙◌}
use mathlib.Core.Bool.{Bool, true, false}
use mathlib.Core.List.{List, ◌++◌}
use native.Mathlib.Omega.{arith}
use lib.ListN.{length, drop, length-append, length-drop}
use lib.Seq.{take-append_seam, drop-append_seam}
use lib.Dec.{leb}
use borrow.Author.Tests.{leb-true}
use Rattle.disc.specs.Choice.{pick}
use Rattle.disc.specs.Refusals.{number}
use Rattle.disc.specs.Ask.{Outcome}
use Rattle.disc.specs.Ask.Outcome.{answered, refused}
use Rattle.disc.specs.Ran.{Ran, each_in}
use Rattle.disc.specs.Replies.{reply_by, left_by}
use Rattle.disc.specs.declared.refusals.Refusal.{Refusal}
use Rattle.disc.specs.declared.refusals.Refusal.TheVariants.{NoRoom, NoSlot}
use Rattle.disc.proofs.RefusalLaws.{refusal-numbered}
use Rattle.vault.specs.Public.{by_bytes, by_work, by_row}
use Rattle.vault.specs.Fronts.{Fronted}

-- ---- any call of that kind

-- an answer that fits, over the front
over-it : {A : Type 0} (b lent : List A) (n : ℕ) → length b ≤ length lent
    → Fronted (answered b) lent (record { answer = 0; count = n; length = length b }) (b ++ drop (length b) lent)
over-it {A} b lent n h =
    record {
      long = rw (length-append, length-drop) (omega (arith, h));
      behind = drop-append_seam b (drop (length b) lent);
      refused_none = λ k. absurd (k refl);
      front = λ c e z. take-append_seam b (drop (length b) lent) ∙ same e;
    }
  where
    same : {c : List A} → answered b ≡ answered c → b ≡ c
    same e = cc

-- a refusal
not-it : {A : Type 0} (o : Outcome (List A)) (lent : List A) (why : Refusal) (n : ℕ)
    → Fronted o lent (record { answer = number why; count = n; length = 0 }) lent
not-it o lent why n =
    record { long = refl; behind = refl; refused_none = λ k. refl; front = λ b e z. absurd (refusal-numbered why z) }

fronted : {A : Type 0} (full : Refusal) (lent : List A) (n : ℕ) (o : Outcome (List A)) → Fronted o lent (reply_by full (length lent) n o) (left_by lent o)
fronted full lent n (refused why) = not-it (refused why) lent why n
fronted {A} full lent n (answered b) = by (leb (length b) (length lent)) refl
  where
    by : (t : Bool) → leb (length b) (length lent) ≡ t
        → Fronted (answered b) lent (pick t (record { answer = 0; count = n; length = length b }) (record { answer = number full; count = n; length = 0 })) (pick t (b ++ drop (length b) lent) lent)
    by true e = over-it b lent n (leb-true (length b) (length lent) e)
    by false e = not-it (answered b) lent full n

-- ---- the three ways in which a call writes: `spec` says which call goes which way

pub bytes-front : (out : List ℕ) (r : Ran (List ℕ)) → Fronted r.outcome out ((by_bytes out).told r).reply ((by_bytes out).told r).out
bytes-front out r = fronted NoRoom out _ r.outcome

pub work-front : (out work : List ℕ) (r : Ran (List ℕ)) → Fronted r.outcome out ((by_work out work).told r).reply ((by_work out work).told r).out
work-front out work r = fronted NoRoom out _ r.outcome

-- a row: of what each extent's or run's slot holds
pub row-front : {E B : Type 0} (f : E → B) (row : List B) (r : Ran (List E)) → Fronted (each_in f r.outcome) row ((by_row f row).told r).reply ((by_row f row).told r).row
row-front f row r = fronted NoSlot row _ (each_in f r.outcome)

-- RULES 2.15 to 2.18: a show that is lent a number of sectors. It is the show with no budget as long as that asks for no more, and is else refused by 16.
-- Assumes nothing.
use mathlib.Core.Path.{◌≡◌, refl, ap, sym, ◌∙◌}
use mathlib.Core.Bool.{Bool, true, false}
use mathlib.Core.List.{List}
use mathlib.Core.Logic.{⊎_elim}
use Prim.Native.Nat.{ℕ, min, ◌≤◌, ◌<◌}
use native.Mathlib.Omega.{arith}
use lib.ListN.{length, take}
use lib.Dec.{eqb, ltb, leb}
use Rattle.disc.specs.Choice.{pick}
use Rattle.disc.specs.Ask.{Outcome, asked}
use Rattle.disc.specs.Ask.Outcome.{answered, refused}
use Rattle.disc.specs.Images.{disc}
use Rattle.disc.specs.Ran.{ran}
use Rattle.disc.specs.Budgets.{unlimited, is_budget, is_over, ButOver}
use Rattle.disc.proofs.BudgetLaws.{within-asked, budgeted-same, budgeted-over, over-exactly}
use Rattle.disc.proofs.ImageLaws.{split}
use Rattle.volumes.specs.declared.openings.VolumeRecord.{VolumeRecord}
use Rattle.files.proofs.RefusingLaws.{bytes-only}
use Rattle.shows.proofs.Promises.{tree-records-only}
use Rattle.vault.specs.Calls.{showing, worked, Worked, shows, cleared}
use Rattle.vault.specs.Lending.{show_list, show_wants}
use Rattle.vault.specs.Orders.{roomed}
use Rattle.vault.proofs.Orders.{show-order}

module _ (image : List ℕ) (v : VolumeRecord) (levels : ℕ) (out work : List ℕ) where
  -- ---- RULES 2.15: what it asks for are the first of these

  pub lent-list : (most : ℕ) → is_budget most ≡ true → asked (disc image) (showing v levels most (length work)) ≡ take most (show_list image v levels work)
  lent-list most b = rw b (within-asked (disc image) most (showing v levels unlimited (length work)))

  -- ---- where they are enough it is the old call, whole, and else it is 16 after as many as were lent

  pub lent_same : (most : ℕ) → show_wants image v levels work ≤ most → shows image v levels most out work ≡ shows image v levels unlimited out work
  unfolding ran
  lent_same most h = ap (worked out work) (budgeted-same (disc image) (showing v levels unlimited (length work)) most h)

  pub lent-over : (most : ℕ) → most < show_wants image v levels work → shows image v levels most out work ≡ record { reply = record { answer = 16; count = most; length = 0 }; out = out; work = cleared work }
  unfolding ran
  lent-over most h =
      let c : min most unlimited ≡ most = omega arith in
      ap (worked out work) (budgeted-over (disc image) (showing v levels unlimited (length work)) most h) ∙ rw c

  -- ---- 16 exactly when the old call asks for more

  numbered : (room : ℕ) (o : Outcome (List ℕ)) → eqb (roomed room o) 16 ≡ is_over o
  numbered room (refused why) = refl
  numbered room (answered b) = by (leb (length b) room)
    where
      by : (t : Bool) → eqb (pick t 0 5) 16 ≡ false
      by true = refl
      by false = refl

  pub lent-16 : (most : ℕ) → eqb (shows image v levels most out work).reply.answer 16 ≡ ltb most (show_wants image v levels work)
  unfolding ran
  lent-16 most =
      ap (λ n. eqb n 16) (show-order image v levels most out work)
      ∙ numbered (length out) (ran (disc image) (showing v levels most (length work))).outcome
      ∙ over-exactly (disc image) (showing v levels unlimited (length work))
      (tree-records-only ButOver v.mount (bytes-only ButOver (λ e. omega arith) (λ e. omega arith) v.mount (λ c e. omega arith)) (λ e. omega arith) (λ c e. omega arith) (λ e. omega arith) (λ e. omega arith) levels (length work) v.root) most

  -- ---- RULES 2.18: any other answer is that of the old call, and stays with more sectors

  enough : (most : ℕ) → ((shows image v levels most out work).reply.answer ≡ 16 → ⊥) → show_wants image v levels work ≤ most
  enough most h = ⊎_elim
      (λ (k : show_wants image v levels work ≤ most). k)
      (λ (k : most < show_wants image v levels work). absurd (h (ap (λ (w : Worked). w.reply.answer) (lent-over most k))))
      (split (show_wants image v levels work) most)

  pub lent_other : (most : ℕ) → ((shows image v levels most out work).reply.answer ≡ 16 → ⊥) → shows image v levels most out work ≡ shows image v levels unlimited out work
  lent_other most h = lent_same most (enough most h)

  pub lent-more : (most more : ℕ) → most ≤ more → ((shows image v levels most out work).reply.answer ≡ 16 → ⊥) → shows image v levels more out work ≡ shows image v levels most out work
  lent-more most more l h = let e = enough most h in lent_same more (omega (arith, e)) ∙ sym (lent_same most e)

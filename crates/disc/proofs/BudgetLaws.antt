-- Laws of a call that is lent a number of sectors: what it asks for, what it comes to, and which refusals it can come to. They hold of every tree. Assumes nothing.
use mathlib.Core.Path.{◌≡◌, refl, ap, sym, ◌∙◌, fun_ext}
use mathlib.Core.Bool.{Bool, true, false}
use mathlib.Core.List.{List, [], ◌∷◌}
use mathlib.Core.Logic.{⊎_elim}
use Prim.Native.Nat.{ℕ, zero, suc, ◌+◌, ◌-◌, ◌≤◌, ◌<◌}
use native.Mathlib.Omega.{arith}
use lib.ListN.{length, take}
use lib.Seq.{take_all, length-take-le}
use lib.Dec.{leb, ltb}
use borrow.Author.Tests.{le-leb, lt-leb, le-ltb, lt-ltb, ne_eqb}
use Rattle.disc.specs.Choice.{pick}
use Rattle.disc.specs.Counts.{reported}
use Rattle.disc.specs.Refusals.{number}
use Rattle.disc.specs.Ask.{Held, Disc, Ask, Outcome, given, outcome, asked}
use Rattle.disc.specs.Ask.Held.{holds, lacks}
use Rattle.disc.specs.Ask.Ask.{done, refuse, ask}
use Rattle.disc.specs.Ask.Outcome.{answered, refused}
use Rattle.disc.specs.Ran.{ran}
use Rattle.disc.specs.Budgets.{within, unlimited, is_budget, budgeted, left_of, over_run, capped, is_over, ButOver}
use Rattle.disc.specs.Refusing.{Only, Refuses, Within}
use Rattle.disc.specs.Marks.{Marked, plain, guarded, Guards}
use Rattle.disc.specs.Marks.Marked.{answers, refuses, asks, parses}
use Rattle.disc.specs.declared.refusals.Refusal.{Refusal}
use Rattle.disc.specs.declared.refusals.Refusal.TheVariants.{Io, BadCrc, OverBudget}
use Rattle.disc.proofs.ImageLaws.{split}
use Rattle.disc.proofs.MarkedLaws.{pick-guards}
use Rattle.disc.proofs.OnlyLaws.{refuses-within}

-- ---- what it asks for: the first n of the list

none-taken : (n : ℕ) → ◌≡◌ {A = List ℕ} [] (take n [])
none-taken zero = refl
none-taken (suc n) = refl

pub within-asked : {A : Type 0} (d : Disc) (n : ℕ) (m : Ask A) → asked d (within n m) ≡ take n (asked d m)
unfolding within asked
within-asked d n (done a) = none-taken n
within-asked d n (refuse r) = none-taken n
within-asked d zero (ask s k) = refl
within-asked d (suc n) (ask s k) = ap (λ l. s ∷ l) (by (d s) (λ b. within-asked d n (k b)))
  where
    by : (h : Held) → ((b : List ℕ) → asked d (within n (k b)) ≡ take n (asked d (k b))) → given h (λ b. asked d (within n (k b))) [] ≡ take n (given h (λ b. asked d (k b)) [])
    by (holds b) f = f b
    by lacks f = none-taken n

-- ---- what it comes to: the same where the list has at most n sectors, and else 16

leb-suc : (a b : ℕ) → leb (suc a) (suc b) ≡ leb a b
leb-suc a b = ⊎_elim
    (λ (h : a ≤ b). le-leb (suc a) (suc b) (omega arith) ∙ sym (le-leb a b h))
    (λ (h : b < a). lt-leb (suc a) (suc b) (omega arith) ∙ sym (lt-leb a b h))
    (split a b)

pub within-outcome : {A : Type 0} (d : Disc) (n : ℕ) (m : Ask A) → outcome d (within n m) ≡ pick (leb (length (asked d m)) n) (outcome d m) (refused OverBudget)
unfolding within asked outcome
within-outcome d n (done a) = rw (le-leb 0 n (omega arith))
within-outcome d n (refuse r) = rw (le-leb 0 n (omega arith))
within-outcome d zero (ask s k) = rw (lt-leb (length (asked d (ask s k))) 0 (omega arith))
within-outcome {A} d (suc n) (ask s k) = by (d s) (λ b. within-outcome d n (k b))
  where
    by : (h : Held) → ((b : List ℕ) → outcome d (within n (k b)) ≡ pick (leb (length (asked d (k b))) n) (outcome d (k b)) (refused OverBudget))
        → given h (λ b. outcome d (within n (k b))) (refused Io)
        ≡ pick (leb (suc (length (given h (λ b. asked d (k b)) []))) (suc n)) (given h (λ b. outcome d (k b)) (refused Io)) (refused OverBudget)
    by (holds b) f = f b ∙ rw (leb-suc (length (asked d (k b))) n)
    by lacks f = rw (le-leb 1 (suc n) (omega arith))

-- ---- both together, for every number that can be lent

module _ {A : Type 0} (d : Disc) (m : Ask A) where
  -- the list has at most n sectors
  pub within_same : (n : ℕ) → (ran d m).count ≤ n → ran d (within n m) ≡ ran d m
  unfolding ran
  within_same n h =
      let o : outcome d (within n m) ≡ outcome d m = within-outcome d n m ∙ rw (le-leb (length (asked d m)) n h) in
      let l : asked d (within n m) ≡ asked d m = within-asked d n m ∙ take_all n (asked d m) h in
      λ i. record { outcome = o i; count = length (l i) }

  -- it has more
  pub within-over : (n : ℕ) → n < (ran d m).count → ran d (within n m) ≡ over_run n
  unfolding ran
  within-over n h =
      let o : outcome d (within n m) ≡ refused OverBudget = within-outcome d n m ∙ rw (lt-leb (length (asked d m)) n h) in
      let l : length (asked d (within n m)) ≡ n = rw (within-asked d n m) (length-take-le n (asked d m) (omega arith)) in
      λ i. record { outcome = o i; count = l i }

  pub budgeted-ran : (most : ℕ) → ran d (budgeted most m) ≡ capped most (ran d m)
  budgeted-ran most = ⊎_elim
      (λ (h : unlimited ≤ most). rw (le-ltb most unlimited h, le-leb (reported (ran d m).count) most (omega arith)))
      (λ (h : most < unlimited). rw (lt-ltb most unlimited h) (⊎_elim
      (λ (k : (ran d m).count ≤ most). within_same most k ∙ rw (le-leb (reported (ran d m).count) most (omega arith)))
      (λ (k : most < (ran d m).count). within-over most k ∙ rw (lt-leb (reported (ran d m).count) most (omega arith)))
      (split (ran d m).count most)))
      (split unlimited most)

  -- where nothing is left out the call is the old one
  pub budgeted-same : (most : ℕ) → reported (ran d m).count ≤ most → ran d (budgeted most m) ≡ ran d m
  budgeted-same most h = budgeted-ran most ∙ rw (le-leb (reported (ran d m).count) most h)

  pub budgeted-over : (most : ℕ) → most < reported (ran d m).count → ran d (budgeted most m) ≡ over_run most
  budgeted-over most h = budgeted-ran most ∙ rw (lt-leb (reported (ran d m).count) most h)

  -- 2^64 - 1 sectors are no budget: the call itself
  pub no-budget : budgeted unlimited m ≡ m
  no-budget = refl

  -- an outcome that isn't refused by 16
  pub never-over : {Q : A → Type 0} → Refuses ButOver Q m → is_over (ran d m).outcome ≡ false
  unfolding ran Within
  never-over p = by (outcome d m) (refuses-within ButOver (λ e. omega arith) d p)
    where
      by : (o : Outcome A) → Within ButOver o → is_over o ≡ false
      by (answered a) w = refl
      by (refused why) w = ne_eqb (number why) 16 w

  -- it is refused by 16 exactly when its list is longer than what is lent, if it never is by itself
  pub over-exactly : {Q : A → Type 0} → Refuses ButOver Q m → (most : ℕ) → is_over (ran d (budgeted most m)).outcome ≡ ltb most (reported (ran d m).count)
  over-exactly {Q} p most = ⊎_elim
      (λ (h : reported (ran d m).count ≤ most). rw (budgeted-same most h) (never-over p ∙ sym (le-ltb most (reported (ran d m).count) h)))
      (λ (h : most < reported (ran d m).count). rw (budgeted-over most h) (sym (lt-ltb most (reported (ran d m).count) h)))
      (split (reported (ran d m).count) most)

  -- more sectors change no other answer
  pub more_same : (most more : ℕ) → most ≤ more → is_over (ran d (budgeted most m)).outcome ≡ false → ran d (budgeted more m) ≡ ran d (budgeted most m)
  more_same most more h e = ⊎_elim
      (λ (k : reported (ran d m).count ≤ most). budgeted-same more (omega arith) ∙ sym (budgeted-same most k))
      (λ (k : most < reported (ran d m).count). absurd (let z : is_over (ran d (budgeted most m)).outcome ≡ true = rw (budgeted-over most k) in let w : ◌≡◌ {A = Bool} true false = sym z ∙ e in let v : ◌≡◌ {A = ℕ} 0 1 = cc in omega arith))
      (split (reported (ran d m).count) most)

  -- what it leaves by the count that it reports
  pub budgeted-left : (most : ℕ) → left_of most (reported (ran d (budgeted most m)).count) ≡ left_of most (ran d (budgeted most m)).count
  budgeted-left most = ⊎_elim
      (λ (h : unlimited ≤ most). rw (le-ltb most unlimited h))
      (λ (h : most < unlimited). ap (left_of most) (⊎_elim
      (λ (k : reported (ran d m).count ≤ most). rw (budgeted-same most k) (omega arith))
      (λ (k : most < reported (ran d m).count). rw (budgeted-over most k) (omega arith))
      (split (reported (ran d m).count) most)))
      (split unlimited most)

-- ---- which refusals it can come to

only-within : {A : Type 0} (P : Refusal → Type 0) (Q : A → Type 0) → P OverBudget → (n : ℕ) (m : Ask A) → Only P Q m → Only P Q (within n m)
unfolding Only within
only-within P Q o n (done a) p = p
only-within P Q o n (refuse r) p = p
only-within P Q o zero (ask s k) p = o
only-within P Q o (suc n) (ask s k) p = λ b. only-within P Q o n (k b) (p b)

pub budgeted-only : {A : Type 0} {P : Refusal → Type 0} {Q : A → Type 0} (most : ℕ) → (is_budget most ≡ true → P OverBudget) → {m : Ask A} → Refuses P Q m → Refuses P Q (budgeted most m)
budgeted-only {A} {P} {Q} most o {m} p = by (is_budget most) o
  where
    by : (t : Bool) → (t ≡ true → P OverBudget) → Refuses P Q (pick t (within most m) m)
    by true f = record { only = only-within P Q (f refl) most m p.only }
    by false f = p

-- ---- bodies that are checked: the same marks, as far as the sectors go

within_marked : {A : Type 0} → ℕ → Marked A → Marked A
within_marked n (answers a) = answers a
within_marked n (refuses why h) = refuses why h
within_marked zero (asks s k) = refuses OverBudget (λ e. omega arith)
within_marked (suc n) (asks s k) = asks s (λ b. within_marked n (k b))
within_marked n (parses s m) = parses s (within_marked n m)

within-plain : {A : Type 0} (n : ℕ) (m : Marked A) → plain (within_marked n m) ≡ within n (plain m)
unfolding plain within within_marked
within-plain n (answers a) = refl
within-plain n (refuses why h) = refl
within-plain zero (asks s k) = refl
within-plain (suc n) (asks s k) = ap (ask s) (fun_ext (λ b. within-plain n (k b)))
within-plain n (parses s m) = within-plain n m

within-guarded : {A : Type 0} (right : List ℕ → Bool) (n : ℕ) (m : Marked A) → guarded right (within_marked n m) ≡ within n (guarded right m)
unfolding guarded within within_marked
within-guarded right n (answers a) = refl
within-guarded right n (refuses why h) = refl
within-guarded right zero (asks s k) = refl
within-guarded right (suc n) (asks s k) = ap (ask s) (fun_ext (λ b. within-guarded right n (k b)))
within-guarded {A} right n (parses s m) = by (right s) (within-guarded right n m)
  where
    by : (t : Bool) → guarded right (within_marked n m) ≡ within n (guarded right m) → pick t (guarded right (within_marked n m)) (refuse BadCrc) ≡ within n (pick t (guarded right m) (refuse BadCrc))
    by true h = h
    by false h = refl

pub budgeted-guards : {A : Type 0} {right : List ℕ → Bool} (most : ℕ) {m n : Ask A} → Guards right m n → Guards right (budgeted most m) (budgeted most n)
budgeted-guards {A} {right} most g =
    pick-guards (is_budget most)
    (record { tree = within_marked most g.tree; checks = within-guarded right most g.tree ∙ ap (within most) g.checks; plains = within-plain most g.tree ∙ ap (within most) g.plains })
    g

-- ---- what is left

module _ (most count : ℕ) where
  pub left-most : left_of most count ≤ most
  left-most = ⊎_elim
      (λ (k : unlimited ≤ most). rw (le-ltb most unlimited k) (omega arith))
      (λ (k : most < unlimited). rw (lt-ltb most unlimited k) (omega arith))
      (split unlimited most)

  -- what is left suffices for n more exactly where the whole suffices for both
  pub left-enough : (n : ℕ) → reported count ≤ most → leb (reported n) (left_of most count) ≡ leb (reported (count + n)) most
  left-enough n h = ⊎_elim
      (λ (k : unlimited ≤ most). rw (le-ltb most unlimited k, le-leb (reported n) most (omega arith), le-leb (reported (count + n)) most (omega arith)))
      (λ (k : most < unlimited). rw (lt-ltb most unlimited k) (⊎_elim
      (λ (l : reported n ≤ most - count). rw (le-leb (reported n) (most - count) l, le-leb (reported (count + n)) most (omega arith)))
      (λ (l : most - count < reported n). rw (lt-leb (reported n) (most - count) l, lt-leb (reported (count + n)) most (omega arith)))
      (split (reported n) (most - count))))
      (split unlimited most)

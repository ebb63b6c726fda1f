-- A call that is lent a number of sectors: RULES 2.15 to 2.18.
use Rattle.std.specs.Prelude.{ℕ, zero, suc, ◌-◌, Bool, false, ◌≡◌, eqb, leb, ltb}
use Rattle.disc.specs.Choice.{pick}
use Rattle.disc.specs.Counts.{reported}
use Rattle.disc.specs.Refusals.{number}
use Rattle.disc.specs.Ask.{Ask, Outcome}
use Rattle.disc.specs.Ask.Ask.{done, refuse, ask}
use Rattle.disc.specs.Ask.Outcome.{answered, refused}
use Rattle.disc.specs.Ran.{Ran}
use Rattle.disc.specs.declared.refusals.Refusal.{Refusal}
use Rattle.disc.specs.declared.refusals.Refusal.TheVariants.{OverBudget}

-- the same call, refused by 16 instead of asking for its (n + 1)th sector
unfoldable pub within : {A : Type 0} → ℕ → Ask A → Ask A
within n (done a) = done a
within n (refuse r) = refuse r
within zero (ask s k) = refuse OverBudget
within (suc n) (ask s k) = ask s (λ b. within n (k b))

-- 2^64 - 1 sectors are no budget
abbrev pub unlimited : ℕ
unlimited = 0xffff_ffff_ffff_ffff

abbrev pub is_budget : ℕ → Bool
is_budget most = ltb most unlimited

-- the call that is lent `most` sectors
abbrev pub budgeted : {A : Type 0} → ℕ → Ask A → Ask A
budgeted most m = pick (is_budget most) (within most m) m

-- what is left of `most` sectors after a call that asked for n
abbrev pub left_of : ℕ → ℕ → ℕ
left_of most n = pick (is_budget most) (most - n) most

-- refused by 16, after as many sectors as were lent
abbrev pub over_run : {A : Type 0} → ℕ → Ran A
over_run most = record { outcome = refused OverBudget; count = most }

-- the run of a call that is lent `most` sectors, from its run without a budget
abbrev pub capped : {A : Type 0} → ℕ → Ran A → Ran A
capped most r = pick (leb (reported r.count) most) r (over_run most)

-- the outcome is refusal 16
abbrev pub is_over : {A : Type 0} → Outcome A → Bool
is_over (answered a) = false
is_over (refused why) = eqb (number why) 16

-- every refusal but 16
abbrev pub ButOver : Refusal → Type 0
ButOver why = number why ≡ 16 → ⊥

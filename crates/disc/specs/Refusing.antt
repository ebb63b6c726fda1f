-- Which refusals a call can have.
use Rattle.std.specs.Prelude.{false, Bool, List, ◌≡◌, ℕ, eqb}
use Rattle.disc.specs.Ask.{Ask, Outcome}
use Rattle.disc.specs.Ask.Ask.{ask, done, refuse}
use Rattle.disc.specs.Ask.Outcome.{answered, refused}
use Rattle.disc.specs.Refusals.{number}
use Rattle.disc.specs.declared.refusals.Refusal.{Refusal}

-- whatever the disc holds, every refusal of the call satisfies P and every answer Q
unfoldable pub Only : {A : Type 0} → (Refusal → Type 0) → (A → Type 0) → Ask A → Type 0
Only P Q (done a) = Q a
Only P Q (refuse r) = P r
Only P Q (ask s k) = (b : List ℕ) → Only P Q (k b)

-- the same as one record, which is never unfolded
pub record Refuses {A : Type 0} (P : Refusal → Type 0) (Q : A → Type 0) (m : Ask A) : Type 0 where
  pub only : Only P Q m

-- the outcome is an answer, or a refusal that satisfies P
unfoldable pub Within : {A : Type 0} → (Refusal → Type 0) → Outcome A → Type 0
Within P (answered a) = Unit {0}
Within P (refused r) = P r

-- always true
abbrev pub Any : {A : Type 0} → A → Type 0
Any a = Unit {0}

-- the outcome is refusal 1, for a missing sector
abbrev pub is_io : {A : Type 0} → Outcome A → Bool
is_io (answered a) = false
is_io (refused why) = eqb (number why) 1

-- every refusal but 1
abbrev pub ButIo : Refusal → Type 0
ButIo why = number why ≡ 1 → ⊥

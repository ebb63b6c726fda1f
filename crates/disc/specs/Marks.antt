-- A call with and without the check of bodies: both come from one tree, which has a mark wherever a descriptor is parsed.
use Rattle.std.specs.Prelude.{Bool, false, ◌||◌, not, List, [], ◌∷◌, ◌++◌, ◌≡◌, ℕ, eqb}
use Rattle.disc.specs.Ask.{Ask, given, Disc, Outcome}
use Rattle.disc.specs.Ask.Ask.{ask, done, refuse}
use Rattle.disc.specs.Ask.Outcome.{answered, refused}
use Rattle.disc.specs.Choice.{pick}
use Rattle.disc.specs.Refusals.{number}
use Rattle.disc.specs.declared.refusals.Refusal.{Refusal}
use Rattle.disc.specs.declared.refusals.Refusal.TheVariants.{BadCrc}

-- every refusal but 10
abbrev pub ButBad : Refusal → Type 0
ButBad why = number why ≡ 10 → ⊥

-- a call with a mark wherever a descriptor is parsed: the bytes of a mark begin with the descriptor, whose tag is accepted
pub data Marked (A : Type 0) : Type 0 where
  answers : A → Marked A
  refuses : (why : Refusal) → ButBad why → Marked A
  asks : ℕ → (List ℕ → Marked A) → Marked A
  parses : List ℕ → Marked A → Marked A

-- the call without the check
unfoldable pub plain : {A : Type 0} → Marked A → Ask A
plain (answers a) = done a
plain (refuses why n) = refuse why
plain (asks s k) = ask s (λ b. plain (k b))
plain (parses s m) = plain m

-- the call with the check: refused by 10 at the first mark with a wrong body
unfoldable pub guarded : {A : Type 0} → (List ℕ → Bool) → Marked A → Ask A
guarded right (answers a) = done a
guarded right (refuses why n) = refuse why
guarded right (asks s k) = ask s (λ b. guarded right (k b))
guarded right (parses s m) = pick (right s) (guarded right m) (refuse BadCrc)

-- the descriptors that the call without the check parses, up to its end
unfoldable pub parsed : {A : Type 0} → Disc → Marked A → List (List ℕ)
parsed d (answers a) = []
parsed d (refuses why n) = []
parsed d (asks s k) = given (d s) (λ b. parsed d (k b)) []
parsed d (parses s m) = s ∷ parsed d m

-- one of them has a wrong body
unfoldable pub any_wrong : (List ℕ → Bool) → List (List ℕ) → Bool
any_wrong right [] = false
any_wrong right (s ∷ rest) = not (right s) || any_wrong right rest

-- the outcome is refusal 10
abbrev pub is_bad : {A : Type 0} → Outcome A → Bool
is_bad (answered a) = false
is_bad (refused why) = eqb (number why) 10

-- `long` begins with `short`
pub record Front (short long : List ℕ) : Type 0 where
  pub rest : List ℕ
  pub is : long ≡ short ++ rest

-- m is the call n with bodies checked
pub record Guards {A : Type 0} (right : List ℕ → Bool) (m n : Ask A) : Type 0 where
  pub tree : Marked A
  pub checks : guarded right tree ≡ m
  pub plains : plain tree ≡ n

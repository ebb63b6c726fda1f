-- A call is a tree of questions: it asks for a sector, is given its bytes, and goes on. RULES 2.2 and 2.3.
use Rattle.std.specs.Prelude.{◌≡◌, List, [], ◌∷◌, ℕ, zero, suc}
use Rattle.disc.specs.declared.refusals.Refusal.{Refusal}
use Rattle.disc.specs.declared.refusals.Refusal.TheVariants.{Io}

-- ---- a disc

-- what a sector number gives: the sector's bytes, or nothing
pub data Held : Type 0 where
  holds : List ℕ → Held
  lacks : Held

abbrev pub Disc : Type 0
Disc = ℕ → Held

-- f of the bytes that are held, or r where there are none
abbrev pub given : {R : Type 0} → Held → (List ℕ → R) → R → R
given (holds b) f r = f b
given lacks f r = r

-- the bytes themselves, none where nothing is held
abbrev pub bytes_in : Held → List ℕ
bytes_in (holds b) = b
bytes_in lacks = []

-- ---- a call

pub data Ask (A : Type 0) : Type 0 where
  done : A → Ask A
  refuse : Refusal → Ask A
  ask : ℕ → (List ℕ → Ask A) → Ask A  -- a sector that can't be had is refused by `Io`

pub data Outcome (A : Type 0) : Type 0 where
  answered : A → Outcome A
  refused : Refusal → Outcome A

-- the outcome of a call on a disc
unfoldable pub outcome : {A : Type 0} → Disc → Ask A → Outcome A
outcome d (done a) = answered a
outcome d (refuse r) = refused r
outcome d (ask s k) = given (d s) (λ b. outcome d (k b)) (refused Io)

-- the sectors that it asks for, in order; a missing one is the last
unfoldable pub asked : {A : Type 0} → Disc → Ask A → List ℕ
asked d (done a) = []
asked d (refuse r) = []
asked d (ask s k) = s ∷ given (d s) (λ b. asked d (k b)) []

-- one call after another: the second goes on with the first one's answer
unfoldable pub then : {A B : Type 0} → Ask A → (A → Ask B) → Ask B
then (done a) f = f a
then (refuse r) f = refuse r
then (ask s k) f = ask s (λ b. then (k b) f)

-- ---- two discs

-- they agree on each sector of a list
unfoldable pub Agree : Disc → Disc → List ℕ → Type 0
Agree d e [] = Unit {0}
Agree d e (s ∷ rest) = (d s ≡ e s) × Agree d e rest

-- the second disc holds every sector that the first holds, with the same bytes
unfoldable pub Grown : Disc → Disc → Type 0
Grown d e = (s : ℕ) (b : List ℕ) → d s ≡ holds b → e s ≡ holds b

-- ---- a call walked by hand, a sector at a time

-- the sector that it wants next, if any
unfoldable pub wants : {A : Type 0} → Ask A → List ℕ
wants (done a) = []
wants (refuse r) = []
wants (ask s k) = s ∷ []

-- what is left of the call once the disc has given that sector, or lacks it
unfoldable pub fed : {A : Type 0} → Disc → Ask A → Ask A
fed d (done a) = done a
fed d (refuse r) = refuse r
fed d (ask s k) = given (d s) k (refuse Io)

-- what is left of the call after n such sectors
unfoldable pub fed_times : {A : Type 0} → ℕ → Disc → Ask A → Ask A
fed_times zero d m = m
fed_times (suc n) d m = fed_times n d (fed d m)

-- a call that has ended with this outcome
abbrev pub ended : {A : Type 0} → Outcome A → Ask A
ended (answered a) = done a
ended (refused r) = refuse r

-- go on with the answer, or stay refused
abbrev pub and_then : {A B : Type 0} → Outcome A → (A → Outcome B) → Outcome B
and_then (answered a) f = f a
and_then (refused r) f = refused r

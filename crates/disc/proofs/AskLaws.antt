-- Laws of every tree of questions: what two discs that agree on its list make of it, what a grown disc makes of it, and that walking it
-- by hand asks and ends the same. Assumes nothing.
use mathlib.Core.Path.{◌≡◌, refl, ap, ◌∙◌, fun_ext}
use mathlib.Core.List.{List, [], ◌∷◌, ◌++◌, append-nil}
use mathlib.Core.Logic.{◌⊎◌, inl, inr}
use Prim.Native.Nat.{ℕ}
use lib.ListN.{length}
use Rattle.disc.specs.declared.refusals.Refusal.TheVariants.{Io}
use Rattle.disc.specs.Ask.{Held, Disc, Ask, Outcome, given, outcome, asked, then, Agree, Grown, wants, fed, fed_times, ended, and_then}
use Rattle.disc.specs.Ask.Held.{holds, lacks}
use Rattle.disc.specs.Ask.Ask.{done, refuse, ask}
use Rattle.disc.specs.Ask.Outcome.{answered, refused}
use Rattle.disc.specs.Lists.{asked_behind}

-- ---- RULES 2.7: discs that agree on the list of a call give the same outcome and the same list

agree-step : {R : Type 0} (d e : Disc) (x y : Held) → x ≡ y → (o o' : List ℕ → R) (r : R) (a : List ℕ → List ℕ)
    → Agree d e (given x a [])
    → ((b : List ℕ) → Agree d e (a b) → o b ≡ o' b)
    → given x o r ≡ given y o' r
agree-step d e (holds b) y p o o' r a h ih = rw (← p) (ih b h)
agree-step d e lacks y p o o' r a h ih = rw (← p)

pub same_outcome : {A : Type 0} (m : Ask A) (d e : Disc) → Agree d e (asked d m) → outcome d m ≡ outcome e m
unfolding outcome asked Agree
same_outcome (done a) d e h = refl
same_outcome (refuse r) d e h = refl
same_outcome (ask s k) d e h =
    agree-step d e (d s) (e s) h.0 (λ b. outcome d (k b)) (λ b. outcome e (k b)) (refused Io) (λ b. asked d (k b)) h.1
    (λ b g. same_outcome (k b) d e g)

pub same_asked : {A : Type 0} (m : Ask A) (d e : Disc) → Agree d e (asked d m) → asked d m ≡ asked e m
unfolding outcome asked Agree
same_asked (done a) d e h = refl
same_asked (refuse r) d e h = refl
same_asked (ask s k) d e h =
    ap (λ l. s ∷ l)
    (agree-step d e (d s) (e s) h.0 (λ b. asked d (k b)) (λ b. asked e (k b)) [] (λ b. asked d (k b)) h.1
    (λ b g. same_asked (k b) d e g))

-- discs that agree on two lists joined agree on each
pub agree-front : (d e : Disc) (a b : List ℕ) → Agree d e (a ++ b) → Agree d e a
unfolding Agree
agree-front d e [] b h = tt
agree-front d e (s ∷ a) b h = (h.0, agree-front d e a b h.1)

pub agree-back : (d e : Disc) (a b : List ℕ) → Agree d e (a ++ b) → Agree d e b
unfolding Agree
agree-back d e [] b h = h
agree-back d e (s ∷ a) b h = agree-back d e a b h.1

-- ---- a disc that has all that another has gives the same outcome, or the other's was refused for a missing sector

grown-step : {A : Type 0} (x y : Held) → ((b : List ℕ) → x ≡ holds b → y ≡ holds b) → (o o' : List ℕ → Outcome A)
    → ((b : List ℕ) → (o b ≡ refused Io) ⊎ (o' b ≡ o b))
    → (given x o (refused Io) ≡ refused Io) ⊎ (given y o' (refused Io) ≡ given x o (refused Io))
grown-step (holds b) y g o o' ih = rw (g b refl) (ih b)
grown-step lacks y g o o' ih = inl refl

pub grown-outcome : {A : Type 0} (m : Ask A) (d e : Disc) → Grown d e → (outcome d m ≡ refused Io) ⊎ (outcome e m ≡ outcome d m)
unfolding outcome Grown
grown-outcome (done a) d e g = inr refl
grown-outcome (refuse r) d e g = inr refl
grown-outcome (ask s k) d e g =
    grown-step (d s) (e s) (g s) (λ b. outcome d (k b)) (λ b. outcome e (k b)) (λ b. grown-outcome (k b) d e g)

-- ---- one call behind another: the list of the first, and then that of the second where the first was answered

pub asked-then : {A B : Type 0} (d : Disc) (m : Ask A) (f : A → Ask B) → asked d (then m f) ≡ asked d m ++ asked_behind d (outcome d m) f
unfolding then outcome asked
asked-then d (done a) f = refl
asked-then d (refuse r) f = refl
asked-then d (ask s k) f = ap (λ l. s ∷ l) (behind (d s) (λ b. asked-then d (k b) f))
  where
    behind : (x : Held) → ((b : List ℕ) → asked d (then (k b) f) ≡ asked d (k b) ++ asked_behind d (outcome d (k b)) f)
        → given x (λ b. asked d (then (k b) f)) []
        ≡ given x (λ b. asked d (k b)) [] ++ asked_behind d (given x (λ b. outcome d (k b)) (refused Io)) f
    behind (holds b) ih = ih b
    behind lacks ih = refl

-- what is made of an answer asks for nothing more
pub asked-done : {A B : Type 0} (d : Disc) (m : Ask A) (f : A → B) → asked d (then m (λ a. done (f a))) ≡ asked d m
unfolding asked
asked-done {A} {B} d m f = asked-then d m (λ a. done (f a)) ∙ by (outcome d m)
  where
    by : (o : Outcome A) → asked d m ++ asked_behind d o (λ a. done (f a)) ≡ asked d m
    by (answered a) = append-nil (asked d m)
    by (refused r) = append-nil (asked d m)

-- ---- a call walked by hand, a sector at a time, asks for the same sectors and comes to the same

pub fed-outcome : {A : Type 0} (d : Disc) (m : Ask A) → outcome d (fed d m) ≡ outcome d m
unfolding outcome fed
fed-outcome d (done a) = refl
fed-outcome d (refuse r) = refl
fed-outcome d (ask s k) = elim (d s) as (λ x. outcome d (given x k (refuse Io)) ≡ given x (λ b. outcome d (k b)) (refused Io)) [ holds b ↦ refl | lacks ↦ refl ]

pub fed-asked : {A : Type 0} (d : Disc) (m : Ask A) → wants m ++ asked d (fed d m) ≡ asked d m
unfolding asked fed wants
fed-asked d (done a) = refl
fed-asked d (refuse r) = refl
fed-asked d (ask s k) = ap (λ l. s ∷ l) (elim (d s) as (λ x. asked d (given x k (refuse Io)) ≡ given x (λ b. asked d (k b)) []) [ holds b ↦ refl | lacks ↦ refl ])

-- after as many sectors as its list has, it has come to its outcome
pub fed-ends : {A : Type 0} (d : Disc) (m : Ask A) → fed_times (length (asked d m)) d m ≡ ended (outcome d m)
unfolding outcome asked fed fed_times
fed-ends d (done a) = refl
fed-ends d (refuse r) = refl
fed-ends d (ask s k) = on (d s) (λ b. fed-ends d (k b))
  where
    on : (x : Held) → ((b : List ℕ) → fed_times (length (asked d (k b))) d (k b) ≡ ended (outcome d (k b)))
        → fed_times (length (given x (λ b. asked d (k b)) [])) d (given x k (refuse Io)) ≡ ended (given x (λ b. outcome d (k b)) (refused Io))
    on (holds b) ih = ih b
    on lacks ih = refl

-- ---- one call behind two others: it doesn't matter which two are put together first
pub then-then : {A B C : Type 0} (m : Ask A) (f : A → Ask B) (g : B → Ask C) → then (then m f) g ≡ then m (λ a. then (f a) g)
unfolding then
then-then (done a) f g = refl
then-then (refuse r) f g = refl
then-then (ask s k) f g = ap (ask s) (fun_ext (λ b. then-then (k b) f g))

-- ---- a call behind another

-- a call whose answer is handed on is that call
pub then-done : {A : Type 0} (m : Ask A) → then m (λ a. done a) ≡ m
unfolding then
then-done (done a) = refl
then-done (refuse r) = refl
then-done (ask s k) = ap (ask s) (fun_ext (λ b. then-done (k b)))

pub then_same : {A B : Type 0} (m : Ask A) (f g : A → Ask B) → ((a : A) → f a ≡ g a) → then m f ≡ then m g
then_same m f g h = ap (then m) (fun_ext h)

-- its outcome goes by that of the first
pub outcome-then : {A B : Type 0} (d : Disc) (m : Ask A) (f : A → Ask B) → outcome d (then m f) ≡ and_then (outcome d m) (λ a. outcome d (f a))
unfolding outcome then
outcome-then d (done a) f = refl
outcome-then d (refuse r) f = refl
outcome-then {A} {B} d (ask s k) f = by (d s) (λ b. outcome-then d (k b) f)
  where
    by : (h : Held) → ((b : List ℕ) → outcome d (then (k b) f) ≡ and_then (outcome d (k b)) (λ a. outcome d (f a)))
        → given h (λ b. outcome d (then (k b) f)) (refused Io) ≡ and_then (given h (λ b. outcome d (k b)) (refused Io)) (λ a. outcome d (f a))
    by (holds b) ih = ih b
    by lacks ih = refl

-- ---- what is known without a question

pub outcome-ended : {A : Type 0} (d : Disc) (o : Outcome A) → outcome d (ended o) ≡ o
unfolding outcome
outcome-ended d (answered a) = refl
outcome-ended d (refused r) = refl

pub asked-ended : {A : Type 0} (d : Disc) (o : Outcome A) → asked d (ended o) ≡ []
unfolding asked
asked-ended d (answered a) = refl
asked-ended d (refused r) = refl

-- what follows without a question asks for nothing more
pub asked-known : {A B : Type 0} (d : Disc) (m : Ask A) (f : A → Outcome B) → asked d (then m (λ a. ended (f a))) ≡ asked d m
asked-known {A} {B} d m f = asked-then d m (λ a. ended (f a)) ∙ ap (λ l. asked d m ++ l) (by (outcome d m)) ∙ append-nil (asked d m)
  where
    by : (o : Outcome A) → asked_behind d o (λ a. ended (f a)) ≡ []
    by (answered a) = asked-ended d (f a)
    by (refused r) = refl

-- ---- the branch that a sector takes

pub given-asked : {A : Type 0} (d : Disc) (x : Held) (k : List ℕ → Ask A) → asked d (given x k (refuse Io)) ≡ given x (λ b. asked d (k b)) []
unfolding asked
given-asked d (holds b) k = refl
given-asked d lacks k = refl

pub given-outcome : {A : Type 0} (d : Disc) (x : Held) (k : List ℕ → Ask A) → outcome d (given x k (refuse Io)) ≡ given x (λ b. outcome d (k b)) (refused Io)
unfolding outcome
given-outcome d (holds b) k = refl
given-outcome d lacks k = refl

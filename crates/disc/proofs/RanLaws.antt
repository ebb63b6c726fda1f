-- Laws of a run, outcome and count together: what every loop's and every caller's proof cites. Assumes nothing.
use mathlib.Core.Path.{◌≡◌, refl, ◌∙◌}
use mathlib.Core.List.{List}
use Prim.Native.Nat.{ℕ, suc, ◌+◌}
use native.Mathlib.Nat.{zero-add, add-zero, add_assoc}
use native.Mathlib.Omega.{arith}
use lib.ListN.{length}
use Rattle.disc.specs.declared.refusals.Refusal.{Refusal}
use Rattle.disc.specs.declared.refusals.Refusal.TheVariants.{Io}
use Rattle.disc.specs.Ask.{Held, Disc, Ask, Outcome, outcome, asked, then, ended, and_then, Agree}
use Rattle.disc.specs.Ask.Held.{holds, lacks}
use Rattle.disc.specs.Ask.Ask.{done, refuse, ask}
use Rattle.disc.specs.Ask.Outcome.{answered, refused}
use Rattle.disc.specs.Ran.{Ran, ran, after, onward, followed, told}
use Rattle.disc.proofs.AskLaws.{same_outcome, same_asked}

module _ {A : Type 0} (d : Disc) where
  pub ran-done : (a : A) → ran d (done a) ≡ record { outcome = answered a; count = 0 }
  unfolding ran outcome asked
  ran-done a = refl

  pub ran-refuse : (r : Refusal) → ran {A = A} d (refuse r) ≡ record { outcome = refused r; count = 0 }
  unfolding ran outcome asked
  ran-refuse r = refl

  -- a sector that is there: one more on the count, and the tree goes on
  pub ran-there : (s : ℕ) (k : List ℕ → Ask A) (b : List ℕ) → d s ≡ holds b → ran d (ask s k) ≡ after 1 (ran d (k b))
  unfolding ran outcome asked
  ran-there s k b h = rw h (λ i. record { outcome = outcome d (k b); count = one-add (length (asked d (k b))) i })
    where
      one-add : (n : ℕ) → suc n ≡ 1 + n
      one-add n = omega arith

  -- one that isn't: refused, and it is counted
  pub ran-missing : (s : ℕ) (k : List ℕ → Ask A) → d s ≡ lacks → ran d (ask s k) ≡ record { outcome = refused Io; count = 1 }
  unfolding ran outcome asked
  ran-missing s k h = rw h

-- RULES 2.7, outcome and count together
pub same-ran : {A : Type 0} (m : Ask A) (d e : Disc) → Agree d e (asked d m) → ran d m ≡ ran e m
unfolding ran
same-ran m d e h = λ i. record { outcome = same_outcome m d e h i; count = length (same_asked m d e h i) }

then-step : {A B : Type 0} (d : Disc) (s : ℕ) (k : List ℕ → Ask A) (f : A → Ask B) (x : Held) → d s ≡ x
    → ((b : List ℕ) → ran d (then (k b) f) ≡ followed (ran d (k b)) (λ a. ran d (f a)))
    → ran d (ask s (λ b. then (k b) f)) ≡ followed (ran d (ask s k)) (λ a. ran d (f a))
then-step d s k f (holds b) h ih =
    rw (ran-there d s (λ y. then (k y) f) b h, ran-there d s k b h, ih b) (more (ran d (k b)).outcome (ran d (k b)).count (λ a. ran d (f a)))
  where
    more : {A B : Type 0} (o : Outcome A) (n : ℕ) (g : A → Ran B) → after 1 (onward o n g) ≡ onward o (1 + n) g
    more (answered a) n g = simp add_assoc
    more (refused r) n g = refl
then-step d s k f lacks h ih = rw (ran-missing d s (λ y. then (k y) f) h, ran-missing d s k h)

-- one call behind another: the run of the first, followed by that of the second, counts added
pub ran_then : {A B : Type 0} (d : Disc) (m : Ask A) (f : A → Ask B) → ran d (then m f) ≡ followed (ran d m) (λ a. ran d (f a))
unfolding then ran outcome asked
ran_then d (done a) f = simp zero-add
ran_then d (refuse r) f = refl
ran_then d (ask s k) f = then-step d s k f (d s) refl (λ b. ran_then d (k b) f)

-- an outcome that is known asks for nothing more
pub ran-ended : {A : Type 0} (d : Disc) (o : Outcome A) → ran d (ended o) ≡ told o
ran-ended d (answered a) = ran-done d a
ran-ended d (refused r) = ran-refuse d r

-- what is refused isn't answered
pub never : {A : Type 0} {B : Type 0} {b : B} {r : Refusal} → refused r ≡ answered b → A
never e = absurd (let z : ◌≡◌ {A = ℕ} 0 1 = cc in omega arith)

-- ---- what follows without a question

-- it asks for nothing more
pub ran-known : {A B : Type 0} (d : Disc) (m : Ask A) (f : A → Outcome B)
    → ran d (then m (λ a. ended (f a))) ≡ record { outcome = and_then (ran d m).outcome f; count = (ran d m).count }
ran-known {A} {B} d m f = ran_then d m (λ a. ended (f a)) ∙ by (ran d m).outcome (ran d m).count
  where
    by : (o : Outcome A) (n : ℕ) → onward o n (λ a. ran d (ended (f a))) ≡ record { outcome = and_then o f; count = n }
    by (answered a) n = rw (ran-ended d (f a), add-zero)
    by (refused r) n = refl

-- Which refusals a tree of questions can say by itself, and so which it can come to. One that never says `Io` by itself comes to it exactly when a
-- sector of its list isn't wholly inside the image. Assumes nothing.
use Rattle.std.specs.Prelude.{Option, Some, None}
use mathlib.Core.Path.{◌≡◌, refl}
use mathlib.Core.Bool.{Bool, true, false, ◌||◌}
use mathlib.Core.List.{List, [], ◌∷◌, ◌++◌}
use mathlib.Core.Logic.{⊎_elim}
use Prim.Native.Nat.{ℕ, ◌+◌, ◌*◌, ◌≤◌, ◌<◌}
use native.Mathlib.Omega.{arith}
use lib.ListN.{length}
use lib.Dec.{ltb}
use borrow.Author.Tests.{ne_eqb, lt-ltb, le-ltb}
use Rattle.disc.specs.Choice.{pick}
use Rattle.disc.specs.Refusals.{number}
use Rattle.disc.specs.Ask.{Disc, Held, Ask, outcome, asked, then, given}
use Rattle.disc.specs.Ask.Held.{holds, lacks}
use Rattle.disc.specs.Ask.Ask.{done, refuse, ask}
use Rattle.disc.specs.Ask.Outcome.{answered, refused}
use Rattle.disc.specs.Images.{disc}
use Rattle.disc.specs.Places.{standing}
use Rattle.disc.specs.declared.refusals.Refusal.{Refusal}
use Rattle.disc.specs.declared.refusals.Refusal.TheVariants.{Io, Unsupported}
use Rattle.disc.proofs.ImageLaws.{split, held, missing}
use Rattle.disc.proofs.RanLaws.{never}
use Rattle.disc.specs.Refusing.{Only, Refuses, Within, Any, is_io, ButIo}
use Rattle.disc.specs.Lists.{any_missing}

-- ---- a tree that refuses by P alone, and answers with what is Q

only-within : {A : Type 0} (P : Refusal → Type 0) (Q : A → Type 0) → P Io → (d : Disc) (m : Ask A) → Only P Q m → Within P (outcome d m)
unfolding Only Within outcome
only-within P Q io d (done a) p = tt
only-within P Q io d (refuse r) p = p
only-within P Q io d (ask s k) p = by (d s) (λ b. only-within P Q io d (k b) (p b))
  where
    by : (h : Held) → ((b : List ℕ) → Within P (outcome d (k b))) → Within P (given h (λ b. outcome d (k b)) (refused Io))
    by (holds b) f = f b
    by lacks f = io

pub refuses-within : {A : Type 0} (P : Refusal → Type 0) {Q : A → Type 0} → P Io → (d : Disc) {m : Ask A} → Refuses P Q m → Within P (outcome d m)
refuses-within P {Q} io d {m} p = only-within P Q io d m p.only

-- ---- the forms that trees are made of

pub only_then : {A B : Type 0} (P : Refusal → Type 0) (Q : A → Type 0) (R : B → Type 0) (m : Ask A) (f : A → Ask B) → Only P Q m → ((a : A) → Q a → Only P R (f a)) → Only P R (then m f)
unfolding Only then
only_then P Q R (done a) f p q = q a p
only_then P Q R (refuse r) f p q = p
only_then P Q R (ask s k) f p q = λ b. only_then P Q R (k b) f (p b) q

module _ {A : Type 0} {P : Refusal → Type 0} {Q : A → Type 0} where
  pub done-only : {a : A} → Q a → Refuses P Q (done a)
  unfolding Only
  done-only q = record { only = q }

  pub refuse-only : {r : Refusal} → P r → Refuses P Q (refuse r)
  unfolding Only
  refuse-only p = record { only = p }

  pub ask-only : {s : ℕ} {k : List ℕ → Ask A} → ((b : List ℕ) → Refuses P Q (k b)) → Refuses P Q (ask s k)
  unfolding Only
  ask-only f = record { only = λ b. (f b).only }

  pub pick-only : (t : Bool) {m n : Ask A} → Refuses P Q m → Refuses P Q n → Refuses P Q (pick t m n)
  pick-only true p q = p
  pick-only false p q = q

  pub then-only : {B : Type 0} {R : B → Type 0} {m : Ask A} {f : A → Ask B} → Refuses P Q m → ((a : A) → Q a → Refuses P R (f a)) → Refuses P R (then m f)
  then-only {R = R} {m} {f} p q = record { only = only_then P Q R m f p.only (λ a h. (q a h).only) }

-- ---- refused by 1 exactly when a sector of the list isn't there

-- a block that may stand nowhere on the volume, for any P that has 4
pub standing-only : {A : Type 0} (P : Refusal → Type 0) → P Unsupported → {Q : A → Type 0} (o : Option ℕ) {f : ℕ → Ask A} → ((s : ℕ) → Refuses P Q (f s)) → Refuses P Q (standing o f)
standing-only P unsupported None h = refuse-only unsupported
standing-only P unsupported (Some s) h = h s

only-missing : {A : Type 0} (Q : A → Type 0) (image : List ℕ) (m : Ask A) → Only ButIo Q m → is_io (outcome (disc image) m) ≡ any_missing image (asked (disc image) m)
unfolding Only outcome asked any_missing
only-missing Q image (done a) p = refl
only-missing Q image (refuse r) p = ne_eqb (number r) 1 p
only-missing Q image (ask s k) p = ⊎_elim
    (λ (h : 2048 * s + 2048 ≤ length image). rw (held image s h, le-ltb (length image) (2048 * (s + 1)) (omega arith)) (only-missing Q image (k _) (p _)))
    (λ (h : length image < 2048 * s + 2048). rw (missing image s h, lt-ltb (length image) (2048 * (s + 1)) (omega arith)))
    (split (2048 * s + 2048) (length image))

pub refused-missing : {A : Type 0} {Q : A → Type 0} (image : List ℕ) {m : Ask A} → Refuses ButIo Q m → is_io (outcome (disc image) m) ≡ any_missing image (asked (disc image) m)
refused-missing {Q = Q} image {m} p = only-missing Q image m p.only

-- ---- weaker facts, and what is answered

pub only-weaker : {A : Type 0} {P Q : Refusal → Type 0} → ((why : Refusal) → P why → Q why) → (m : Ask A) → Only P Any m → Only Q Any m
unfolding Only
only-weaker h (done a) p = tt
only-weaker h (refuse r) p = h r p
only-weaker h (ask s k) p = λ b. only-weaker h (k b) (p b)

-- a tree that answers with what is Q does so on every disc
pub only-answers : {A : Type 0} {P : Refusal → Type 0} {Q : A → Type 0} (d : Disc) {m : Ask A} → Refuses P Q m → {a : A} → outcome d m ≡ answered a → Q a
unfolding Only outcome
only-answers {A} {P} {Q} d {m} r e = by m r.only e
  where
    by : (m : Ask A) → Only P Q m → {a : A} → outcome d m ≡ answered a → Q a
    by (done x) p {a} e = let z : x ≡ a = cc in rw z at p
    by (refuse why) p e = never e
    by (ask s k) p {a} e = held (d s) (λ b q. by (k b) (p b) q) e
      where
        held : (x : Held) → ((b : List ℕ) → outcome d (k b) ≡ answered a → Q a) → given x (λ b. outcome d (k b)) (refused Io) ≡ answered a → Q a
        held (holds b) ih q = ih b q
        held lacks ih q = never q

-- ---- lists joined

pub missing-joined : (image a b : List ℕ) → any_missing image (a ++ b) ≡ (any_missing image a || any_missing image b)
unfolding any_missing
missing-joined image [] b = refl
missing-joined image (s ∷ a) b = by (ltb (length image) _) (any_missing image (a ++ b)) (any_missing image a) (any_missing image b) (missing-joined image a b)
  where
    by : (t x y z : Bool) → x ≡ (y || z) → (t || x) ≡ ((t || y) || z)
    by true x y z e = refl
    by false x y z e = e

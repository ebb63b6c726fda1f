-- What a tree of questions answers with where the sectors that it is given are bytes. Assumes nothing.
use mathlib.Core.Path.{◌≡◌, refl}
use mathlib.Core.Bool.{Bool, true, false}
use mathlib.Core.List.{List}
use Prim.Native.Nat.{ℕ, ◌*◌}
use native.Mathlib.Omega.{arith}
use lib.ListN.{take, drop}
use Rattle.disc.specs.Choice.{pick}
use Rattle.disc.specs.Ask.{Disc, Held, Ask, outcome, then, given}
use Rattle.disc.specs.Ask.Held.{holds, lacks}
use Rattle.disc.specs.Ask.Ask.{done, refuse, ask}
use Rattle.disc.specs.Ask.Outcome.{answered, refused}
use Rattle.disc.specs.Images.{there, disc}
use Rattle.disc.specs.declared.refusals.Refusal.TheVariants.{Io}
use Rattle.disc.proofs.ByteLaws.{bytes-taken, bytes-dropped}
use Rattle.disc.proofs.RanLaws.{never}
use Rattle.disc.specs.Parts.{Bytes}

-- those of an image that is bytes are
pub sector-bytes : (image : List ℕ) → Bytes image → (s : ℕ) (b : List ℕ) → disc image s ≡ holds b → Bytes b
unfolding disc
sector-bytes image h s b = by (there image s)
  where
    by : (t : Bool) → pick t (holds (take 2048 (drop (2048 * s) image))) lacks ≡ holds b → Bytes b
    by true e = let z : take 2048 (drop (2048 * s) image) ≡ b = cc in rw z at (bytes-taken 2048 (drop (2048 * s) image) (bytes-dropped (2048 * s) image h))
    by false e = absurd (let z : ◌≡◌ {A = ℕ} 0 1 = cc in omega arith)

-- ---- a tree that answers with what is Q, where the sectors that it is given are bytes

unfoldable pub Gives : {A : Type 0} → (A → Type 0) → Ask A → Type 0
Gives Q (done a) = Q a
Gives Q (refuse r) = Unit {0}
Gives Q (ask s k) = (b : List ℕ) → Bytes b → Gives Q (k b)

pub gives_then : {A B : Type 0} (Q : A → Type 0) (R : B → Type 0) (m : Ask A) (f : A → Ask B) → Gives Q m → ((a : A) → Q a → Gives R (f a)) → Gives R (then m f)
unfolding Gives then
gives_then Q R (done a) f p q = q a p
gives_then Q R (refuse r) f p q = tt
gives_then Q R (ask s k) f p q = λ b h. gives_then Q R (k b) f (p b h) q

pub gives-any : {A : Type 0} (m : Ask A) → Gives (λ a. Unit {0}) m
unfolding Gives
gives-any (done a) = tt
gives-any (refuse r) = tt
gives-any (ask s k) = λ b h. gives-any (k b)

pub gives-pick : {A : Type 0} (Q : A → Type 0) (t : Bool) (m n : Ask A) → Gives Q m → Gives Q n → Gives Q (pick t m n)
gives-pick Q true m n p q = p
gives-pick Q false m n p q = q

pub gives-outcome : {A : Type 0} (Q : A → Type 0) (d : Disc) → ((s : ℕ) (b : List ℕ) → d s ≡ holds b → Bytes b) → (m : Ask A) → Gives Q m → {a : A} → outcome d m ≡ answered a → Q a
unfolding Gives outcome
gives-outcome Q d h (done x) p {a} e = let z : x ≡ a = cc in rw z at p
gives-outcome Q d h (refuse r) p e = never e
gives-outcome Q d h (ask s k) p {a} e = by (d s) refl (λ b q. gives-outcome Q d h (k b) (p b q)) e
  where
    by : (x : Held) → d s ≡ x → ((b : List ℕ) → Bytes b → outcome d (k b) ≡ answered a → Q a) → given x (λ b. outcome d (k b)) (refused Io) ≡ answered a → Q a
    by (holds b) q ih e = ih b (h s b q) e
    by lacks q ih e = never e

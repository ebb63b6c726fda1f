-- A call and the same call with the bodies of its descriptors checked: both are one tree in which it is marked where a descriptor is parsed. So the
-- second is refused by 10 exactly when a descriptor that the first parses has a wrong body, and is the first wherever it isn't. Assumes nothing.
use mathlib.Core.Path.{◌≡◌, refl, ap, sym, ◌∙◌, fun_ext}
use mathlib.Core.Bool.{Bool, true, false, not, ◌||◌}
use mathlib.Core.List.{List, [], ◌∷◌, ◌++◌}
use Prim.Native.Nat.{ℕ}
use native.Mathlib.Omega.{arith}
use borrow.Author.Tests.{ne_eqb}
use Rattle.disc.specs.Choice.{pick}
use Rattle.disc.specs.Refusals.{number}
use Rattle.disc.specs.Ask.{Disc, Held, Ask, Outcome, outcome, asked, then, given, ended, and_then}
use Rattle.disc.specs.Ask.Held.{holds, lacks}
use Rattle.disc.specs.Ask.Ask.{done, refuse, ask}
use Rattle.disc.specs.Ask.Outcome.{answered, refused}
use Rattle.disc.specs.declared.refusals.Refusal.{Refusal}
use Rattle.disc.specs.declared.refusals.Refusal.TheVariants.{Io, BadCrc}
use Rattle.disc.specs.Refusing.{Only, Refuses}
use Rattle.disc.specs.Marks.{ButBad, Marked, plain, guarded, parsed, any_wrong, is_bad, Front, Guards}
use Rattle.disc.specs.Marks.Marked.{answers, refuses, asks, parses}

-- ---- a call in which it is marked where a descriptor is parsed: the bytes at hand begin with it, and its tag is accepted

-- ---- what both come to on a disc

module _ {A : Type 0} (right : List ℕ → Bool) (d : Disc) where
  -- 10 exactly when a descriptor that is parsed has a wrong body
  pub bad-exactly : (m : Marked A) → is_bad (outcome d (guarded right m)) ≡ any_wrong right (parsed d m)
  unfolding outcome guarded parsed any_wrong
  bad-exactly (answers a) = refl
  bad-exactly (refuses why n) = ne_eqb (number why) 10 n
  bad-exactly (asks s k) = by (d s) (λ b. bad-exactly (k b))
    where
      by : (h : Held) → ((b : List ℕ) → is_bad (outcome d (guarded right (k b))) ≡ any_wrong right (parsed d (k b)))
          → is_bad (given h (λ b. outcome d (guarded right (k b))) (refused Io)) ≡ any_wrong right (given h (λ b. parsed d (k b)) [])
      by (holds b) f = f b
      by lacks f = refl
  bad-exactly (parses s m) = by (right s) (bad-exactly m)
    where
      by : (t : Bool) → is_bad (outcome d (guarded right m)) ≡ any_wrong right (parsed d m)
          → is_bad (outcome d (pick t (guarded right m) (refuse BadCrc))) ≡ (not t || any_wrong right (parsed d m))
      by true h = h
      by false h = refl

  -- where none has, the outcome and the list are the same
  pub right-outcome : (m : Marked A) → any_wrong right (parsed d m) ≡ false → outcome d (guarded right m) ≡ outcome d (plain m)
  unfolding outcome guarded parsed any_wrong plain
  right-outcome (answers a) e = refl
  right-outcome (refuses why n) e = refl
  right-outcome (asks s k) e = by (d s) (λ b. right-outcome (k b)) e
    where
      by : (h : Held) → ((b : List ℕ) → any_wrong right (parsed d (k b)) ≡ false → outcome d (guarded right (k b)) ≡ outcome d (plain (k b)))
          → any_wrong right (given h (λ b. parsed d (k b)) []) ≡ false
          → given h (λ b. outcome d (guarded right (k b))) (refused Io) ≡ given h (λ b. outcome d (plain (k b))) (refused Io)
      by (holds b) g f = g b f
      by lacks g f = refl
  right-outcome (parses s m) e = by (right s) (right-outcome m) e
    where
      by : (t : Bool) → (any_wrong right (parsed d m) ≡ false → outcome d (guarded right m) ≡ outcome d (plain m))
          → (not t || any_wrong right (parsed d m)) ≡ false → outcome d (pick t (guarded right m) (refuse BadCrc)) ≡ outcome d (plain m)
      by true g f = g f
      by false g f = absurd (let z : ◌≡◌ {A = ℕ} 0 1 = cc in omega arith)

  pub right-asked : (m : Marked A) → any_wrong right (parsed d m) ≡ false → asked d (guarded right m) ≡ asked d (plain m)
  unfolding asked guarded parsed any_wrong plain
  right-asked (answers a) e = refl
  right-asked (refuses why n) e = refl
  right-asked (asks s k) e = ap (λ l. s ∷ l) (by (d s) (λ b. right-asked (k b)) e)
    where
      by : (h : Held) → ((b : List ℕ) → any_wrong right (parsed d (k b)) ≡ false → asked d (guarded right (k b)) ≡ asked d (plain (k b)))
          → any_wrong right (given h (λ b. parsed d (k b)) []) ≡ false
          → given h (λ b. asked d (guarded right (k b))) [] ≡ given h (λ b. asked d (plain (k b))) []
      by (holds b) g f = g b f
      by lacks g f = refl
  right-asked (parses s m) e = by (right s) (right-asked m) e
    where
      by : (t : Bool) → (any_wrong right (parsed d m) ≡ false → asked d (guarded right m) ≡ asked d (plain m))
          → (not t || any_wrong right (parsed d m)) ≡ false → asked d (pick t (guarded right m) (refuse BadCrc)) ≡ asked d (plain m)
      by true g f = g f
      by false g f = absurd (let z : ◌≡◌ {A = ℕ} 0 1 = cc in omega arith)

  -- where one has, the list is a front of the other's
  pub guarded-front : (m : Marked A) → Front (asked d (guarded right m)) (asked d (plain m))
  unfolding asked guarded plain
  guarded-front (answers a) = record { rest = []; is = refl }
  guarded-front (refuses why n) = record { rest = []; is = refl }
  guarded-front (asks s k) = by (d s) (λ b. guarded-front (k b))
    where
      by : (h : Held) → ((b : List ℕ) → Front (asked d (guarded right (k b))) (asked d (plain (k b))))
          → Front (s ∷ given h (λ b. asked d (guarded right (k b))) []) (s ∷ given h (λ b. asked d (plain (k b))) [])
      by (holds b) f = record { rest = (f b).rest; is = ap (λ l. s ∷ l) (f b).is }
      by lacks f = record { rest = []; is = refl }
  guarded-front (parses s m) = by (right s) (guarded-front m)
    where
      by : (t : Bool) → Front (asked d (guarded right m)) (asked d (plain m)) → Front (asked d (pick t (guarded right m) (refuse BadCrc))) (asked d (plain m))
      by true f = f
      by false f = record { rest = asked d (plain m); is = refl }

-- ---- two calls of which the first is the second with bodies checked

then_marked : {A B : Type 0} → Marked A → (A → Marked B) → Marked B
then_marked (answers a) f = f a
then_marked (refuses why n) f = refuses why n
then_marked (asks s k) f = asks s (λ b. then_marked (k b) f)
then_marked (parses s m) f = parses s (then_marked m f)

then-guarded : {A B : Type 0} (right : List ℕ → Bool) (m : Marked A) (f : A → Marked B) → guarded right (then_marked m f) ≡ then (guarded right m) (λ a. guarded right (f a))
unfolding guarded then then_marked
then-guarded right (answers a) f = refl
then-guarded right (refuses why n) f = refl
then-guarded right (asks s k) f = ap (ask s) (fun_ext (λ b. then-guarded right (k b) f))
then-guarded right (parses s m) f = by (right s) (then-guarded right m f)
  where
    by : (t : Bool) → guarded right (then_marked m f) ≡ then (guarded right m) (λ a. guarded right (f a))
        → pick t (guarded right (then_marked m f)) (refuse BadCrc) ≡ then (pick t (guarded right m) (refuse BadCrc)) (λ a. guarded right (f a))
    by true h = h
    by false h = refl

then-plain : {A B : Type 0} (m : Marked A) (f : A → Marked B) → plain (then_marked m f) ≡ then (plain m) (λ a. plain (f a))
unfolding plain then then_marked
then-plain (answers a) f = refl
then-plain (refuses why n) f = refl
then-plain (asks s k) f = ap (ask s) (fun_ext (λ b. then-plain (k b) f))
then-plain (parses s m) f = then-plain m f

module _ {A : Type 0} {right : List ℕ → Bool} where
  pub done-guards : (a : A) → Guards right (done a) (done a)
  unfolding guarded plain
  done-guards a = record { tree = answers a; checks = refl; plains = refl }

  pub refuse-guards : (why : Refusal) → ButBad why → Guards {A = A} right (refuse why) (refuse why)
  unfolding guarded plain
  refuse-guards why n = record { tree = refuses why n; checks = refl; plains = refl }

  pub ask-guards : (s : ℕ) {k l : List ℕ → Ask A} → ((b : List ℕ) → Guards right (k b) (l b)) → Guards right (ask s k) (ask s l)
  unfolding guarded plain
  ask-guards s f = record { tree = asks s (λ b. (f b).tree); checks = ap (ask s) (fun_ext (λ b. (f b).checks)); plains = ap (ask s) (fun_ext (λ b. (f b).plains)) }

  pub pick-guards : (t : Bool) {m n m' n' : Ask A} → Guards right m m' → Guards right n n' → Guards right (pick t m n) (pick t m' n')
  pick-guards true p q = p
  pick-guards false p q = q

  pub then-guards : {B : Type 0} {m m' : Ask A} {f f' : A → Ask B} → Guards right m m' → ((a : A) → Guards right (f a) (f' a)) → Guards right (then m f) (then m' f')
  then-guards {m = m} {m'} {f} {f'} p q =
      record {
        tree = then_marked p.tree (λ a. (q a).tree);
        checks = then-guarded right p.tree (λ a. (q a).tree) ∙ ap (λ x. then x (λ a. guarded right (q a).tree)) p.checks ∙ ap (then m) (fun_ext (λ a. (q a).checks));
        plains = then-plain p.tree (λ a. (q a).tree) ∙ ap (λ x. then x (λ a. plain (q a).tree)) p.plains ∙ ap (then m') (fun_ext (λ a. (q a).plains));
      }

  -- a descriptor is parsed, and the call goes on if its body is right
  pub parse-guards : (s : List ℕ) {m n : Ask A} → Guards right m n → Guards right (pick (right s) m (refuse BadCrc)) n
  unfolding guarded plain
  parse-guards s p = record { tree = parses s p.tree; checks = ap (λ x. pick (right s) x (refuse BadCrc)) p.checks; plains = p.plains }

  -- a call that parses no descriptor, and says no 10
  only-guards : (Q : A → Type 0) (m : Ask A) → Only ButBad Q m → Guards right m m
  unfolding Only
  only-guards Q (done a) p = done-guards a
  only-guards Q (refuse why) p = refuse-guards why p
  only-guards Q (ask s k) p = ask-guards s (λ b. only-guards Q (k b) (p b))

  pub same-guards : {Q : A → Type 0} {m : Ask A} → Refuses ButBad Q m → Guards right m m
  same-guards {Q} {m} p = only-guards Q m p.only

-- what it comes to, for the calls above
module _ {A : Type 0} {right : List ℕ → Bool} {m n : Ask A} (g : Guards right m n) (d : Disc) where
  -- 10 exactly when a descriptor that the second parses has a wrong body
  pub guards-bad : is_bad (outcome d m) ≡ any_wrong right (parsed d g.tree)
  guards-bad = ap (λ x. is_bad (outcome d x)) (sym g.checks) ∙ bad-exactly right d g.tree

  -- and where the first isn't refused by 10, both come to the same after the same sectors
  pub guards-outcome : is_bad (outcome d m) ≡ false → outcome d m ≡ outcome d n
  guards-outcome e = ap (outcome d) (sym g.checks) ∙ right-outcome right d g.tree (sym guards-bad ∙ e) ∙ ap (outcome d) g.plains

  pub guards-asked : is_bad (outcome d m) ≡ false → asked d m ≡ asked d n
  guards-asked e = ap (asked d) (sym g.checks) ∙ right-asked right d g.tree (sym guards-bad ∙ e) ∙ ap (asked d) g.plains

  -- the first's list is a front of the second's
  pub guards-front : Front (asked d m) (asked d n)
  guards-front =
      let f = guarded-front right d g.tree in
      record { rest = f.rest; is = ap (asked d) (sym g.plains) ∙ f.is ∙ ap (λ x. asked d x ++ f.rest) g.checks }

-- ---- what is known without a question

-- it parses nothing, and is refused by no 10
pub known-guards : {A : Type 0} {right : List ℕ → Bool} (o : Outcome A) → ((why : Refusal) → o ≡ refused why → ButBad why) → Guards right (ended o) (ended o)
known-guards (answered a) n = done-guards a
known-guards (refused why) n = refuse-guards why (n why refl)

-- one outcome behind another is a call behind another
ended-then : {A B : Type 0} (o : Outcome A) (f : A → Outcome B) → ended (and_then o f) ≡ then (ended o) (λ a. ended (f a))
unfolding then
ended-then (answered a) f = refl
ended-then (refused why) f = refl

pub and-guards : {A B : Type 0} {right : List ℕ → Bool} (o o' : Outcome A) (f f' : A → Outcome B) → Guards right (ended o) (ended o')
    → ((a : A) → Guards right (ended (f a)) (ended (f' a))) → Guards right (ended (and_then o f)) (ended (and_then o' f'))
and-guards o o' f f' p q = rw (ended-then o f, ended-then o' f') (then-guards p q)

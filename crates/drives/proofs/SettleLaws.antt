-- Laws of what arrives before the next sector is wanted, and of calls whose sectors name extents. Assumes nothing.
use mathlib.Core.Path.{◌≡◌, refl, ap, ◌∙◌, fun_ext}
use mathlib.Core.Bool.{Bool, true, false, ◌||◌}
use mathlib.Core.List.{List, ◌++◌}
use Prim.Native.Nat.{ℕ, ◌+◌, ◌-◌}
use lib.ListN.{length, take}
use lib.Dec.{ltb, leb}
use Rattle.disc.specs.Choice.{pick}
use Rattle.disc.specs.Ask.{Ask, then}
use Rattle.disc.specs.Ask.Ask.{done, refuse, ask}
use Rattle.disc.specs.declared.refusals.Refusal.TheVariants.{Malformed, BadCrc, NoRoom}
use Rattle.drives.specs.Feeds.{Feed, following, naming, crowded, crowded_by, settled_behind, settled_in, Grown, first_of, behind_first, within}
use Rattle.drives.specs.Feeds.Feed.{over, stop, name, hold, put, want}
use Rattle.drives.specs.Inner.Turns.{quiet}

-- ---- a sector is wanted

unfoldable pub IsWant : Feed → Type 0
IsWant over = ⊥
IsWant (stop r) = ⊥
IsWant (name n f) = ⊥
IsWant (hold n f) = ⊥
IsWant (put b f) = ⊥
IsWant (want s k) = Unit {0}

pub want-quiet : (slots room : ℕ) (f : Feed) → IsWant f → settled_in false slots room f ≡ quiet f
unfolding IsWant settled_in
want-quiet slots room over h = absurd h
want-quiet slots room (stop r) h = absurd h
want-quiet slots room (name n f) h = absurd h
want-quiet slots room (hold n f) h = absurd h
want-quiet slots room (put b f) h = absurd h
want-quiet slots room (want s k) h = refl

pub crowded-wants : (b : Bool) (f : Feed) → IsWant f → IsWant (pick b (crowded f) f)
unfolding IsWant crowded
crowded-wants false f h = h
crowded-wants true over h = absurd h
crowded-wants true (stop r) h = absurd h
crowded-wants true (name n f) h = absurd h
crowded-wants true (hold n f) h = absurd h
crowded-wants true (put b f) h = absurd h
crowded-wants true (want s k) h = tt

-- ---- an extent was lost

pub settled-lost : (slots room : ℕ) (f : Feed) → settled_in true slots room f ≡ settled_in false slots room (crowded f)
unfolding settled_in crowded
settled-lost slots room over = refl
settled-lost slots room (stop r) = refl
settled-lost slots room (name k f) = settled-lost slots room f
settled-lost slots room (hold k f) = refl
settled-lost slots room (put b f) = ap (λ x. pick (leb (length b) room) (settled_behind b x) (record { bytes = take room b; rest = stop NoRoom })) (settled-lost slots (room - length b) f)
settled-lost slots room (want s k) = refl

-- the same of the whole read, as its memory grows
pub within-lost : (slots room : ℕ) (gs : List Grown) (f : Feed) → within true slots room gs f ≡ within false slots room gs (crowded f)
unfolding within crowded
within-lost slots room gs over = refl
within-lost slots room gs (stop r) = refl
within-lost slots room gs (name k f) = within-lost slots room gs f
within-lost slots room gs (hold k f) = refl
within-lost slots room gs (put b f) = ap (λ x. pick (leb (length b) room) (put b x) (put (take room b) (stop NoRoom))) (within-lost slots (room - length b) gs f)
within-lost slots room gs (want s k) = ap (want s) (fun_ext (λ b. within-lost (slots + (first_of gs).slots) (room + (first_of gs).room) (behind_first gs) (k b)))

-- ---- a call whose sectors name extents

pub naming-then : {A B : Type 0} (named : List ℕ → ℕ) (t : Ask A) (g : A → Ask B) (f : B → Feed) → ((n : List ℕ → ℕ) (a : A) → naming n (g a) f ≡ following (g a) f)
    → naming named (then t g) f ≡ naming named t (λ a. following (g a) f)
unfolding naming then
naming-then named (done a) g f h = h named a
naming-then named (refuse r) g f h = refl
naming-then named (ask s k) g f h = ap (want s) (fun_ext (λ b. ap (name (named b)) (naming-then (λ more. named (b ++ more)) (k b) g f h)))

pub naming-same : {A : Type 0} (m n : List ℕ → ℕ) (t : Ask A) (f g : A → Feed) → ((s : List ℕ) → m s ≡ n s) → ((a : A) → f a ≡ g a) → naming m t f ≡ naming n t g
naming-same m n t f g h k = λ i. naming (fun_ext h i) t (fun_ext k i)

-- where an extent was lost, how many were named is of no account
pub naming-crowded : {A : Type 0} (m n : List ℕ → ℕ) (t : Ask A) (f g : A → Feed) → ((a : A) → crowded (f a) ≡ crowded (g a)) → crowded (naming m t f) ≡ crowded (naming n t g)
unfolding naming crowded
naming-crowded m n (done a) f g h = h a
naming-crowded m n (refuse r) f g h = refl
naming-crowded m n (ask s k) f g h = ap (want s) (fun_ext (λ b. naming-crowded (λ more. m (b ++ more)) (λ more. n (b ++ more)) (k b) f g h))

-- ---- behind a sector by which so many extents are named, with one lost already or not: what follows is the same where both say the same of it

pub named-same : {A : Type 0} (slots room n : ℕ) (m m' : List ℕ → ℕ) (t : Ask A) (f f' : A → Feed) (full full' : Bool)
    → full' ≡ (full || ltb slots n)
    → ((a : A) → crowded (f a) ≡ crowded (f' a)) → (full' ≡ false → (s : List ℕ) → m s ≡ m' s) → (full' ≡ false → (a : A) → f a ≡ f' a)
    → settled_in false slots room (crowded_by full (name n (naming m t f))) ≡ settled_in false slots room (crowded_by full' (naming m' t f'))
unfolding settled_in crowded
named-same slots room n m m' t f f' true full' e c h k = rw e (ap (settled_in false slots room) (naming-crowded m m' t f f' c))
named-same slots room n m m' t f f' false full' e c h k = by (ltb slots n) refl e
  where
    by : (b : Bool) → ltb slots n ≡ b → full' ≡ b → settled_in (ltb slots n) slots room (naming m t f) ≡ settled_in false slots room (crowded_by full' (naming m' t f'))
    by true q e = rw (q, e) (settled-lost slots room (naming m t f) ∙ ap (settled_in false slots room) (naming-crowded m m' t f f' c))
    by false q e = rw (q, e) (ap (settled_in false slots room) (naming-same m m' t f f' (h e) (k e)))

-- ---- the verdict on a header

pub headed-ap : {X : Type 0} (g : Feed → X) (t w h : Bool) (f f' : Feed) → g f ≡ g f'
    → g (pick t (pick w (stop BadCrc) (pick h f (stop Malformed))) (stop Malformed)) ≡ g (pick t (pick w (stop BadCrc) (pick h f' (stop Malformed))) (stop Malformed))
headed-ap g false w h f f' e = refl
headed-ap g true true h f f' e = refl
headed-ap g true false false f f' e = refl
headed-ap g true false true f f' e = e

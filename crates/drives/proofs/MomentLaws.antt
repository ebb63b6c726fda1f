-- Laws of the sectors that a read passes before it holds its extents, as lent memory grows: those of a call that brings no byte. Assumes nothing.
use mathlib.Core.Path.{◌≡◌, refl, ap, sym, ◌∙◌}
use mathlib.Core.Bool.{Bool, true, false, ◌||◌}
use mathlib.Core.List.{List, [], ◌∷◌, ◌++◌, append_assoc}
use mathlib.Core.Logic.{◌⊎◌, inl, inr, ⊎_elim}
use Prim.Native.Nat.{ℕ, zero, suc, ◌+◌, ◌-◌, ◌<◌, ◌≤◌, max}
use native.Mathlib.Nat.{add-zero, zero-add, add_assoc, sub-zero}
use native.Mathlib.Omega.{arith}
use lib.ListN.{length, take, replicate}
use lib.Dec.{ltb}
use borrow.Author.Tests.{ltb-true}
use Rattle.disc.specs.Ask.{Disc, Held, Ask, given, outcome, asked}
use Rattle.disc.specs.Ask.Held.{holds, lacks}
use Rattle.disc.specs.Ask.Ask.{done, refuse, ask}
use Rattle.disc.specs.Ask.Outcome.{answered, refused}
use Rattle.disc.specs.declared.refusals.Refusal.{Refusal}
use Rattle.disc.specs.declared.refusals.Refusal.TheVariants.{Io}
use Rattle.disc.proofs.RanLaws.{never}
use Rattle.drives.specs.Feeds.{Feed, following, naming, Grown, first_of, behind_first, within, wanted, held_most, Short, short_of}
use Rattle.drives.specs.Feeds.Feed.{name, want}
use Rattle.drives.specs.Feeds.Short.{enough}
use Rattle.drives.specs.Moments.{slots_by, room_by, brought, FullAt}

-- ---- memory that grows

-- what is yet to grow behind n steps
unfoldable pub later : ℕ → List Grown → List Grown
later zero gs = gs
later (suc n) gs = later n (behind_first gs)

pub slots-none : (n : ℕ) → slots_by n [] ≡ 0
unfolding slots_by
slots-none zero = refl
slots-none (suc n) = rw (zero-add (slots_by n [])) (slots-none n)

pub room-none : (n : ℕ) → room_by n [] ≡ 0
unfolding room_by
room-none zero = refl
room-none (suc n) = rw (zero-add (room_by n [])) (room-none n)

pub slots-add : (a b : ℕ) (gs : List Grown) → slots_by (a + b) gs ≡ slots_by a gs + slots_by b (later a gs)
unfolding slots_by later
slots-add zero b gs = rw (zero-add b, zero-add (slots_by b gs))
slots-add (suc a) b gs =
    let z : suc a + b ≡ suc (a + b) = omega arith in
    rw (z, slots-add a b (behind_first gs)) (sym (add_assoc (first_of gs).slots (slots_by a (behind_first gs)) (slots_by b (later a (behind_first gs)))))

pub room-add : (a b : ℕ) (gs : List Grown) → room_by (a + b) gs ≡ room_by a gs + room_by b (later a gs)
unfolding room_by later
room-add zero b gs = rw (zero-add b, zero-add (room_by b gs))
room-add (suc a) b gs =
    let z : suc a + b ≡ suc (a + b) = omega arith in
    rw (z, room-add a b (behind_first gs)) (sym (add_assoc (first_of gs).room (room_by a (behind_first gs)) (room_by b (later a (behind_first gs)))))

-- ---- a call in front of a read

-- the bytes of the sectors that a call is given, joined
unfoldable pub path_of : {A : Type 0} → Disc → Ask A → List ℕ
path_of d (done a) = []
path_of d (refuse r) = []
path_of d (ask s k) = given (d s) (λ b. b ++ path_of d (k b)) []

-- g wants the sectors ws and then is f, in what memory has grown to; an extent was lost meanwhile only where there were fewer than n slots
pub record Passes (d : Disc) (n : ℕ) (lost : Bool) (slots room : ℕ) (gs : List Grown) (g : Feed) (ws : List ℕ) (f : Feed) : Type 0 where
  pub lost' : Bool
  pub short : short_of d lost slots room gs g ≡ short_of d lost' (slots + slots_by (length ws) gs) (room + room_by (length ws) gs) (later (length ws) gs) f
  pub list : wanted d (within lost slots room gs g) ≡ ws ++ wanted d (within lost' (slots + slots_by (length ws) gs) (room + room_by (length ws) gs) (later (length ws) gs) f)
  pub losing : lost' ≡ true → (lost ≡ true) ⊎ (slots < n)

-- of the extents that it holds
pub record Names (d : Disc) (n h : ℕ) (g f : Feed) : Type 0 where
  pub most : ℕ
  pub same : held_most h d g ≡ held_most most d f
  pub below : most ≤ max h n

passes_none : (d : Disc) (n : ℕ) (lost : Bool) (slots room : ℕ) (gs : List Grown) (f : Feed) → Passes d n lost slots room gs f [] f
unfolding slots_by room_by later
passes_none d n lost slots room gs f = record {
  lost' = lost;
  short = rw (add-zero slots, add-zero room);
  list = rw (add-zero slots, add-zero room);
  losing = λ e. inl e;
}

-- a sector more in front
passes-one : (d : Disc) (n : ℕ) (lost lost₁ : Bool) (slots room : ℕ) (gs : List Grown) (g : Feed) (s : ℕ) (ws : List ℕ) (f h : Feed)
    → short_of d lost slots room gs h ≡ short_of d lost₁ (slots + (first_of gs).slots) (room + (first_of gs).room) (behind_first gs) g
    → wanted d (within lost slots room gs h) ≡ s ∷ wanted d (within lost₁ (slots + (first_of gs).slots) (room + (first_of gs).room) (behind_first gs) g)
    → (lost₁ ≡ true → (lost ≡ true) ⊎ (slots < n))
    → Passes d n lost₁ (slots + (first_of gs).slots) (room + (first_of gs).room) (behind_first gs) g ws f → Passes d n lost slots room gs h (s ∷ ws) f
unfolding slots_by room_by later
passes-one d n lost lost₁ slots room gs g s ws f h e l q p = record {
  lost' = p.lost';
  short = e ∙ p.short ∙ rw (add_assoc slots (first_of gs).slots (slots_by (length ws) (behind_first gs)), add_assoc room (first_of gs).room (room_by (length ws) (behind_first gs)));
  list = l ∙ ap (λ x. s ∷ x) p.list ∙ rw (add_assoc slots (first_of gs).slots (slots_by (length ws) (behind_first gs)), add_assoc room (first_of gs).room (room_by (length ws) (behind_first gs)));
  losing = λ t. ⊎_elim (λ u. q u) (λ u. inr (omega arith)) (p.losing t);
}

or-lost : (lost : Bool) (slots more named n : ℕ) → named ≤ n → (lost || ltb (slots + more) named) ≡ true → (lost ≡ true) ⊎ (slots < n)
or-lost true slots more named n h e = inl refl
or-lost false slots more named n h e = let l = ltb-true (slots + more) named e in inr (omega arith)

module _ {A : Type 0} (d : Disc) (n : ℕ) (f : A → Feed) (a : A) where
  -- names no more than n
  abbrev Upto : (List ℕ → ℕ) → Ask A → Type 0
  Upto named t = (p q : List ℕ) → p ++ q ≡ path_of d t → named p ≤ n

  pub naming-passes : (t : Ask A) (named : List ℕ → ℕ) → Upto named t → outcome d t ≡ answered a → (lost : Bool) (slots room : ℕ) (gs : List Grown)
      → Passes d n lost slots room gs (naming named t f) (asked d t) (f a)
  unfolding outcome asked naming path_of short_of within wanted
  naming-passes (done x) named u e lost slots room gs = let z : x ≡ a = cc in rw z (passes_none d n lost slots room gs (f a))
  naming-passes (refuse r) named u e lost slots room gs = never e
  naming-passes (ask s k) named u e lost slots room gs =
      by (d s) refl u e (λ b v g. naming-passes (k b) (λ more. named (b ++ more)) v g (lost || ltb (slots + (first_of gs).slots) (named b)) (slots + (first_of gs).slots) (room + (first_of gs).room) (behind_first gs))
    where
      by : (x : Held) → d s ≡ x → ((p q : List ℕ) → p ++ q ≡ given x (λ b. b ++ path_of d (k b)) [] → named p ≤ n) → given x (λ b. outcome d (k b)) (refused Io) ≡ answered a
          → ((b : List ℕ) → Upto (λ more. named (b ++ more)) (k b) → outcome d (k b) ≡ answered a
          → Passes d n (lost || ltb (slots + (first_of gs).slots) (named b)) (slots + (first_of gs).slots) (room + (first_of gs).room) (behind_first gs) (naming (λ more. named (b ++ more)) (k b) f) (asked d (k b)) (f a))
          → Passes d n lost slots room gs (want s (λ b. name (named b) (naming (λ more. named (b ++ more)) (k b) f))) (s ∷ given x (λ b. asked d (k b)) []) (f a)
      by (holds b) q u e ih =
          let p = ih b (λ x y g. u (b ++ x) y (append_assoc b x y ∙ ap (λ z. b ++ z) g)) e in
          passes-one d n lost (lost || ltb (slots + (first_of gs).slots) (named b)) slots room gs (naming (λ more. named (b ++ more)) (k b) f) s (asked d (k b)) (f a) _ (rw q refl) (rw q refl)
          (or-lost lost slots (first_of gs).slots (named b) n (u b (path_of d (k b)) refl)) p
      by lacks q u e ih = never e

  pub naming-names : (t : Ask A) (named : List ℕ → ℕ) → Upto named t → outcome d t ≡ answered a → (h : ℕ) → Names d n h (naming named t f) (f a)
  unfolding outcome naming path_of held_most
  naming-names (done x) named u e h = let z : x ≡ a = cc in rw z (record { most = h; same = refl; below = omega arith })
  naming-names (refuse r) named u e h = never e
  naming-names (ask s k) named u e h = by (d s) refl u e (λ b v g. naming-names (k b) (λ more. named (b ++ more)) v g (max h (named b)))
    where
      by : (x : Held) → d s ≡ x → ((p q : List ℕ) → p ++ q ≡ given x (λ b. b ++ path_of d (k b)) [] → named p ≤ n) → given x (λ b. outcome d (k b)) (refused Io) ≡ answered a
          → ((b : List ℕ) → Upto (λ more. named (b ++ more)) (k b) → outcome d (k b) ≡ answered a → Names d n (max h (named b)) (naming (λ more. named (b ++ more)) (k b) f) (f a))
          → Names d n h (want s (λ b. name (named b) (naming (λ more. named (b ++ more)) (k b) f))) (f a)
      by (holds b) q u e ih =
          let p = ih b (λ x y g. u (b ++ x) y (append_assoc b x y ∙ ap (λ z. b ++ z) g)) e in
          let l = u b (path_of d (k b)) refl in
          record { most = p.most; same = rw q p.same; below = let i = p.below in omega arith }
      by lacks q u e ih = never e

  pub following-passes : (t : Ask A) → outcome d t ≡ answered a → (lost : Bool) (slots room : ℕ) (gs : List Grown) → Passes d n lost slots room gs (following t f) (asked d t) (f a)
  unfolding outcome asked following short_of within wanted
  following-passes (done x) e lost slots room gs = let z : x ≡ a = cc in rw z (passes_none d n lost slots room gs (f a))
  following-passes (refuse r) e lost slots room gs = never e
  following-passes (ask s k) e lost slots room gs = by (d s) refl e (λ b g. following-passes (k b) g lost (slots + (first_of gs).slots) (room + (first_of gs).room) (behind_first gs))
    where
      by : (x : Held) → d s ≡ x → given x (λ b. outcome d (k b)) (refused Io) ≡ answered a
          → ((b : List ℕ) → outcome d (k b) ≡ answered a → Passes d n lost (slots + (first_of gs).slots) (room + (first_of gs).room) (behind_first gs) (following (k b) f) (asked d (k b)) (f a))
          → Passes d n lost slots room gs (want s (λ b. following (k b) f)) (s ∷ given x (λ b. asked d (k b)) []) (f a)
      by (holds b) q e ih =
          passes-one d n lost lost slots room gs (following (k b) f) s (asked d (k b)) (f a) _ (rw q refl) (rw q refl) (λ u. inl u) (ih b e)
      by lacks q e ih = never e

  pub following-held : (t : Ask A) → outcome d t ≡ answered a → (h : ℕ) → held_most h d (following t f) ≡ held_most h d (f a)
  unfolding outcome following held_most
  following-held (done x) e h = let z : x ≡ a = cc in rw z
  following-held (refuse r) e h = never e
  following-held (ask s k) e h = by (d s) e (λ b g. following-held (k b) g h)
    where
      by : (x : Held) → given x (λ b. outcome d (k b)) (refused Io) ≡ answered a → ((b : List ℕ) → outcome d (k b) ≡ answered a → held_most h d (following (k b) f) ≡ held_most h d (f a))
          → given x (λ b. held_most h d (following (k b) f)) 0 ≡ held_most h d (f a)
      by (holds b) e ih = ih b e
      by lacks e ih = never e

-- a call that is refused: nothing is held, and nothing falls short
module _ {A : Type 0} (d : Disc) (f : A → Feed) {why : Refusal} where
  not-refused : {B : Type 0} {a : A} → answered a ≡ refused why → B
  not-refused e = absurd (let z : ◌≡◌ {A = ℕ} 0 1 = cc in omega arith)

  pub naming-refused : (t : Ask A) (named : List ℕ → ℕ) → outcome d t ≡ refused why → (lost : Bool) (slots room : ℕ) (gs : List Grown) → short_of d lost slots room gs (naming named t f) ≡ enough
  unfolding outcome naming short_of
  naming-refused (done x) named e lost slots room gs = not-refused e
  naming-refused (refuse r) named e lost slots room gs = refl
  naming-refused (ask s k) named e lost slots room gs =
      by (d s) e (λ b g. naming-refused (k b) (λ more. named (b ++ more)) g (lost || ltb (slots + (first_of gs).slots) (named b)) (slots + (first_of gs).slots) (room + (first_of gs).room) (behind_first gs))
    where
      after : List ℕ → Short
      after b = short_of d (lost || ltb (slots + (first_of gs).slots) (named b)) (slots + (first_of gs).slots) (room + (first_of gs).room) (behind_first gs) (naming (λ more. named (b ++ more)) (k b) f)

      by : (x : Held) → given x (λ b. outcome d (k b)) (refused Io) ≡ refused why → ((b : List ℕ) → outcome d (k b) ≡ refused why → after b ≡ enough) → given x after enough ≡ enough
      by (holds b) e ih = ih b e
      by lacks e ih = refl

  pub naming-holds-none : (t : Ask A) (named : List ℕ → ℕ) → outcome d t ≡ refused why → (h : ℕ) → held_most h d (naming named t f) ≡ 0
  unfolding outcome naming held_most
  naming-holds-none (done x) named e h = not-refused e
  naming-holds-none (refuse r) named e h = refl
  naming-holds-none (ask s k) named e h = by (d s) e (λ b g. naming-holds-none (k b) (λ more. named (b ++ more)) g (max h (named b)))
    where
      by : (x : Held) → given x (λ b. outcome d (k b)) (refused Io) ≡ refused why → ((b : List ℕ) → outcome d (k b) ≡ refused why → held_most (max h (named b)) d (naming (λ more. named (b ++ more)) (k b) f) ≡ 0)
          → given x (λ b. held_most (max h (named b)) d (naming (λ more. named (b ++ more)) (k b) f)) 0 ≡ 0
      by (holds b) e ih = ih b e
      by lacks e ih = refl

  pub following-refused : (t : Ask A) → outcome d t ≡ refused why → (lost : Bool) (slots room : ℕ) (gs : List Grown) → short_of d lost slots room gs (following t f) ≡ enough
  unfolding outcome following short_of
  following-refused (done x) e lost slots room gs = not-refused e
  following-refused (refuse r) e lost slots room gs = refl
  following-refused (ask s k) e lost slots room gs =
      by (d s) e (λ b g. following-refused (k b) g lost (slots + (first_of gs).slots) (room + (first_of gs).room) (behind_first gs))
    where
      after : List ℕ → Short
      after b = short_of d lost (slots + (first_of gs).slots) (room + (first_of gs).room) (behind_first gs) (following (k b) f)

      by : (x : Held) → given x (λ b. outcome d (k b)) (refused Io) ≡ refused why → ((b : List ℕ) → outcome d (k b) ≡ refused why → after b ≡ enough) → given x after enough ≡ enough
      by (holds b) e ih = ih b e
      by lacks e ih = refl

  pub following-holds-none : (t : Ask A) → outcome d t ≡ refused why → (h : ℕ) → held_most h d (following t f) ≡ 0
  unfolding outcome following held_most
  following-holds-none (done x) e h = not-refused e
  following-holds-none (refuse r) e h = refl
  following-holds-none (ask s k) e h = by (d s) e (λ b g. following-holds-none (k b) g h)
    where
      by : (x : Held) → given x (λ b. outcome d (k b)) (refused Io) ≡ refused why → ((b : List ℕ) → outcome d (k b) ≡ refused why → held_most h d (following (k b) f) ≡ 0)
          → given x (λ b. held_most h d (following (k b) f)) 0 ≡ 0
      by (holds b) e ih = ih b e
      by lacks e ih = refl

-- ---- sectors that bring no byte, and one that brings some

-- the first sector's bytes have room
pub full-one : (room : ℕ) (gs : List Grown) (x : ℕ) (shares : List ℕ) (n : ℕ) → x ≤ room + (first_of gs).room → FullAt (room + (first_of gs).room - x) (behind_first gs) shares n → FullAt room gs (x ∷ shares) (suc n)
unfolding brought room_by
full-one room gs x shares n h p = record { before = each; past = less room (first_of gs).room (room_by n (behind_first gs)) (brought (take n shares)) h p.past }
  where
    less : (r g m b : ℕ) → x ≤ r + g → r + g - x + m < b → r + (g + m) < x + b
    less r g m b h q = omega arith

    some : (r g m b : ℕ) → x ≤ r + g → b ≤ r + g - x + m → x + b ≤ r + (g + m)
    some r g m b h q = omega arith

    each : (j : ℕ) → j < suc n → brought (take j (x ∷ shares)) ≤ room + room_by j gs
    each zero l = omega arith
    each (suc j) l = some room (first_of gs).room (room_by j (behind_first gs)) (brought (take j shares)) h (p.before j (omega arith))

-- or they haven't
pub full-first : (room : ℕ) (gs : List Grown) (x : ℕ) (shares : List ℕ) → room + (first_of gs).room < x → FullAt room gs (x ∷ shares) 1
unfolding brought room_by
full-first room gs x shares h = record { before = each; past = rw (add-zero (first_of gs).room, add-zero x) h }
  where
    each : (j : ℕ) → j < 1 → brought (take j (x ∷ shares)) ≤ room + room_by j gs
    each zero l = omega arith
    each (suc j) l = absurd (omega arith)

pub full-zeros : (k room : ℕ) (gs : List Grown) (shares : List ℕ) (n : ℕ) → FullAt (room + room_by k gs) (later k gs) shares n → FullAt room gs (replicate k 0 ++ shares) (k + n)
unfolding room_by later
full-zeros zero room gs shares n p = rw (zero-add n) (rw (add-zero room) at p)
full-zeros (suc k) room gs shares n p =
    let z : suc k + n ≡ suc (k + n) = omega arith in
    let q : FullAt (room + (first_of gs).room) (behind_first gs) (replicate k 0 ++ shares) (k + n) =
    full-zeros k (room + (first_of gs).room) (behind_first gs) shares n (rw (add_assoc room (first_of gs).room (room_by k (behind_first gs))) p) in
    rw z (full-one room gs 0 (replicate k 0 ++ shares) (k + n) (omega arith) (rw (sub-zero (room + (first_of gs).room)) q))

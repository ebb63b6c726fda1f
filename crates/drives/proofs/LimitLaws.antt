-- What lent memory makes of a feed on a disc: the same read where there is enough of it, and else a front of it, ended by 5 or 7. Assumes nothing.
use mathlib.Core.Path.{◌≡◌, refl, ap, sym, ◌∙◌}
use mathlib.Core.Bool.{Bool, true, false, ◌||◌}
use mathlib.Core.List.{List, [], ◌∷◌, ◌++◌, append-nil, append_assoc}
use Prim.Native.Nat.{ℕ, ◌+◌, ◌-◌, ◌<◌, ◌≤◌, max}
use native.Mathlib.Nat.{add-zero}
use native.Mathlib.Omega.{arith}
use lib.ListN.{length, take, drop, length-append, take-append-drop}
use lib.Seq.{take-append-le, take-append-add}
use lib.Dec.{ltb, leb}
use borrow.Author.Tests.{lt-ltb, le-ltb, ltb-true, ltb-false, le-leb, leb-true, leb-false}
use Rattle.disc.specs.Choice.{pick}
use Rattle.disc.specs.Ask.{Disc, Held, given, outcome, asked}
use Rattle.disc.specs.Ask.Held.{holds, lacks}
use Rattle.disc.specs.Marks.{Front}
use Rattle.disc.specs.Ask.Outcome.{answered, refused}
use Rattle.disc.specs.declared.refusals.Refusal.TheVariants.{Io, NoRoom, NoSlot}
use Rattle.disc.proofs.PickLaws.{not-both}
use Rattle.drives.specs.Feeds.{Feed, collected, Grown, first_of, behind_first, within, End, end_of, wanted, arrived, held_most, Short, short_of}
use Rattle.drives.specs.Feeds.Feed.{over, stop, name, hold, put, want}
use Rattle.drives.specs.Feeds.Short.{enough, of_slots, of_room}
use Rattle.drives.specs.Feeds.End.{refuses}
use Rattle.drives.specs.Told.{outcome_by}

-- ---- without limits a feed is the call that it collects

pub collected-outcome : (d : Disc) (front : List ℕ) (f : Feed) → outcome d (collected front f) ≡ outcome_by (end_of d f) (front ++ arrived d f)
unfolding outcome collected end_of arrived
collected-outcome d front over = ap answered (sym (append-nil front))
collected-outcome d front (stop r) = refl
collected-outcome d front (name n f) = collected-outcome d front f
collected-outcome d front (hold n f) = collected-outcome d front f
collected-outcome d front (put b f) = collected-outcome d (front ++ b) f ∙ ap (outcome_by (end_of d f)) (append_assoc front b (arrived d f))
collected-outcome d front (want s k) = by (d s) (λ b. collected-outcome d front (k b))
  where
    by : (x : Held) → ((b : List ℕ) → outcome d (collected front (k b)) ≡ outcome_by (end_of d (k b)) (front ++ arrived d (k b)))
        → given x (λ b. outcome d (collected front (k b))) (refused Io) ≡ outcome_by (given x (λ b. end_of d (k b)) (refuses Io)) (front ++ given x (λ b. arrived d (k b)) [])
    by (holds b) ih = ih b
    by lacks ih = refl

pub collected-asked : (d : Disc) (front : List ℕ) (f : Feed) → asked d (collected front f) ≡ wanted d f
unfolding asked collected wanted
collected-asked d front over = refl
collected-asked d front (stop r) = refl
collected-asked d front (name n f) = collected-asked d front f
collected-asked d front (hold n f) = collected-asked d front f
collected-asked d front (put b f) = collected-asked d (front ++ b) f
collected-asked d front (want s k) = ap (λ l. s ∷ l) (by (d s) (λ b. collected-asked d front (k b)))
  where
    by : (x : Held) → ((b : List ℕ) → asked d (collected front (k b)) ≡ wanted d (k b)) → given x (λ b. asked d (collected front (k b))) [] ≡ given x (λ b. wanted d (k b)) []
    by (holds b) ih = ih b
    by lacks ih = refl

-- ---- within lent memory

-- the sectors wanted are a front of those of the read

front-none : (b : List ℕ) → Front [] b
front-none b = record { rest = b; is = refl }

pub within-front : (d : Disc) (lost : Bool) (slots room : ℕ) (gs : List Grown) (f : Feed) → Front (wanted d (within lost slots room gs f)) (wanted d f)
unfolding within wanted
within-front d lost slots room gs over = front-none []
within-front d lost slots room gs (stop r) = front-none []
within-front d lost slots room gs (name n f) = within-front d (lost || ltb slots n) slots room gs f
within-front d lost slots room gs (hold n f) = by (lost || ltb slots n) (within-front d false slots room gs f)
  where
    by : (t : Bool) → Front (wanted d (within false slots room gs f)) (wanted d f) → Front (wanted d (pick t (stop NoSlot) (within false slots room gs f))) (wanted d f)
    by true ih = front-none (wanted d f)
    by false ih = ih
within-front d lost slots room gs (put b f) = by (leb (length b) room) (within-front d lost slots (room - length b) gs f)
  where
    by : (t : Bool) → Front (wanted d (within lost slots (room - length b) gs f)) (wanted d f)
        → Front (wanted d (pick t (put b (within lost slots (room - length b) gs f)) (put (take room b) (stop NoRoom)))) (wanted d f)
    by true ih = ih
    by false ih = front-none (wanted d f)
within-front d lost slots room gs (want s k) = by (d s) (λ b. within-front d lost (slots + (first_of gs).slots) (room + (first_of gs).room) (behind_first gs) (k b))
  where
    cut : List ℕ → Feed
    cut b = within lost (slots + (first_of gs).slots) (room + (first_of gs).room) (behind_first gs) (k b)

    by : (x : Held) → ((b : List ℕ) → Front (wanted d (cut b)) (wanted d (k b))) → Front (s ∷ given x (λ b. wanted d (cut b)) []) (s ∷ given x (λ b. wanted d (k b)) [])
    by (holds b) ih = let p = ih b in record { rest = p.rest; is = ap (λ l. s ∷ l) p.is }
    by lacks ih = record { rest = []; is = refl }

-- the bytes that arrive are a front of those of the read
pub within-arrived : (d : Disc) (lost : Bool) (slots room : ℕ) (gs : List Grown) (f : Feed) → Front (arrived d (within lost slots room gs f)) (arrived d f)
unfolding within arrived
within-arrived d lost slots room gs over = front-none []
within-arrived d lost slots room gs (stop r) = front-none []
within-arrived d lost slots room gs (name n f) = within-arrived d (lost || ltb slots n) slots room gs f
within-arrived d lost slots room gs (hold n f) = by (lost || ltb slots n) (within-arrived d false slots room gs f)
  where
    by : (t : Bool) → Front (arrived d (within false slots room gs f)) (arrived d f) → Front (arrived d (pick t (stop NoSlot) (within false slots room gs f))) (arrived d f)
    by true ih = front-none (arrived d f)
    by false ih = ih
within-arrived d lost slots room gs (put b f) = by (leb (length b) room) (within-arrived d lost slots (room - length b) gs f)
  where
    by : (t : Bool) → Front (arrived d (within lost slots (room - length b) gs f)) (arrived d f)
        → Front (arrived d (pick t (put b (within lost slots (room - length b) gs f)) (put (take room b) (stop NoRoom)))) (b ++ arrived d f)
    by true ih = record { rest = ih.rest; is = ap (λ x. b ++ x) ih.is ∙ sym (append_assoc b (arrived d (within lost slots (room - length b) gs f)) ih.rest) }
    by false ih = record {
      rest = drop room b ++ arrived d f;
      is = ap (λ x. x ++ arrived d f) (sym (take-append-drop room b)) ∙ append_assoc (take room b) (drop room b) (arrived d f) ∙ rw (append-nil (take room b));
    }
within-arrived d lost slots room gs (want s k) = by (d s) (λ b. within-arrived d lost (slots + (first_of gs).slots) (room + (first_of gs).room) (behind_first gs) (k b))
  where
    cut : List ℕ → Feed
    cut b = within lost (slots + (first_of gs).slots) (room + (first_of gs).room) (behind_first gs) (k b)

    by : (x : Held) → ((b : List ℕ) → Front (arrived d (cut b)) (arrived d (k b))) → Front (given x (λ b. arrived d (cut b)) []) (given x (λ b. arrived d (k b)) [])
    by (holds b) ih = ih b
    by lacks ih = front-none []

-- the same read, where there is enough
pub record Whole (d : Disc) (f g : Feed) : Type 0 where
  pub ends : end_of d g ≡ end_of d f
  pub asks : wanted d g ≡ wanted d f
  pub gives : arrived d g ≡ arrived d f

-- ---- what lent memory falls short of first decides how the read ends

unfoldable Ended : Short → End → List ℕ → List ℕ → End → List ℕ → List ℕ → Type 0
Ended enough e ws bs e' ws' bs' = (e' ≡ e) × (ws' ≡ ws) × (bs' ≡ bs)
Ended of_slots e ws bs e' ws' bs' = e' ≡ refuses NoSlot
Ended of_room e ws bs e' ws' bs' = e' ≡ refuses NoRoom

abbrev EndedIn : Short → Disc → Feed → Feed → Type 0
EndedIn x d f g = Ended x (end_of d f) (wanted d f) (arrived d f) (end_of d g) (wanted d g) (arrived d g)

ended-put : (x : Short) (b : List ℕ) (e : End) (ws bs : List ℕ) (e' : End) (ws' bs' : List ℕ) → Ended x e ws bs e' ws' bs' → Ended x e ws (b ++ bs) e' ws' (b ++ bs')
unfolding Ended
ended-put enough b e ws bs e' ws' bs' h = (h.0, h.1, ap (λ x. b ++ x) h.2)
ended-put of_slots b e ws bs e' ws' bs' h = h
ended-put of_room b e ws bs e' ws' bs' h = h

ended-want : (x : Short) (s : ℕ) (e : End) (ws bs : List ℕ) (e' : End) (ws' bs' : List ℕ) → Ended x e ws bs e' ws' bs' → Ended x e (s ∷ ws) bs e' (s ∷ ws') bs'
unfolding Ended
ended-want enough s e ws bs e' ws' bs' h = (h.0, ap (λ l. s ∷ l) h.1, h.2)
ended-want of_slots s e ws bs e' ws' bs' h = h
ended-want of_room s e ws bs e' ws' bs' h = h

within-ended : (d : Disc) (lost : Bool) (slots room : ℕ) (gs : List Grown) (f : Feed) → EndedIn (short_of d lost slots room gs f) d f (within lost slots room gs f)
unfolding within wanted arrived end_of short_of Ended
within-ended d lost slots room gs over = (refl, refl, refl)
within-ended d lost slots room gs (stop r) = (refl, refl, refl)
within-ended d lost slots room gs (name n f) = within-ended d (lost || ltb slots n) slots room gs f
within-ended d lost slots room gs (hold n f) = by (lost || ltb slots n) (within-ended d false slots room gs f)
  where
    by : (t : Bool) → EndedIn (short_of d false slots room gs f) d f (within false slots room gs f)
        → EndedIn (pick t of_slots (short_of d false slots room gs f)) d f (pick t (stop NoSlot) (within false slots room gs f))
    by true ih = refl
    by false ih = ih
within-ended d lost slots room gs (put b f) = by (leb (length b) room) (within-ended d lost slots (room - length b) gs f)
  where
    by : (t : Bool) → EndedIn (short_of d lost slots (room - length b) gs f) d f (within lost slots (room - length b) gs f)
        → EndedIn (pick t (short_of d lost slots (room - length b) gs f) of_room) d (put b f) (pick t (put b (within lost slots (room - length b) gs f)) (put (take room b) (stop NoRoom)))
    by true ih = ended-put (short_of d lost slots (room - length b) gs f) b _ _ _ _ _ _ ih
    by false ih = refl
within-ended d lost slots room gs (want s k) = by (d s) (λ b. within-ended d lost (slots + (first_of gs).slots) (room + (first_of gs).room) (behind_first gs) (k b))
  where
    cut : List ℕ → Feed
    cut b = within lost (slots + (first_of gs).slots) (room + (first_of gs).room) (behind_first gs) (k b)

    short : List ℕ → Short
    short b = short_of d lost (slots + (first_of gs).slots) (room + (first_of gs).room) (behind_first gs) (k b)

    by : (x : Held) → ((b : List ℕ) → EndedIn (short b) d (k b) (cut b))
        → Ended (given x short enough) (given x (λ b. end_of d (k b)) (refuses Io)) (s ∷ given x (λ b. wanted d (k b)) []) (given x (λ b. arrived d (k b)) [])
        (given x (λ b. end_of d (cut b)) (refuses Io)) (s ∷ given x (λ b. wanted d (cut b)) []) (given x (λ b. arrived d (cut b)) [])
    by (holds b) ih = ended-want (short b) s _ _ _ _ _ _ (ih b)
    by lacks ih = (refl, refl, refl)

module _ (d : Disc) (lost : Bool) (slots room : ℕ) (gs : List Grown) (f : Feed) where
  pub short_none : short_of d lost slots room gs f ≡ enough → Whole d f (within lost slots room gs f)
  unfolding Ended
  short_none e = let p = rw e at (within-ended d lost slots room gs f) in record { ends = p.0; asks = p.1; gives = p.2 }

  pub short-slots : short_of d lost slots room gs f ≡ of_slots → end_of d (within lost slots room gs f) ≡ refuses NoSlot
  unfolding Ended
  short-slots e = rw e at (within-ended d lost slots room gs f)

  pub short-room : short_of d lost slots room gs f ≡ of_room → end_of d (within lost slots room gs f) ≡ refuses NoRoom
  unfolding Ended
  short-room e = rw e at (within-ended d lost slots room gs f)

-- ---- as many slots and as much room as the whole read takes, from the start on, are enough however the memory grows

lost-named : (lost : Bool) (base slots named n : ℕ) → base ≤ slots → (lost ≡ true → base < named) → (lost || ltb slots n) ≡ true → base < max named n
lost-named true base slots named n h k e = let l = k refl in omega arith
lost-named false base slots named n h k e = let l = ltb-true slots n e in omega arith

none-lost : (lost : Bool) (base slots named n : ℕ) → base ≤ slots → (lost ≡ true → base < named) → max named n ≤ base → (lost || ltb slots n) ≡ false
none-lost true base slots named n h k l = absurd (let z = k refl in omega arith)
none-lost false base slots named n h k l = le-ltb slots n (omega arith)

pub never-short : (d : Disc) (named base : ℕ) (lost : Bool) (slots room : ℕ) (gs : List Grown) (f : Feed) → base ≤ slots → (lost ≡ true → base < named) → held_most named d f ≤ base
    → length (arrived d f) ≤ room → short_of d lost slots room gs f ≡ enough
unfolding short_of arrived held_most
never-short d named base lost slots room gs over i q h l = refl
never-short d named base lost slots room gs (stop r) i q h l = refl
never-short d named base lost slots room gs (name n f) i q h l = never-short d (max named n) base (lost || ltb slots n) slots room gs f i (lost-named lost base slots named n i q) h l
never-short d named base lost slots room gs (hold n f) i q h l =
    rw (none-lost lost base slots named n i q (omega arith)) (never-short d 0 base false slots room gs f i (λ e. not-both e) (omega arith) l)
never-short d named base lost slots room gs (put b f) i q h l =
    let e = length-append b (arrived d f) in
    rw (le-leb (length b) room (omega arith)) (never-short d named base lost slots (room - length b) gs f i q h (omega arith))
never-short d named base lost slots room gs (want s k) i q h l =
    by (d s) h l (λ b. never-short d named base lost (slots + (first_of gs).slots) (room + (first_of gs).room) (behind_first gs) (k b) (omega arith) q)
  where
    short : List ℕ → Short
    short b = short_of d lost (slots + (first_of gs).slots) (room + (first_of gs).room) (behind_first gs) (k b)

    by : (x : Held) → given x (λ b. held_most named d (k b)) 0 ≤ base → length (given x (λ b. arrived d (k b)) []) ≤ room
        → ((b : List ℕ) → held_most named d (k b) ≤ base → length (arrived d (k b)) ≤ room + (first_of gs).room → short b ≡ enough)
        → given x short enough ≡ enough
    by (holds b) h l ih = ih b h (omega arith)
    by lacks h l ih = refl

-- ---- memory that stays as it is

-- 5: more bytes arrive than there is room for, and what fits is put first
pub record Full (d : Disc) (room : ℕ) (f g : Feed) : Type 0 where
  pub ends : end_of d g ≡ refuses NoRoom
  pub gives : arrived d g ≡ take room (arrived d f)

pub within-full : (d : Disc) (named : ℕ) (lost : Bool) (slots room : ℕ) (f : Feed) → (lost ≡ true → slots < named) → held_most named d f ≤ slots → room < length (arrived d f)
    → Full d room f (within lost slots room [] f)
unfolding within arrived end_of held_most
within-full d named lost slots room over q h l = absurd (omega arith)
within-full d named lost slots room (stop r) q h l = absurd (omega arith)
within-full d named lost slots room (name n f) q h l =
    let p = within-full d (max named n) (lost || ltb slots n) slots room f (lost-named lost slots slots named n (omega arith) q) h l in record { ends = p.ends; gives = p.gives }
within-full d named lost slots room (hold n f) q h l =
    rw (none-lost lost slots slots named n (omega arith) q (omega arith))
    (let p = within-full d 0 false slots room f (λ e. not-both e) (omega arith) l in record { ends = p.ends; gives = p.gives })
within-full d named lost slots room (put b f) q h l = by (leb (length b) room) refl (within-full d named lost slots (room - length b) f q h)
  where
    by : (t : Bool) → leb (length b) room ≡ t → (room - length b < length (arrived d f) → Full d (room - length b) f (within lost slots (room - length b) [] f))
        → Full d room (put b f) (pick t (put b (within lost slots (room - length b) [] f)) (put (take room b) (stop NoRoom)))
    by true e ih =
        let q = leb-true (length b) room e in
        let n = length-append b (arrived d f) in
        let p = ih (omega arith) in
        let z : length b + (room - length b) ≡ room = omega arith in
        record { ends = p.ends; gives = ap (λ x. b ++ x) p.gives ∙ rw z at (sym (take-append-add b (arrived d f) (room - length b))) }
    by false e ih =
        let q = leb-false (length b) room e in
        record { ends = refl; gives = append-nil (take room b) ∙ sym (take-append-le room b (arrived d f) (omega arith)) }
within-full d named lost slots room (want s k) q h l = rw (add-zero slots, add-zero room) (by (d s) refl h l (λ b. within-full d named lost slots room (k b) q))
  where
    by : (x : Held) → d s ≡ x → given x (λ b. held_most named d (k b)) 0 ≤ slots → room < length (given x (λ b. arrived d (k b)) [])
        → ((b : List ℕ) → held_most named d (k b) ≤ slots → room < length (arrived d (k b)) → Full d room (k b) (within lost slots room [] (k b)))
        → Full d room (want s k) (want s (λ b. within lost slots room [] (k b)))
    by (holds b) e h l ih = let p = ih b h l in record { ends = rw e p.ends; gives = rw e p.gives }
    by lacks e h l ih = absurd (omega arith)

-- 7: where extents are held before any byte arrives, as a file's are, more of them than slots are 7 and no byte has arrived
unfoldable pub HoldsFirst : Feed → Type 0
HoldsFirst over = Unit {0}
HoldsFirst (stop r) = Unit {0}
HoldsFirst (name n f) = HoldsFirst f
HoldsFirst (hold n f) = HoldsFirst f
HoldsFirst (put b f) = (d : Disc) (named : ℕ) → held_most named d f ≡ 0
HoldsFirst (want s k) = (b : List ℕ) → HoldsFirst (k b)

pub record Crowded (d : Disc) (g : Feed) : Type 0 where
  pub ends : end_of d g ≡ refuses NoSlot
  pub gives : arrived d g ≡ []

lost-max : (slots named n : ℕ) → (ltb slots named || ltb slots n) ≡ ltb slots (max named n)
lost-max slots named n = by (ltb slots named) refl (ltb slots n) refl
  where
    by : (a : Bool) → ltb slots named ≡ a → (b : Bool) → ltb slots n ≡ b → (a || b) ≡ ltb slots (max named n)
    by true p b q = let h = ltb-true slots named p in sym (lt-ltb slots (max named n) (omega arith))
    by false p true q = let h = ltb-true slots n q in sym (lt-ltb slots (max named n) (omega arith))
    by false p false q = let h = ltb-false slots named p in let k = ltb-false slots n q in sym (le-ltb slots (max named n) (omega arith))

pub within-crowded : (d : Disc) (named : ℕ) (lost : Bool) (slots room : ℕ) (f : Feed) → lost ≡ ltb slots named → HoldsFirst f → slots < held_most named d f → Crowded d (within lost slots room [] f)
unfolding within arrived end_of held_most HoldsFirst
within-crowded d named lost slots room over e h l = absurd (omega arith)
within-crowded d named lost slots room (stop r) e h l = absurd (omega arith)
within-crowded d named lost slots room (name n f) e h l =
    let p = within-crowded d (max named n) (lost || ltb slots n) slots room f (rw e (lost-max slots named n)) h l in record { ends = p.ends; gives = p.gives }
within-crowded d named lost slots room (hold n f) e h l =
    by (lost || ltb slots n) (rw e (lost-max slots named n)) (within-crowded d 0 false slots room f (sym (le-ltb slots 0 (omega arith))) h)
  where
    by : (t : Bool) → t ≡ ltb slots (max named n) → (slots < held_most 0 d f → Crowded d (within false slots room [] f)) → Crowded d (pick t (stop NoSlot) (within false slots room [] f))
    by true e ih = record { ends = refl; gives = refl }
    by false e ih = let q = ltb-false slots (max named n) (sym e) in ih (omega arith)
within-crowded d named lost slots room (put b f) e h l = let z = h d named in absurd (omega arith)
within-crowded d named lost slots room (want s k) e h l = rw (add-zero slots, add-zero room) (by (d s) refl l (λ b. within-crowded d named lost slots room (k b) e (h b)))
  where
    by : (x : Held) → d s ≡ x → slots < given x (λ b. held_most named d (k b)) 0
        → ((b : List ℕ) → slots < held_most named d (k b) → Crowded d (within lost slots room [] (k b)))
        → Crowded d (want s (λ b. within lost slots room [] (k b)))
    by (holds b) e l ih = let p = ih b l in record { ends = rw e p.ends; gives = rw e p.gives }
    by lacks e l ih = absurd (omega arith)

-- What the loops over a shelf cite, and the whole call. Assumes nothing.
use Rattle.std.specs.Prelude.{⊤, Option, Result, Ok, Err}
use mathlib.Core.Path.{◌≡◌, refl, ap, sym, ◌∙◌}
use mathlib.Core.Bool.{Bool, true, false, ◌&&◌}
use mathlib.Core.List.{List, [], ◌∷◌, ◌++◌, map, append_assoc, append-nil}
use mathlib.Core.Logic.{⊎_elim}
use Prim.Native.Nat.{ℕ, suc, ◌+◌, ◌-◌, ◌*◌, ◌/◌, ◌<◌, ◌≤◌, min}
use native.Mathlib.Nat.{add-sub_cancel_left}
use native.Mathlib.Numerals.{add-one}
use native.Mathlib.Omega.{arith}
use lib.ListN.{length, get_or, take, drop, replicate, length-append, length-drop, length-map, take-append-drop, drop_of_length-le}
use lib.Seq.{drop-cons, drop-drop, take_all, take_at, drop_at, length-take-le}
use lib.Dec.{leb}
use borrow.Rule.Slice.PartMut.{put_mid}
use borrow.Author.Tests.{le-leb, lt-leb}
use Rattle.disc.specs.Choice.{pick}
use Rattle.disc.specs.Refusals.{number}
use Rattle.disc.specs.declared.refusals.Refusal.{Refusal}
use Rattle.disc.specs.declared.refusals.Refusal.TheVariants.{BadShelf}
use Rattle.disc.proofs.ImageLaws.{split}
use Rattle.figures.specs.Figures.{Figures, Holds, row, rows, all_added, totaled, sum, AllWide}
use Rattle.figures.proofs.FigureLaws.{holds-long, rows-total}
use Rattle.surveys.specs.Surveys.{Surveyed, of_image, images, with_total, surveyed, fits, surveys}
use Rattle.surveys.specs.Inner.Parts.{room_for}
use Rattle.surveys.proofs.ImageLaws.{image-wide}
use Rattle.figures.specs.Figures.AllWide.{none-wide, more-wide}
use Rattle.volumes.specs.declared.openings.How.{How}

-- ---- the lengths against the bytes: what is left of both, behind i of them

pub record Fitting (lengths : List ℕ) (bytes left i : ℕ) : Type 0 where
  pub inside : i ≤ length lengths
  pub rest : leb (sum (drop i lengths)) left ≡ leb (sum lengths) bytes

-- one length taken from both
leb-less : (n m left : ℕ) → n ≤ left → leb m (left - n) ≡ leb (n + m) left
leb-less n m left h = ⊎_elim
    (λ (k : m ≤ left - n). rw (le-leb m (left - n) k, le-leb (n + m) left (omega arith)))
    (λ (k : left - n < m). rw (lt-leb m (left - n) k, lt-leb (n + m) left (omega arith)))
    (split m (left - n))

module _ {lengths : List ℕ} {bytes left i : ℕ} (p : Fitting lengths bytes left i) where
  rest-first : i < length lengths → sum (drop i lengths) ≡ get_or lengths i 0 + sum (drop (i + 1) lengths)
  unfolding sum
  rest-first h = rw (drop-cons lengths i 0 h, add-one)

  pub fitting-next : i < length lengths → get_or lengths i 0 ≤ left → Fitting lengths bytes (left - get_or lengths i 0) (i + 1)
  fitting-next h k =
      record { inside = omega arith; rest = leb-less (get_or lengths i 0) (sum (drop (i + 1) lengths)) left k ∙ rw (rest-first h) at p.rest }

  pub fitting-stops : i < length lengths → left < get_or lengths i 0 → false ≡ leb (sum lengths) bytes
  fitting-stops h k =
      sym (lt-leb (get_or lengths i 0 + sum (drop (i + 1) lengths)) left (omega arith)) ∙ rw (rest-first h) at p.rest

  pub fitting-ends : length lengths ≤ i → true ≡ leb (sum lengths) bytes
  unfolding sum
  fitting-ends h =
      let e : drop i lengths ≡ [] = drop_of_length-le lengths h in
      sym (le-leb 0 left (omega arith)) ∙ rw e at p.rest

-- ---- images: one that passes the shelf ends where it does

take-lesser : (n : ℕ) (s : List ℕ) → take (min n (length s)) s ≡ take n s
take-lesser n s = ⊎_elim
    (λ (h : n ≤ length s). let e : min n (length s) ≡ n = omega arith in rw e)
    (λ (h : length s < n). let e : min n (length s) ≡ length s = omega arith in
    let k : length s ≤ n = omega arith in rw e (take_all (length s) s (omega arith) ∙ sym (take_all n s k)))
    (split n (length s))

drop-lesser : (n : ℕ) (s : List ℕ) → drop (min n (length s)) s ≡ drop n s
drop-lesser n s = ⊎_elim
    (λ (h : n ≤ length s). let e : min n (length s) ≡ n = omega arith in rw e)
    (λ (h : length s < n). let e : min n (length s) ≡ length s = omega arith in
    let k : length s ≤ n = omega arith in
    let l : length s ≤ length s = omega arith in rw e (drop_of_length-le s l ∙ sym (drop_of_length-le s k)))
    (split n (length s))

pub images-long : (lengths shelf : List ℕ) → length (images lengths shelf) ≡ length lengths
unfolding images
images-long [] shelf = refl
images-long (n ∷ ns) shelf = ap suc (images-long ns (drop n shelf))

-- ---- the figures of i images are in their places

pub record Placing (how : Option How) (most : ℕ) (shelf lengths before after work₀ work : List ℕ) (at i : ℕ) : Type 0 where
  pub inside : i ≤ length lengths
  pub ends : at ≤ length shelf
  pub room : 80 * length lengths ≤ length before
  pub long : length after ≡ length before
  pub size : length work ≡ length work₀
  pub front : take (80 * i) after ++ rows (map (of_image how most (length work₀)) (images (drop i lengths) (drop at shelf))) ≡ rows (map (of_image how most (length work₀)) (images lengths shelf))
  pub behind : drop (80 * i) after ≡ drop (80 * i) before

module _ {how : Option How} {most : ℕ} {shelf lengths before after work₀ work : List ℕ} {at i : ℕ} (p : Placing how most shelf lengths before after work₀ work at i) where
  placing-room : i < length lengths → 80 * i + 80 ≤ length after
  placing-room h = omega (arith, p.room, p.long)

  pub placing-ends : length lengths ≤ i → after ≡ rows (map (of_image how most (length work₀)) (images lengths shelf)) ++ drop (80 * length lengths) before
  unfolding images rows
  placing-ends h =
      let e : i ≡ length lengths = omega (arith, p.inside) in
      let n : drop i lengths ≡ [] = drop_of_length-le lengths h in
      let f : take (80 * i) after ≡ rows (map (of_image how most (length work₀)) (images lengths shelf)) = sym (append-nil (take (80 * i) after)) ∙ rw n at p.front in
      sym (take-append-drop (80 * i) after) ∙ rw (f, p.behind, e)

  module _ (h : i < length lengths) {n : ℕ} (l : n ≡ min (get_or lengths i 0) (length shelf - at)) where
    image-ends : at + n ≤ length shelf
    image-ends = omega (arith, p.ends)

    left-long : length (drop at shelf) ≡ length shelf - at
    left-long = length-drop at shelf

    image-is : take (at + n - at) (drop at shelf) ≡ take (get_or lengths i 0) (drop at shelf)
    image-is = rw (add-sub_cancel_left, l, ← left-long) (take-lesser (get_or lengths i 0) (drop at shelf))

    next-is : drop (at + n) shelf ≡ drop (get_or lengths i 0) (drop at shelf)
    next-is = sym (drop-drop n at shelf) ∙ rw (l, ← left-long) (drop-lesser (get_or lengths i 0) (drop at shelf))

    rest-images : images (drop i lengths) (drop at shelf) ≡ take (at + n - at) (drop at shelf) ∷ images (drop (i + 1) lengths) (drop (at + n) shelf)
    unfolding images
    rest-images = rw (drop-cons lengths i 0 h, add-one, image-is, next-is)

    one_place : 80 * i + 80 - 80 * i ≡ 80
    one_place = omega arith

    next_place : 80 * (i + 1) ≡ 80 * i + 80
    next_place = omega arith

    module _ {z : List ℕ} (held : Holds (of_image how most (length work) (take (at + n - at) (drop at shelf))) z) where
      is_row : z ≡ row (of_image how most (length work₀) (take (at + n - at) (drop at shelf)))
      is_row = rw (← p.size) held.is

      front_long : length (take (80 * i) after ++ z) ≡ 80 * (i + 1)
      front_long =
          let a : length (take (80 * i) after) ≡ 80 * i = length-take-le (80 * i) after (omega (arith, placing-room h)) in
          rw (length-append (take (80 * i) after) z, a, holds-long held) (omega arith)

      placed : put_mid (80 * i) 80 after z ≡ (take (80 * i) after ++ z) ++ drop 80 (drop (80 * i) after)
      placed = sym (append_assoc (take (80 * i) after) z (drop 80 (drop (80 * i) after)))

      new-front : take (80 * (i + 1)) (put_mid (80 * i) 80 after z) ≡ take (80 * i) after ++ z
      new-front = rw placed (take_at (take (80 * i) after ++ z) (drop 80 (drop (80 * i) after)) (80 * (i + 1)) front_long)

      new-behind : drop (80 * (i + 1)) (put_mid (80 * i) 80 after z) ≡ drop (80 * (i + 1)) before
      new-behind =
          let b : drop 80 (drop (80 * i) after) ≡ drop (80 * (i + 1)) before = rw (p.behind, next_place) (drop-drop 80 (80 * i) before) in
          rw placed (drop_at (take (80 * i) after ++ z) (drop 80 (drop (80 * i) after)) (80 * (i + 1)) front_long ∙ b)

      new-long : length (put_mid (80 * i) 80 after z) ≡ length before
      new-long =
          let k = placing-room h in
          rw (placed, length-append (take (80 * i) after ++ z) (drop 80 (drop (80 * i) after)), front_long, length-drop, length-drop) (omega (arith, p.long))

      pub placing-next : {work' : List ℕ} → length work' ≡ length work → Placing how most shelf lengths before (put_mid (80 * i) (80 * i + 80 - 80 * i) after z) work₀ work' (at + n) (i + 1)
      unfolding rows
      placing-next w =
          let f = of_image how most (length work₀) in
          let rest = rows (map f (images (drop (i + 1) lengths) (drop (at + n) shelf))) in
          let e : rows (map f (images (drop i lengths) (drop at shelf))) ≡ z ++ rest = rw (rest-images, is_row) in
          rw one_place (record {
            inside = omega arith;
            ends = image-ends;
            room = p.room;
            long = new-long;
            size = w ∙ p.size;
            front = rw new-front (append_assoc (take (80 * i) after) z rest ∙ rw e at p.front);
            behind = new-behind;
          })

-- ---- the whole

pub all-wide : (how : Option How) (most work : ℕ) (l : List (List ℕ)) → AllWide (map (of_image how most work) l)
all-wide how most work [] = none-wide
all-wide how most work (image ∷ l) = more-wide (image-wide how most work image) (all-wide how most work l)

rows_append : (fs gs : List Figures) → rows (fs ++ gs) ≡ rows fs ++ rows gs
unfolding rows
rows_append [] gs = refl
rows_append (f ∷ fs) gs = rw (rows_append fs gs) (sym (append_assoc (row f) (rows fs) (rows gs)))

rows-one : (f : Figures) → rows (f ∷ []) ≡ row f
unfolding rows
rows-one f = append-nil (row f)

pub rows-with-total : (fs : List Figures) → rows (with_total fs) ≡ rows fs ++ row (all_added fs)
rows-with-total fs = rows_append fs (all_added fs ∷ []) ∙ rw (rows-one (all_added fs))

module _ (how : Option How) (most : ℕ) (shelf lengths before work : List ℕ) where
  no-fit : fits shelf lengths before ≡ false → ◌≡◌ {A = Result ⊤ Refusal} (Err BadShelf) (room_for shelf lengths before) × (before ≡ (surveys how most shelf lengths before work).figures)
  no-fit e = (rw e, rw e)

  -- the lengths pass the shelf
  long-shelf : leb (sum lengths) (length shelf) ≡ false → fits shelf lengths before ≡ false
  long-shelf e = rw e

  few-places : length before / 80 ≤ length lengths → fits shelf lengths before ≡ false
  few-places h = rw (lt-leb (80 * (length lengths + 1)) (length before) (omega arith)) (and-false (leb (sum lengths) (length shelf)))
    where
      and-false : (b : Bool) → (b && false) ≡ false
      and-false true = refl
      and-false false = refl

  pub shelf-passed : {r : Bool} → r ≡ leb (sum lengths) (length shelf) → r ≡ false → ◌≡◌ {A = Result ⊤ Refusal} (Err BadShelf) (room_for shelf lengths before)
  shelf-passed e f = (no-fit (long-shelf (sym e ∙ f))).0

  pub shelf-kept : {r : Bool} → r ≡ leb (sum lengths) (length shelf) → r ≡ false → before ≡ (surveys how most shelf lengths before work).figures
  shelf-kept e f = (no-fit (long-shelf (sym e ∙ f))).1

  pub places-few : length before / 80 ≤ length lengths → ◌≡◌ {A = Result ⊤ Refusal} (Err BadShelf) (room_for shelf lengths before)
  places-few h = (no-fit (few-places h)).0

  pub places-kept : length before / 80 ≤ length lengths → before ≡ (surveys how most shelf lengths before work).figures
  places-kept h = (no-fit (few-places h)).1

  module _ {r : Bool} (e : r ≡ leb (sum lengths) (length shelf)) (f : r ≡ true) (h : length lengths < length before / 80) where
    enough : 80 * (length lengths + 1) ≤ length before
    enough = omega arith

    fit : fits shelf lengths before ≡ true
    fit = rw (← e, f, le-leb (80 * (length lengths + 1)) (length before) enough)

    each : List Figures
    each = map (of_image how most (length work)) (images lengths shelf)

    each-many : length each ≡ length lengths
    unfolding each
    each-many = length-map (images lengths shelf) (of_image how most (length work)) ∙ images-long lengths shelf

    each-wide : AllWide each
    unfolding each
    each-wide = all-wide how most (length work) (images lengths shelf)

    rest : List ℕ
    rest = drop (80 * length lengths) before

    rest-long : 80 ≤ length rest
    unfolding rest
    rest-long = rw length-drop (omega (arith, enough))

    pub room-each : 80 * length lengths ≤ length before
    room-each = omega (arith, enough)

    pub done-answer : ◌≡◌ {A = Result ⊤ Refusal} (Ok tt) (room_for shelf lengths before)
    done-answer = rw fit refl

    pub done-figures : {s u : List ℕ} → s ≡ rows (map (of_image how most (length work)) (images lengths shelf)) ++ drop (80 * length lengths) before → u ≡ totaled (length lengths) s
        → u ≡ (surveys how most shelf lengths before work).figures
    unfolding each rest surveyed
    done-figures {s} {u} g t =
        let o : totaled (length lengths) (rows each ++ rest) ≡ rows each ++ row (all_added each) ++ drop 80 rest = rw each-many at (rows-total each-wide rest rest-long) in
        let k : u ≡ rows each ++ row (all_added each) ++ drop 80 rest = t ∙ rw g o in
        let m : 80 * (length lengths + 1) ≡ 80 * length lengths + 80 = omega arith in
        let b : drop 80 rest ≡ drop (80 * (length lengths + 1)) before = rw m (drop-drop 80 (80 * length lengths) before) in
        rw fit (k ∙ rw (b, ← (rows-with-total each)))

  -- with the work space cleared
  abbrev full : Surveyed
  full = record { answer = 0; figures = rows (surveyed how most (length work) lengths shelf) ++ drop (80 * (length lengths + 1)) before; work = replicate (length work) 0 }

  abbrev bad : Surveyed
  bad = record { answer = number BadShelf; figures = before; work = replicate (length work) 0 }

  module _ {s : List ℕ} (q : s ≡ (surveys how most shelf lengths before work).figures) (w : List ℕ) {w' : List ℕ} (l : length w ≡ length work) (z : w' ≡ replicate (length w) 0) where
    pub survey-done : {t : ⊤} → ◌≡◌ {A = Result ⊤ Refusal} (Ok t) (room_for shelf lengths before) → ◌≡◌ {A = Surveyed} (record { answer = 0; figures = s; work = w' }) (surveys how most shelf lengths before work)
    survey-done {t} e = by (fits shelf lengths before) e q
      where
        by : (b : Bool) → ◌≡◌ {A = Result ⊤ Refusal} (Ok t) (pick b (Ok tt) (Err BadShelf)) → s ≡ (pick b full bad).figures → ◌≡◌ {A = Surveyed} (record { answer = 0; figures = s; work = w' }) (pick b full bad)
        by true e f = rw (f, z, l)
        by false e f = absurd cc

    pub survey-bad : {why : Refusal} → ◌≡◌ {A = Result ⊤ Refusal} (Err why) (room_for shelf lengths before) → {a : ℕ} → a ≡ number why → ◌≡◌ {A = Surveyed} (record { answer = a; figures = s; work = w' }) (surveys how most shelf lengths before work)
    survey-bad {why} e {a} g = by (fits shelf lengths before) e q
      where
        by : (b : Bool) → ◌≡◌ {A = Result ⊤ Refusal} (Err why) (pick b (Ok tt) (Err BadShelf)) → s ≡ (pick b full bad).figures → ◌≡◌ {A = Surveyed} (record { answer = a; figures = s; work = w' }) (pick b full bad)
        by true e f = absurd cc
        by false e f =
            let n : why ≡ BadShelf = cc in
            rw (g, n, f, z, l)

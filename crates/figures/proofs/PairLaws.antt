-- Laws of a figure as two numbers, held at 2^64 - 1 and marked. Assumes nothing.
use mathlib.Core.Path.{◌≡◌, refl}
use mathlib.Core.Bool.{Bool, true, false, ◌&&◌}
use mathlib.Core.List.{List, [], ◌∷◌}
use mathlib.Core.Logic.{⊎_elim}
use Prim.Native.Nat.{ℕ, ◌+◌, ◌-◌, ◌<◌, ◌≤◌, ◌^◌, max}
use native.Mathlib.Omega.{arith}
use native.Mathlib.Numerals.{add-one}
use lib.ListN.{length, get_or, set, length-set}
use lib.Seq.{sets}
use lib.Dec.{eqb, leb}
use borrow.Author.Tests.{eq-eqb, ne_eqb, le-leb, lt-leb}
use Rattle.disc.specs.Choice.{pick}
use Rattle.disc.specs.Counts.{reported}
use Rattle.disc.proofs.ImageLaws.{split}
use Rattle.figures.specs.Figures.{most, over, summed, greater}

-- ---- the ways two figures are added, as the code comes to them

module _ (h o n p : ℕ) where
  pub sum_over : (o ≡ 0 → ⊥) → most ∷ 1 ∷ [] ≡ summed h o n p
  sum_over x = rw (ne_eqb o 0 x)

  pub sum-more-over : o ≡ 0 → (p ≡ 0 → ⊥) → most ∷ 1 ∷ [] ≡ summed h o n p
  sum-more-over e x = rw (eq-eqb o 0 e, ne_eqb p 0 x)

  pub sum-passes : o ≡ 0 → p ≡ 0 → most - h < n → most ∷ 1 ∷ [] ≡ summed h o n p
  sum-passes e f x =
      let y : most < h + n = omega arith in
      rw (eq-eqb o 0 e, eq-eqb p 0 f, lt-leb (h + n) most y)

  pub sum_fits : o ≡ 0 → p ≡ 0 → h < 2 ^ 64 → n ≤ most - h → (h + n) ∷ 0 ∷ [] ≡ summed h o n p
  sum_fits e f k x =
      let y : h + n ≤ most = omega arith in
      rw (eq-eqb o 0 e, eq-eqb p 0 f, le-leb (h + n) most y)

  pub longer-over : (o ≡ 0 → ⊥) → most ∷ 1 ∷ [] ≡ greater h o n p
  longer-over x = rw (ne_eqb o 0 x)

  pub longer-more-over : o ≡ 0 → (p ≡ 0 → ⊥) → most ∷ 1 ∷ [] ≡ greater h o n p
  longer-more-over f x = rw (eq-eqb o 0 f, ne_eqb p 0 x)

  pub longer-fits : {m : ℕ} → m ≡ max h n → o ≡ 0 → p ≡ 0 → m ∷ 0 ∷ [] ≡ greater h o n p
  longer-fits e f g = rw (e, eq-eqb o 0 f, eq-eqb p 0 g)

  -- both are two numbers
  pub summed-long : length (summed h o n p) ≡ 2
  summed-long = by (eqb o 0 && eqb p 0 && leb (h + n) most)
    where
      by : (t : Bool) → length (pick t ((h + n) ∷ 0 ∷ []) (most ∷ 1 ∷ [])) ≡ 2
      by true = refl
      by false = refl

  pub greater-long : length (greater h o n p) ≡ 2
  greater-long = by (eqb o 0 && eqb p 0)
    where
      by : (t : Bool) → length (pick t (max h n ∷ 0 ∷ []) (most ∷ 1 ∷ [])) ≡ 2
      by true = refl
      by false = refl

-- ---- stored where they stand

stored : (s v : List ℕ) (at : ℕ) → length v ≡ 2 → set (set s at (get_or v 0 0)) (at + 1) (get_or v 1 0) ≡ sets s at v
stored s [] at h = absurd (omega arith)
stored s (a ∷ []) at h = absurd (omega arith)
stored s (a ∷ b ∷ []) at h = rw add-one
stored s (a ∷ b ∷ c ∷ v) at h = absurd (omega arith)

module _ (s : List ℕ) (at n p : ℕ) {r : List ℕ} where
  pub sum-stored : r ≡ summed (get_or s at 0) (get_or s (at + 1) 0) n p
      → set (set s at (get_or r 0 0)) (at + 1) (get_or r 1 0) ≡ sets s at (summed (get_or s at 0) (get_or s (at + 1) 0) n p)
  sum-stored e = rw e (stored s (summed (get_or s at 0) (get_or s (at + 1) 0) n p) at (summed-long (get_or s at 0) (get_or s (at + 1) 0) n p))

  pub longer-stored : r ≡ greater (get_or s at 0) (get_or s (at + 1) 0) n p
      → set (set s at (get_or r 0 0)) (at + 1) (get_or r 1 0) ≡ sets s at (greater (get_or s at 0) (get_or s (at + 1) 0) n p)
  longer-stored e = rw e (stored s (greater (get_or s at 0) (get_or s (at + 1) 0) n p) at (greater-long (get_or s at 0) (get_or s (at + 1) 0) n p))

-- there is room for the second number behind the first
pub room-behind : (s : List ℕ) (at a : ℕ) → at + 2 ≤ length s → at + 1 < length (set s at a)
room-behind s at a h = rw length-set (omega arith)

-- ---- of true numbers

pub over-above : (n : ℕ) → most < n → over n ≡ 1
over-above n h = rw (lt-leb n most h)

pub over-within : (n : ℕ) → n ≤ most → over n ≡ 0
over-within n h = rw (le-leb n most h)

pub reported-above : (n : ℕ) → most < n → reported n ≡ most
reported-above n h = omega arith

pub reported-within : (n : ℕ) → n ≤ most → reported n ≡ n
reported-within n h = omega arith

pub summed-is : (a b : ℕ) → summed (reported a) (over a) (reported b) (over b) ≡ reported (a + b) ∷ over (a + b) ∷ []
summed-is a b = ⊎_elim
    (λ (h : a ≤ most). ⊎_elim
    (λ (k : b ≤ most). ⊎_elim
    (λ (l : a + b ≤ most). rw (reported-within a h, over-within a h, reported-within b k, over-within b k, reported-within (a + b) l, le-leb (a + b) most l))
    (λ (l : most < a + b). rw (reported-within a h, over-within a h, reported-within b k, over-within b k, reported-above (a + b) l, lt-leb (a + b) most l))
    (split (a + b) most))
    (λ (k : most < b). let l : most < a + b = omega arith in rw (over-within a h, over-above b k, reported-above (a + b) l, over-above (a + b) l))
    (split b most))
    (λ (h : most < a). let l : most < a + b = omega arith in rw (over-above a h, reported-above (a + b) l, over-above (a + b) l))
    (split a most)

pub greater-is : (a b : ℕ) → greater (reported a) (over a) (reported b) (over b) ≡ reported (max a b) ∷ over (max a b) ∷ []
greater-is a b = ⊎_elim
    (λ (h : a ≤ most). ⊎_elim
    (λ (k : b ≤ most). let l : max a b ≤ most = omega arith in rw (reported-within a h, over-within a h, reported-within b k, over-within b k, reported-within (max a b) l, over-within (max a b) l))
    (λ (k : most < b). let l : most < max a b = omega arith in rw (over-within a h, over-above b k, reported-above (max a b) l, over-above (max a b) l))
    (split b most))
    (λ (h : most < a). let l : most < max a b = omega arith in rw (over-above a h, reported-above (max a b) l, over-above (max a b) l))
    (split a most)

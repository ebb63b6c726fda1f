-- Laws of a row of figures, each as two numbers, and of a place with some of them changed. Assumes nothing.
use mathlib.Core.Path.{◌≡◌, refl, ap, ◌∙◌}
use mathlib.Core.List.{List, [], ◌∷◌, ◌++◌}
use Prim.Native.Nat.{ℕ, zero, suc, ◌+◌, ◌-◌, ◌*◌, ◌<◌, ◌≤◌, max}
use native.Mathlib.Nat.{add-zero, mul-suc, suc-add, zero-add}
use native.Mathlib.Numerals.{add-two}
use native.Mathlib.Omega.{arith}
use lib.ListN.{length, get_or, set, replicate, length-append, get_or-append}
use lib.Seq.{sets, set-append_left, get_or-append-add, get_or_at, set_at}
use Rattle.disc.specs.Counts.{reported}
use Rattle.figures.specs.Figures.{over, pairs, summed, greater, each_added, one_at, places_added}
use Rattle.figures.proofs.PairLaws.{summed-is, greater-is}

-- ---- lists of numbers added

pub each_long : (s t : List ℕ) → length (each_added s t) ≡ length s
unfolding each_added
each_long [] t = refl
each_long (a ∷ s) [] = refl
each_long (a ∷ s) (b ∷ t) = ap suc (each_long s t)

pub each_none : (s : List ℕ) (n : ℕ) → each_added s (replicate n 0) ≡ s
unfolding each_added
each_none [] n = refl
each_none (a ∷ s) zero = refl
each_none (a ∷ s) (suc n) = rw (add-zero, each_none s n)

each_at : (s : List ℕ) (n m : ℕ) → n < length s → each_added s (replicate n 0 ++ 1 ∷ replicate m 0) ≡ set s n (get_or s n 0 + 1)
unfolding each_added
each_at [] n m h = absurd (omega arith)
each_at (a ∷ s) zero m h = rw (each_none s m)
each_at (a ∷ s) (suc n) m h = rw (add-zero, each_at s n m (omega arith))

pub each-one : (s : List ℕ) (n : ℕ) → length s ≡ 17 → n ≤ 16 → each_added s (one_at n) ≡ set s n (get_or s n 0 + 1)
each-one s n e h = each_at s n (16 - n) (omega arith)

pub each_append : (s t s' t' : List ℕ) → length s ≡ length s' → each_added (s ++ t) (s' ++ t') ≡ each_added s s' ++ each_added t t'
unfolding each_added
each_append [] t [] t' e = refl
each_append [] t (b ∷ s') t' e = absurd (omega arith)
each_append (a ∷ s) t [] t' e = absurd (omega arith)
each_append (a ∷ s) t (b ∷ s') t' e = rw (each_append s t s' t' (omega arith))

-- ---- two numbers for each

pub pairs-long : (ns : List ℕ) → length (pairs ns) ≡ 2 * length ns
unfolding pairs
pairs-long [] = refl
pairs-long (n ∷ ns) = rw (pairs-long ns) (omega arith)

pub pairs-number : (ns : List ℕ) (i : ℕ) → get_or (pairs ns) (2 * i) 0 ≡ reported (get_or ns i 0)
unfolding pairs
pairs-number [] i = refl
pairs-number (n ∷ ns) zero = refl
pairs-number (n ∷ ns) (suc i) = rw (mul-suc, add-two) (pairs-number ns i)

pub pairs-mark : (ns : List ℕ) (i : ℕ) → get_or (pairs ns) (2 * i + 1) 0 ≡ over (get_or ns i 0)
unfolding pairs
pairs-mark [] i = refl
pairs-mark (n ∷ ns) zero = refl
pairs-mark (n ∷ ns) (suc i) = rw (mul-suc, add-two, suc-add, suc-add) (pairs-mark ns i)

sets-cons : (a : ℕ) (s : List ℕ) (i : ℕ) (v : List ℕ) → sets (a ∷ s) (suc i) v ≡ a ∷ sets s i v
sets-cons a s i [] = refl
sets-cons a s i (b ∷ v) = sets-cons a (set s i b) (suc i) v

-- the figure at i becomes another
pairs-at : (ns : List ℕ) (i m : ℕ) → i < length ns → sets (pairs ns) (2 * i) (reported m ∷ over m ∷ []) ≡ pairs (set ns i m)
unfolding pairs
pairs-at [] i m h = absurd (omega arith)
pairs-at (n ∷ ns) zero m h = refl
pairs-at (n ∷ ns) (suc i) m h =
    let v = reported m ∷ over m ∷ [] in
    rw (mul-suc, add-two) (sets-cons (reported n) (over n ∷ pairs ns) (suc (2 * i)) v ∙ ap (λ t. reported n ∷ t) (sets-cons (over n) (pairs ns) (2 * i) v)
    ∙ ap (λ t. reported n ∷ over n ∷ t) (pairs-at ns i m (omega arith)))

module _ {s t : List ℕ} (ns : List ℕ) (at i m : ℕ) (e : s ≡ pairs ns) (a : at ≡ 2 * i) (h : i < length ns) where
  pub sum-at : t ≡ sets s at (summed (get_or s at 0) (get_or s (at + 1) 0) (reported m) (over m)) → t ≡ pairs (set ns i (get_or ns i 0 + m))
  sum-at f = f ∙ rw (e, a, pairs-number ns i, pairs-mark ns i, summed-is (get_or ns i 0) m) (pairs-at ns i (get_or ns i 0 + m) h)

  pub longer-at : t ≡ sets s at (greater (get_or s at 0) (get_or s (at + 1) 0) (reported m) (over m)) → t ≡ pairs (set ns i (max (get_or ns i 0) m))
  longer-at f = f ∙ rw (e, a, pairs-number ns i, pairs-mark ns i) (ap (sets (pairs ns) (2 * i)) (greater-is (get_or ns i 0) m) ∙ pairs-at ns i (max (get_or ns i 0) m) h)

-- two rows of sums with a greater one behind them
pub pairs-added : (k : ℕ) (ms ns : List ℕ) (a b : ℕ) → length ms ≡ k → length ns ≡ k
    → places_added k (pairs (ms ++ a ∷ [])) (pairs (ns ++ b ∷ [])) ≡ pairs (each_added ms ns ++ max a b ∷ [])
unfolding pairs places_added each_added
pairs-added zero [] [] a b e f = ap (λ (l : List ℕ). l ++ []) (greater-is a b)
pairs-added zero [] (n ∷ ns) a b e f = absurd (omega arith)
pairs-added zero (m ∷ ms) ns a b e f = absurd (omega arith)
pairs-added (suc k) [] ns a b e f = absurd (omega arith)
pairs-added (suc k) (m ∷ ms) [] a b e f = absurd (omega arith)
pairs-added (suc k) (m ∷ ms) (n ∷ ns) a b e f = rw (summed-is m n, pairs-added k ms ns a b (omega arith) (omega arith))

-- ---- five numbers, two lists and one number more: one of them changed

set-behind : (p q : List ℕ) (i v : ℕ) → set (p ++ q) (length p + i) v ≡ p ++ set q i v
set-behind [] q i v = rw zero-add
set-behind (a ∷ p) q i v = rw suc-add (ap (λ t. a ∷ t) (set-behind p q i v))

abbrev pub laid : ℕ → ℕ → ℕ → ℕ → ℕ → List ℕ → List ℕ → ℕ → List ℕ
laid a b c d e s t n = a ∷ b ∷ c ∷ d ∷ e ∷ (s ++ t ++ n ∷ [])

module _ (a b c d e : ℕ) (s t : List ℕ) (n : ℕ) (x : length s ≡ 17) (y : length t ≡ 17) where
  abbrev front : List ℕ
  front = a ∷ b ∷ c ∷ d ∷ e ∷ []

  abbrev middle : List ℕ
  middle = a ∷ b ∷ c ∷ d ∷ e ∷ s

  lists-long : length (s ++ t) ≡ 34
  lists-long = rw length-append (omega arith)

  sums-long : length (middle ++ t) ≡ 39
  sums-long = omega (arith, lists-long)

  pub laid-long : length (laid a b c d e s t n) ≡ 40
  laid-long = rw length-append (omega (arith, lists-long))

  module _ (k : ℕ) (h : k ≤ 16) where
    pub first-list : get_or (laid a b c d e s t n) (5 + k) 0 ≡ get_or s k 0
    first-list =
        get_or-append-add front (s ++ t ++ n ∷ []) k 0
        ∙ get_or-append (s ++ t) (n ∷ []) 0 k (omega (arith, lists-long))
        ∙ get_or-append s t 0 k (omega arith)

    pub first-set : (v : ℕ) → set (laid a b c d e s t n) (5 + k) v ≡ laid a b c d e (set s k v) t n
    first-set v =
        set-behind front (s ++ t ++ n ∷ []) k v
        ∙ ap (λ l. front ++ l) (set-append_left (s ++ t) (n ∷ []) k v (omega (arith, lists-long)))
        ∙ ap (λ l. front ++ (l ++ n ∷ [])) (set-append_left s t k v (omega arith))

    at_second : 22 + k ≡ length middle + k
    at_second = omega arith

    pub second-list : get_or (laid a b c d e s t n) (22 + k) 0 ≡ get_or t k 0
    second-list = get_or-append (middle ++ t) (n ∷ []) 0 (22 + k) (omega (arith, sums-long)) ∙ rw at_second (get_or-append-add middle t k 0)

    pub second-set : (v : ℕ) → set (laid a b c d e s t n) (22 + k) v ≡ laid a b c d e s (set t k v) n
    second-set v =
        set-append_left (middle ++ t) (n ∷ []) (22 + k) v (omega (arith, sums-long))
        ∙ rw at_second (ap (λ l. l ++ n ∷ []) (set-behind middle t k v))

  pub last-number : get_or (laid a b c d e s t n) 39 0 ≡ n
  last-number = get_or_at (middle ++ t) n [] 0 39 sums-long

  pub last_set : (v : ℕ) → set (laid a b c d e s t n) 39 v ≡ laid a b c d e s t v
  last_set v = set_at (middle ++ t) n [] v 39 sums-long

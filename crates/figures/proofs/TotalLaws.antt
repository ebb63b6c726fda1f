-- What the loops that add places up cite. Assumes nothing.
use mathlib.Core.Path.{◌≡◌, refl, ap, sym, ◌∙◌}
use mathlib.Core.List.{List, [], ◌∷◌, ◌++◌, append_assoc, append-nil}
use Prim.Native.Nat.{ℕ, zero, suc, ◌+◌, ◌-◌, ◌*◌, ◌/◌, ◌<◌, ◌≤◌}
use native.Mathlib.Numerals.{add-one, add-two}
use native.Mathlib.Omega.{arith}
use lib.ListN.{length, get_or, take, drop, set, replicate, length-drop, length-append, take-append-drop}
use lib.Seq.{sets, length-sets, sets-eq, drop-cons, drop-drop, drop-set-lt, take-set-le, get_or-take, take-take, take_at, drop_at, take-add, length-take-le}
use borrow.Rule.Slice.PartMut.{mid_of, put_mid}
use borrow.Author.Tests.{le-leb, lt-leb}
use Rattle.disc.proofs.MoveLaws.{sets-append}
use Rattle.figures.specs.Figures.{summed, greater, places_added, total_of, totaled, total_answer}
use Rattle.figures.proofs.PairLaws.{summed-long, greater-long}

-- ---- stores and what they leave alone

take-sets : (n : ℕ) (s : List ℕ) (at : ℕ) (v : List ℕ) → n ≤ at → take n (sets s at v) ≡ take n s
take-sets n s at [] h = refl
take-sets n s at (a ∷ v) h = take-sets n (set s at a) (suc at) v (omega arith) ∙ take-set-le n s at a h

drop-sets : (n : ℕ) (s : List ℕ) (at : ℕ) (v : List ℕ) → at + length v ≤ n → drop n (sets s at v) ≡ drop n s
drop-sets n s at [] h = refl
drop-sets n s at (a ∷ v) h = drop-sets n (set s at a) (suc at) v (omega arith) ∙ drop-set-lt n s at a (omega arith)

-- what was stored
part-sets : (n : ℕ) (s : List ℕ) (at : ℕ) (v : List ℕ) → length v ≡ n → at + n ≤ length s → take n (drop at (sets s at v)) ≡ v
part-sets n s at v e h =
    let k : length (take at s) ≡ at = length-take-le at s (omega arith) in
    let l : at + length v ≤ length s = omega arith in
    rw (sets-eq v s at l, append_assoc, drop_at (take at s) (v ++ drop (at + length v) s) at k) (take_at v (drop (at + length v) s) n e)

part-take : (a n m : ℕ) (s : List ℕ) → a + n ≤ m → take n (drop a (take m s)) ≡ take n (drop a s)
part-take zero n m s h = take-take n m s (omega arith)
part-take (suc a) n zero s h = absurd (omega arith)
part-take (suc a) n (suc m) [] h = refl
part-take (suc a) n (suc m) (x ∷ s) h = part-take a n m s (omega arith)

-- two rows with the same front have the same parts in it
part_same : (a n m : ℕ) (s t : List ℕ) → a + n ≤ m → take m s ≡ take m t → take n (drop a s) ≡ take n (drop a t)
part_same a n m s t h e = sym (part-take a n m s h) ∙ ap (λ l. take n (drop a l)) e ∙ part-take a n m t h

get_or-same : (i m : ℕ) (s t : List ℕ) → i < m → take m s ≡ take m t → get_or s i 0 ≡ get_or t i 0
get_or-same i m s t h e = sym (get_or-take m s i 0 h) ∙ ap (λ l. get_or l i 0) e ∙ get_or-take m t i 0 h

-- the first two of a part
two-in-front : (w i : ℕ) (s : List ℕ) → i + 1 < length s → take (suc (suc w)) (drop i s) ≡ get_or s i 0 ∷ get_or s (i + 1) 0 ∷ take w (drop (i + 2) s)
two-in-front w i s h =
    let k : i < length s = omega arith in
    let l : suc i < length s = omega arith in
    rw (add-one, add-two, drop-cons s i 0, drop-cons s (suc i) 0)

-- ---- a place added to another, and k of its sums are done

pub record Adding (p₀ p : List ℕ) (to from k : ℕ) : Type 0 where
  pub within : k ≤ 39
  pub apart : from + 80 ≤ to
  pub room : to + 80 ≤ length p₀
  pub long : length p ≡ length p₀
  pub front : take to p ≡ take to p₀
  pub rest : sets p (to + 2 * k) (places_added (39 - k) (take (80 - 2 * k) (drop (to + 2 * k) p)) (take (80 - 2 * k) (drop (from + 2 * k) p₀)))
      ≡ sets p₀ to (places_added 39 (take 80 (drop to p₀)) (take 80 (drop from p₀)))

-- what is left to do, with one sum done
one-sum : (p p₀ : List ℕ) (at from m w : ℕ) → at + 1 < length p → from + 1 < length p₀
    → sets p at (places_added (suc m) (take (suc (suc w)) (drop at p)) (take (suc (suc w)) (drop from p₀)))
    ≡ sets (sets p at (summed (get_or p at 0) (get_or p (at + 1) 0) (get_or p₀ from 0) (get_or p₀ (from + 1) 0))) (at + 2) (places_added m (take w (drop (at + 2) p)) (take w (drop (from + 2) p₀)))
unfolding places_added
one-sum p p₀ at from m w h k =
    let o = summed (get_or p at 0) (get_or p (at + 1) 0) (get_or p₀ from 0) (get_or p₀ (from + 1) 0) in
    let rest = places_added m (take w (drop (at + 2) p)) (take w (drop (from + 2) p₀)) in
    rw (two-in-front w at p h, two-in-front w from p₀ k) (sets-append o rest p at
    ∙ ap (λ n. sets (sets p at o) (at + n) rest) (summed-long (get_or p at 0) (get_or p (at + 1) 0) (get_or p₀ from 0) (get_or p₀ (from + 1) 0)))

module _ {p₀ p : List ℕ} {to from k : ℕ} (a : Adding p₀ p to from k) where
  module _ (h : k < 39) where
    left-sums : 39 - k ≡ suc (39 - (k + 1))
    left-sums = omega arith

    left-numbers : 80 - 2 * k ≡ suc (suc (80 - 2 * (k + 1)))
    left-numbers = omega arith

    next-from : from + 2 * (k + 1) ≡ from + 2 * k + 2
    next-from = omega arith

    next-to : to + 2 * (k + 1) ≡ to + 2 * k + 2
    next-to = omega arith

    room-to : to + 2 * k + 1 < length p
    room-to = omega (arith, a.long, a.room)

    room-from : from + 2 * k + 1 < length p₀
    room-from = omega (arith, a.room, a.apart)

    -- the place that is added is as it was
    same_number : get_or p (from + 2 * k) 0 ≡ get_or p₀ (from + 2 * k) 0
    same_number = get_or-same (from + 2 * k) to p p₀ (omega (arith, a.apart)) a.front

    same-mark : get_or p (from + 2 * k + 1) 0 ≡ get_or p₀ (from + 2 * k + 1) 0
    same-mark = get_or-same (from + 2 * k + 1) to p p₀ (omega (arith, a.apart)) a.front

    pub adding-next : {p' : List ℕ}
        → p' ≡ sets p (to + 2 * k) (summed (get_or p (to + 2 * k) 0) (get_or p (to + 2 * k + 1) 0) (get_or p (from + 2 * k) 0) (get_or p (from + 2 * k + 1) 0))
        → Adding p₀ p' to from (k + 1)
    adding-next {p'} g =
        let o = summed (get_or p (to + 2 * k) 0) (get_or p (to + 2 * k + 1) 0) (get_or p₀ (from + 2 * k) 0) (get_or p₀ (from + 2 * k + 1) 0) in
        let e : p' ≡ sets p (to + 2 * k) o = rw (same_number, same-mark) at g in
        let l : length o ≡ 2 = summed-long (get_or p (to + 2 * k) 0) (get_or p (to + 2 * k + 1) 0) (get_or p₀ (from + 2 * k) 0) (get_or p₀ (from + 2 * k + 1) 0) in
        let d : drop (to + 2 * k + 2) p' ≡ drop (to + 2 * k + 2) p = rw e (drop-sets (to + 2 * k + 2) p (to + 2 * k) o (omega arith)) in
        record {
          within = omega arith;
          apart = a.apart;
          room = a.room;
          long = rw (e, length-sets) a.long;
          front = rw e (take-sets to p (to + 2 * k) o (omega arith) ∙ a.front);
          rest = rw (next-to, next-from, d, e) (sym (one-sum p p₀ (to + 2 * k) (from + 2 * k) (39 - (k + 1)) (80 - 2 * (k + 1)) room-to room-from) ∙ rw (left-sums, left-numbers) at a.rest);
        }

  module _ (h : 39 ≤ k) where
    all-sums : k ≡ 39
    all-sums = omega (arith, a.within)

    chain-room : to + 78 + 1 < length p
    chain-room = omega (arith, a.long, a.room)

    pub adding-ends : {p' : List ℕ}
        → p' ≡ sets p (to + 78) (greater (get_or p (to + 78) 0) (get_or p (to + 78 + 1) 0) (get_or p (from + 78) 0) (get_or p (from + 78 + 1) 0))
        → p' ≡ sets p₀ to (places_added 39 (take 80 (drop to p₀)) (take 80 (drop from p₀)))
    unfolding places_added
    adding-ends {p'} g =
        let x : get_or p (from + 78) 0 ≡ get_or p₀ (from + 78) 0 = get_or-same (from + 78) to p p₀ (omega (arith, a.apart)) a.front in
        let y : get_or p (from + 78 + 1) 0 ≡ get_or p₀ (from + 78 + 1) 0 = get_or-same (from + 78 + 1) to p p₀ (omega (arith, a.apart)) a.front in
        let z : from + 78 + 1 < length p₀ = omega (arith, a.room, a.apart) in
        rw (x, y) at g
        ∙ rw (two-in-front 0 (to + 78) p chain-room, two-in-front 0 (from + 78) p₀ z, append-nil) at (rw all-sums at a.rest)

-- ---- n places added to the one behind them, and i of them are

places-long : (k : ℕ) (s t : List ℕ) → length (places_added k s t) ≡ length s
unfolding places_added
places-long k [] t = refl
places-long k (h ∷ []) t = refl
places-long k (h ∷ o ∷ s) [] = refl
places-long k (h ∷ o ∷ s) (n ∷ []) = refl
places-long zero (h ∷ o ∷ s) (n ∷ p ∷ t) = rw (length-append (greater h o n p) s, greater-long h o n p) (omega arith)
places-long (suc k) (h ∷ o ∷ s) (n ∷ p ∷ t) = rw (length-append (summed h o n p) (places_added k s t), summed-long h o n p, places-long k s t) (omega arith)

pub record Totaling (p₀ p : List ℕ) (n i : ℕ) : Type 0 where
  pub within : i ≤ n
  pub room : 80 * (n + 1) ≤ length p₀
  pub long : length p ≡ length p₀
  pub front : take (80 * n) p ≡ take (80 * n) p₀
  pub behind : drop (80 * (n + 1)) p ≡ drop (80 * (n + 1)) p₀
  pub rest : total_of (n - i) (take 80 (drop (80 * n) p)) (drop (80 * i) p₀) ≡ total_of n (take 80 (drop (80 * n) p₀)) p₀

module _ {p₀ p : List ℕ} {n i : ℕ} (a : Totaling p₀ p n i) where
  module _ (h : i < n) where
    one_less : n - i ≡ suc (n - (i + 1))
    one_less = omega arith

    next_place : drop 80 (drop (80 * i) p₀) ≡ drop (80 * (i + 1)) p₀
    next_place =
        let e : 80 * i + 80 ≡ 80 * (i + 1) = omega arith in
        drop-drop 80 (80 * i) p₀ ∙ rw e

    same_place : take 80 (drop (80 * i) p) ≡ take 80 (drop (80 * i) p₀)
    same_place = part_same (80 * i) 80 (80 * n) p p₀ (omega arith) a.front

    total-long : length (take 80 (drop (80 * n) p)) ≡ 80
    total-long = length-take-le 80 (drop (80 * n) p) (rw length-drop (omega (arith, a.long, a.room)))

    pub totaling-next : {p' : List ℕ} → p' ≡ sets p (80 * n) (places_added 39 (take 80 (drop (80 * n) p)) (take 80 (drop (80 * i) p))) → Totaling p₀ p' n (i + 1)
    unfolding total_of
    totaling-next {p'} g =
        let v = places_added 39 (take 80 (drop (80 * n) p)) (take 80 (drop (80 * i) p₀)) in
        let e : p' ≡ sets p (80 * n) v = rw same_place at g in
        let l : length v ≡ 80 = places-long 39 (take 80 (drop (80 * n) p)) (take 80 (drop (80 * i) p₀)) ∙ total-long in
        let t : take 80 (drop (80 * n) p') ≡ v = rw e (part-sets 80 p (80 * n) v l (omega (arith, a.long, a.room))) in
        record {
          within = omega arith;
          room = a.room;
          long = rw (e, length-sets) a.long;
          front = rw e (take-sets (80 * n) p (80 * n) v (omega arith) ∙ a.front);
          behind = rw e (drop-sets (80 * (n + 1)) p (80 * n) v (omega arith) ∙ a.behind);
          rest = rw (t, ← next_place) (rw one_less at a.rest);
        }

  pub totaling-ends : n ≤ i → p ≡ take (80 * n) p₀ ++ total_of n (take 80 (drop (80 * n) p₀)) p₀ ++ drop (80 * (n + 1)) p₀
  unfolding total_of
  totaling-ends h =
      let z : n - i ≡ 0 = omega arith in
      let t : take 80 (drop (80 * n) p) ≡ total_of n (take 80 (drop (80 * n) p₀)) p₀ = rw z at a.rest in
      let m : 80 * (n + 1) ≡ 80 * n + 80 = omega arith in
      let w : take (80 * n) p ++ take 80 (drop (80 * n) p) ++ drop (80 * (n + 1)) p ≡ p = rw (m, ← (take-add (80 * n) 80 p)) (take-append-drop (80 * n + 80) p) in
      sym w ∙ rw (a.front, t, a.behind)

-- ---- the total

-- what n places come to is told by their numbers alone
total-same : (n : ℕ) (total s t : List ℕ) → take (80 * n) s ≡ take (80 * n) t → total_of n total s ≡ total_of n total t
unfolding total_of
total-same zero total s t e = refl
total-same (suc n) total s t e =
    let f : take 80 s ≡ take 80 t = part_same 0 80 (80 * suc n) s t (omega arith) e in
    let g : take (80 * n) (drop 80 s) ≡ take (80 * n) (drop 80 t) = part_same 80 (80 * n) (80 * suc n) s t (omega arith) e in
    rw f (total-same n (places_added 39 total (take 80 t)) (drop 80 s) (drop 80 t) g)

module _ (s : List ℕ) (n : ℕ) where
  pub total-few : length s / 80 ≤ n → 15 ≡ total_answer n s
  total-few h = rw (lt-leb (80 * (n + 1)) (length s) (omega arith))

  pub total_kept : length s / 80 ≤ n → s ≡ totaled n s
  total_kept h = rw (lt-leb (80 * (n + 1)) (length s) (omega arith))

  module _ (h : n < length s / 80) where
    enough : 80 * (n + 1) ≤ length s
    enough = omega arith

    pub total-answers : 0 ≡ total_answer n s
    total-answers = rw (le-leb (80 * (n + 1)) (length s) enough)

    -- one place, and nothing else, is cleared
    one_place : 80 * n + 80 - 80 * n ≡ 80
    one_place = omega arith

    front_long : length (take (80 * n) s) ≡ 80 * n
    front_long = length-take-le (80 * n) s (omega (arith, enough))

    lent-long : length (mid_of (80 * n) 80 s) ≡ 80
    lent-long = length-take-le 80 (drop (80 * n) s) (rw length-drop (omega (arith, enough)))

    zeros : List ℕ
    zeros = replicate 80 0

    cleared : List ℕ
    cleared = put_mid (80 * n) 80 s zeros

    cleared-front : take (80 * n) cleared ≡ take (80 * n) s
    unfolding cleared
    cleared-front = take_at (take (80 * n) s) (zeros ++ drop 80 (drop (80 * n) s)) (80 * n) front_long

    behind-front : drop (80 * n) cleared ≡ zeros ++ drop 80 (drop (80 * n) s)
    unfolding cleared
    behind-front = drop_at (take (80 * n) s) (zeros ++ drop 80 (drop (80 * n) s)) (80 * n) front_long

    cleared-place : take 80 (drop (80 * n) cleared) ≡ zeros
    unfolding zeros
    cleared-place = rw behind-front

    cleared-behind : drop (80 * (n + 1)) cleared ≡ drop (80 * (n + 1)) s
    unfolding zeros
    cleared-behind =
        let m : 80 * (n + 1) ≡ 80 * n + 80 = omega arith in
        rw m (sym (drop-drop 80 (80 * n) cleared) ∙ rw behind-front (drop-drop 80 (80 * n) s))

    pub total-done : {z t : List ℕ} → z ≡ replicate (length (mid_of (80 * n) (80 * n + 80 - 80 * n) s)) 0
        → t ≡ take (80 * n) (put_mid (80 * n) (80 * n + 80 - 80 * n) s z) ++ total_of n (take 80 (drop (80 * n) (put_mid (80 * n) (80 * n + 80 - 80 * n) s z))) (put_mid (80 * n) (80 * n + 80 - 80 * n) s z)
        ++ drop (80 * (n + 1)) (put_mid (80 * n) (80 * n + 80 - 80 * n) s z)
        → t ≡ totaled n s
    unfolding cleared zeros
    total-done {z} e g =
        let y : z ≡ zeros = e ∙ rw (one_place, lent-long) in
        let p : put_mid (80 * n) (80 * n + 80 - 80 * n) s z ≡ cleared = rw (one_place, y) in
        let f = rw p at g in
        rw (le-leb (80 * (n + 1)) (length s) enough) (f ∙ rw (cleared-front, cleared-place, cleared-behind, total-same n zeros cleared s cleared-front))

-- The lengths of the files, and the loops over them. Assumes nothing.
use mathlib.Core.Path.{◌≡◌, refl, ap, sym, ◌∙◌}
use mathlib.Core.Bool.{Bool, true, false}
use mathlib.Core.List.{List, [], ◌∷◌, ◌++◌}
use Prim.Native.Nat.{ℕ, zero, suc, ◌+◌, ◌-◌, ◌*◌, ◌<◌, ◌≤◌, min, zero-le}
use native.Mathlib.Numerals.{add-one}
use native.Mathlib.Omega.{arith}
use lib.ListN.{length, get_or, take, drop, length-append, length-drop, length-replicate, drop_of_length-le}
use lib.Seq.{drop-cons, sets, length-take-le}
use lib.Dec.{leb, ltb}
use borrow.Author.Tests.{lt-leb, le-leb, ltb-true, ltb-false}
use Rattle.std.specs.List.{list_all, sum_by}
use Rattle.std.specs.Int.{next_multiple_of}
use Rattle.std.proofs.lemmas.List.Sums.{sum_by-cons}
use Rattle.disc.specs.Choice.{pick}
use Rattle.disc.specs.Images.{sectors_for}
use Rattle.disc.proofs.PickLaws.{not-both}
use Rattle.disc.proofs.MoveLaws.{sets-append}
use Rattle.writers.specs.Layout.{summed, zeros, blocks_of, files_part}
use Rattle.writers.specs.Refusing.{longest, are_short, sum}
use Rattle.writers.specs.Inner.Pours.{Poured, Kept, Staged, Sums}
use Rattle.writers.proofs.PourLaws.{poured-then, poured-as}

-- ---- none is too long

pub short-all : (lengths : List ℕ) → list_all (λ n. leb n longest) lengths ≡ are_short lengths
unfolding are_short
short-all [] = refl
short-all (n ∷ ns) = by (ltb longest n) refl (short-all ns)
  where
    by : (t : Bool) → ltb longest n ≡ t → list_all (λ m. leb m longest) ns ≡ are_short ns → list_all (λ m. leb m longest) (n ∷ ns) ≡ pick t false (are_short ns)
    by true e h = rw (lt-leb n longest (ltb-true longest n e))
    by false e h = rw (le-leb n longest (ltb-false longest n e)) h

-- what it says of the first, of those behind, and of the one at i
pub short-cons : (n : ℕ) (ns : List ℕ) → are_short (n ∷ ns) ≡ true → (n ≤ longest) × (are_short ns ≡ true)
unfolding are_short
short-cons n ns e = by (ltb longest n) refl e
  where
    by : (t : Bool) → ltb longest n ≡ t → pick t false (are_short ns) ≡ true → (n ≤ longest) × (are_short ns ≡ true)
    by true f g = not-both g
    by false f g = (ltb-false longest n f, g)

short-get : (lengths : List ℕ) (i : ℕ) → are_short lengths ≡ true → get_or lengths i 0 ≤ longest
short-get [] i e = zero-le
short-get (n ∷ ns) zero e = (short-cons n ns e).0
short-get (n ∷ ns) (suc i) e = short-get ns i (short-cons n ns e).1

-- a length that isn't too long is held as it is
pub held-is : (lengths : List ℕ) (i : ℕ) {m : ℕ} → m ≡ min (get_or lengths i 0) longest → are_short lengths ≡ true → m ≡ get_or lengths i 0
held-is lengths i e s = omega (arith, short-get lengths i s)

-- ---- sums

pub summed_at : {A : Type 0} (f : A → ℕ) (l : List A) (i : ℕ) (d : A) → i < length l → summed f (drop i l) ≡ f (get_or l i d) + summed f (drop (i + 1) l)
unfolding summed
summed_at f l i d h = rw (add-one, drop-cons l i d)

pub summed-none : {A : Type 0} (f : A → ℕ) (l : List A) (i : ℕ) → length l ≤ i → summed f (drop i l) ≡ 0
unfolding summed
summed-none f l i h = rw (drop_of_length-le l)

-- where none is too long
pub blocks-few : (lengths : List ℕ) → are_short lengths ≡ true → blocks_of lengths ≤ length lengths * 524287
unfolding summed
blocks-few [] e = omega arith
blocks-few (n ∷ ns) e = let r = short-cons n ns e in let k : sectors_for n ≤ 524287 = omega (arith, r.0) in omega (arith, blocks-few ns r.1)

-- a sum over lengths that are held is small whatever they are; where none is too long it is the sum over the lengths themselves
module _ (f : ℕ → ℕ) where
  abbrev pub held_sum : List ℕ → ℕ
  held_sum l = sum_by (λ n. f (min n longest)) l

  held-small : ((n : ℕ) → f (min n longest) ≤ longest) → (l : List ℕ) → held_sum l ≤ length l * longest
  held-small h [] = omega arith
  held-small h (n ∷ ns) = rw (sum_by-cons (λ m. f (min m longest)) n ns) (omega (arith, h n, held-small h ns))

  held-sum : (l : List ℕ) → are_short l ≡ true → held_sum l ≡ summed f l
  unfolding summed
  held-sum [] e = refl
  held-sum (n ∷ ns) e =
      let r = short-cons n ns e in
      let k : min n longest ≡ n = omega (arith, r.0) in
      rw (sum_by-cons (λ m. f (min m longest)) n ns, k, held-sum ns r.1)

  pub sums-held : ((n : ℕ) → f (min n longest) ≤ longest) → (l : List ℕ) → length l ≤ 64 → {r : ℕ} → r ≡ held_sum l → Sums f l r
  sums-held h l few e = record { small = omega (arith, e, held-small h l, few); is = λ s. e ∙ held-sum l s }

-- ---- the files poured

-- one file: nothing is poured where there is no room for it
module _ (text : List ℕ) {at : ℕ} (d : List ℕ) (a : at ≤ length d) where
  abbrev Filled : List ℕ → ℕ → Type 0
  Filled f r = Kept (at + 2048 * sectors_for (length text) ≤ length d) (text ++ zeros (2048 * sectors_for (length text) - length text)) (2048 * sectors_for (length text)) at (length d) d f r

  module _ {size : ℕ} (u : size ≡ next_multiple_of (length text) 2048) where
    size-is : size ≡ 2048 * sectors_for (length text)
    size-is = omega (arith, u)

    pub file-none : length d - at < size → Filled d at
    file-none h = record { above = omega arith; within = a; same = refl; poured = λ k. absurd (omega (arith, size-is)) }

    pub file-poured : size ≤ length d - at → {m r : ℕ} {e f : List ℕ} → Poured text (length text) at d e m → Poured (zeros (size - length text)) (size - length text) m e f r → Filled f r
    file-poured h {m} {r} {e} {f} p q =
        let z : Poured (text ++ zeros (2048 * sectors_for (length text) - length text)) (2048 * sectors_for (length text)) at d f r = poured-as (poured-then p q) (ap (λ j. text ++ zeros (j - length text)) size-is) (omega (arith, size-is)) in
        record { above = omega (arith, z.place); within = omega (arith, z.place, size-is); same = z.same; poured = λ _. z }

pub files-long : (lengths staging : List ℕ) → sum lengths ≤ length staging → length (files_part lengths staging) ≡ 2048 * blocks_of lengths
unfolding files_part summed
files-long [] staging h = refl
files-long (n ∷ ns) staging h =
    let k : length (take n staging) ≡ n = length-take-le n staging (omega arith) in
    let l : length (files_part ns (drop n staging)) ≡ 2048 * blocks_of ns = files-long ns (drop n staging) (rw length-drop (omega arith)) in
    rw (length-append, length-append, k, length-replicate, l) (omega arith)

-- the loop has come to file i, and stays inside what was lent whatever the lengths are; where they are good, what is left to pour is what the files left are
pub record Filed (lengths staging image₀ : List ℕ) (at : ℕ) (image : List ℕ) (i : ℕ) (rest : List ℕ) (place : ℕ) : Type 0 where
  pub same_bytes : sets image place (files_part (drop i lengths) rest) ≡ sets image₀ at (files_part lengths staging)
  pub whole : sum (drop i lengths) ≤ length rest
  pub room : place + 2048 * blocks_of (drop i lengths) ≡ at + 2048 * blocks_of lengths

pub record Filing (lengths staging image₀ : List ℕ) (at : ℕ) (image : List ℕ) (i : ℕ) (rest : List ℕ) (place : ℕ) : Type 0 where
  pub above : at ≤ place
  pub within : place ≤ length image
  pub same : length image ≡ length image₀
  pub filed : Staged lengths staging at image₀ → Filed lengths staging image₀ at image i rest place

module _ {lengths staging image₀ : List ℕ} {at : ℕ} {image : List ℕ} {i : ℕ} {rest : List ℕ} {place : ℕ} (p : Filing lengths staging image₀ at image i rest place) where
  pub files-next : i < length lengths → {n : ℕ} → n ≡ min (length rest) (get_or lengths i 0) → {part behind : List ℕ} → part ≡ take n rest → behind ≡ drop n rest → {f : List ℕ} {r : ℕ}
      → Kept (place + 2048 * sectors_for (length part) ≤ length image) (part ++ zeros (2048 * sectors_for (length part) - length part)) (2048 * sectors_for (length part)) place (length image) image f r
      → Filing lengths staging image₀ at f (i + 1) behind r
  unfolding files_part
  files-next h {n} e {part} {behind} u v {f} {r} q = record { above = omega (arith, p.above, q.above); within = omega (arith, q.within, q.same); same = q.same ∙ p.same; filed = λ s. next s (p.filed s) }
    where
      next : Staged lengths staging at image₀ → Filed lengths staging image₀ at image i rest place → Filed lengths staging image₀ at f (i + 1) behind r
      next s w =
          let bytes = summed_at (λ m. m) lengths i 0 h in
          let blocks = summed_at sectors_for lengths i 0 h in
          let is : n ≡ get_or lengths i 0 = omega (arith, w.whole, bytes) in
          let long : length part ≡ n = rw u (length-take-le n rest (omega arith)) in
          let fits : place + 2048 * sectors_for (length part) ≤ length image = rw (long, is) (omega (arith, w.room, s.room, p.same, blocks)) in
          let text : List ℕ = take n rest ++ zeros (2048 * sectors_for n - n) in
          let y : Poured text (2048 * sectors_for n) place image f r = rw (long, u) at (q.poured fits) in
          let others : List ℕ = files_part (drop (i + 1) lengths) behind in
          let split : files_part (drop i lengths) rest ≡ text ++ others = rw (v, add-one, drop-cons lengths i 0, ← is) in
          let t : sets image place (files_part (drop i lengths) rest) ≡ sets f r others = rw split (sets-append text others image place ∙ rw (y.bytes, y.place, y.long)) in
          let k : sectors_for n ≡ sectors_for (get_or lengths i 0) = ap sectors_for is in
          record { same_bytes = sym t ∙ w.same_bytes; whole = rw (v, length-drop) (omega (arith, w.whole, bytes)); room = omega (arith, w.room, y.place, blocks) }

  pub files-done : length lengths ≤ i → Kept (Staged lengths staging at image₀) (files_part lengths staging) (2048 * blocks_of lengths) at (length image₀) image₀ image place
  unfolding files_part
  files-done h = record { above = p.above; within = omega (arith, p.within, p.same); same = p.same; poured = λ s. done s (p.filed s) }
    where
      done : Staged lengths staging at image₀ → Filed lengths staging image₀ at image i rest place → Poured (files_part lengths staging) (2048 * blocks_of lengths) at image₀ image place
      done s w = record {
        bytes = rw (drop_of_length-le lengths) at w.same_bytes;
        long = files-long lengths staging s.whole;
        place = omega (arith, w.room, summed-none sectors_for lengths i h);
        same = p.same;
      }

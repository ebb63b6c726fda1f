-- Laws of the loops over the bytes. Assumes nothing.
use mathlib.Core.Path.{◌≡◌, refl, ap, sym, ◌∙◌}
use mathlib.Core.List.{List, [], ◌∷◌}
use Prim.Native.Nat.{ℕ, zero, suc, ◌+◌, ◌*◌, ◌/◌, ◌<◌, ◌≤◌}
use native.Mathlib.Nat.{add-zero}
use native.Mathlib.Omega.{arith}
use lib.ListN.{length, get_or, take, drop, length-drop, drop_of_length-le}
use lib.Seq.{drop-cons, drop-drop, get_or-take, get_or-drop}
use Rattle.std.specs.Simd.{first_chunks}
use Rattle.crcs.specs.Inner.Tables.{byte_by, bytes_by, four_by, crc_by}

-- The byte at i, and those behind it.
one_on : (s : List ℕ) (i j : ℕ) → suc i ≡ j → i < length s → drop i s ≡ get_or s i 0 ∷ drop j s
one_on s i j e h = rw (← e) (drop-cons s i 0 h)

-- ---- one by one

-- The bytes of s before i are taken, into the register c: those that are left give from there what the whole gives from the register `from`.
pub record Taken (t : List ℕ) (from : ℕ) (s : List ℕ) (c i : ℕ) : Type 0 where
  pub rest : bytes_by t c (drop i s) ≡ bytes_by t from s

pub taken_start : (t : List ℕ) (from : ℕ) (s : List ℕ) → Taken t from s from 0
taken_start t from s = record { rest = refl }

module _ (t : List ℕ) (from : ℕ) (s : List ℕ) (c i : ℕ) (p : Taken t from s c i) where
  pub taken_next : (r : ℕ) → i < length s → r ≡ byte_by t c (get_or s i 0) → Taken t from s r (i + 1)
  unfolding bytes_by
  taken_next r h e = record { rest = rw e (rw (one_on s i (i + 1) (omega arith) h) at p.rest) }

  pub taken-end : length s ≤ i → c ≡ bytes_by t from s
  unfolding bytes_by
  taken-end h = rw (drop_of_length-le s h) at p.rest

-- ---- four at a time

-- The same of k whole fours.
pub record Fours (t u : List ℕ) (from : ℕ) (s : List ℕ) (c k : ℕ) : Type 0 where
  pub rest : crc_by t u c (drop (k * 4) s) ≡ crc_by t u from s

pub fours-start : (t u : List ℕ) (from : ℕ) (s : List ℕ) → Fours t u from s from 0
fours-start t u from s = record { rest = refl }

-- The four at k.
four-at : (n k : ℕ) (s : List ℕ) → k < n → get_or (first_chunks 4 n s) k [] ≡ take 4 (drop (k * 4) s)
four-at zero k s h = absurd (omega arith)
four-at (suc n) zero s h = refl
four-at (suc n) (suc k) s h =
    let e : 4 + k * 4 ≡ suc k * 4 = omega arith in
    four-at n k (drop 4 s) (omega arith) ∙ ap (take 4) (drop-drop (k * 4) 4 s ∙ ap (λ j. drop j s) e)

byte-in : (s : List ℕ) (i j : ℕ) → j < 4 → get_or (take 4 (drop i s)) j 0 ≡ get_or s (i + j) 0
byte-in s i j h = get_or-take 4 (drop i s) j 0 h ∙ get_or-drop i s j 0

four-on : (s : List ℕ) (i : ℕ) → i + 4 ≤ length s
    → drop i s ≡ get_or s i 0 ∷ get_or s (i + 1) 0 ∷ get_or s (i + 2) 0 ∷ get_or s (i + 3) 0 ∷ drop (i + 4) s
four-on s i h =
    one_on s i (i + 1) (omega arith) (omega arith)
    ∙ ap (λ l. get_or s i 0 ∷ l)
    (one_on s (i + 1) (i + 2) (omega arith) (omega arith)
    ∙ ap (λ l. get_or s (i + 1) 0 ∷ l)
    (one_on s (i + 2) (i + 3) (omega arith) (omega arith) ∙ ap (λ l. get_or s (i + 2) 0 ∷ l) (one_on s (i + 3) (i + 4) (omega arith) (omega arith))))

-- What is no whole four goes one by one.
few : (t u : List ℕ) (c : ℕ) (s : List ℕ) → length s < 4 → crc_by t u c s ≡ bytes_by t c s
unfolding crc_by bytes_by
few t u c [] h = refl
few t u c (b0 ∷ []) h = refl
few t u c (b0 ∷ b1 ∷ []) h = refl
few t u c (b0 ∷ b1 ∷ b2 ∷ []) h = refl
few t u c (b0 ∷ b1 ∷ b2 ∷ b3 ∷ s) h = absurd (omega arith)

module _ (t u : List ℕ) (from : ℕ) (s : List ℕ) (c k : ℕ) (p : Fours t u from s c k) {fours : List (List ℕ)} (front : fours ≡ first_chunks 4 (length s / 4) s) where
  pub fours-next : (r : ℕ) → k < length s / 4
      → r ≡ four_by t u c (get_or (get_or fours k []) 0 0) (get_or (get_or fours k []) 1 0) (get_or (get_or fours k []) 2 0) (get_or (get_or fours k []) 3 0)
      → Fours t u from s r (k + 1)
  unfolding crc_by
  fours-next r h e =
      let at : get_or fours k [] ≡ take 4 (drop (k * 4) s) = rw front (four-at (length s / 4) k s h) in
      let n : (k + 1) * 4 ≡ k * 4 + 4 = omega arith in
      let b0 : get_or (get_or fours k []) 0 0 ≡ get_or s (k * 4) 0 = rw at (byte-in s (k * 4) 0 (omega arith) ∙ rw add-zero) in
      let b1 : get_or (get_or fours k []) 1 0 ≡ get_or s (k * 4 + 1) 0 = rw at (byte-in s (k * 4) 1 (omega arith)) in
      let b2 : get_or (get_or fours k []) 2 0 ≡ get_or s (k * 4 + 2) 0 = rw at (byte-in s (k * 4) 2 (omega arith)) in
      let b3 : get_or (get_or fours k []) 3 0 ≡ get_or s (k * 4 + 3) 0 = rw at (byte-in s (k * 4) 3 (omega arith)) in
      record { rest = rw (n, e, b0, b1, b2, b3) (rw (four-on s (k * 4) (omega arith)) at p.rest) }

pub fours-end : (t u : List ℕ) (from : ℕ) (s : List ℕ) (c k : ℕ) → Fours t u from s c k → length s / 4 ≤ k → k ≤ length s / 4
    → {tail : List ℕ} → tail ≡ drop (length s / 4 * 4) s → {r : ℕ} → r ≡ bytes_by t c tail → r ≡ crc_by t u from s
fours-end t u from s c k p h g {tail} b {r} e =
    let k' : k ≡ length s / 4 = omega arith in
    let l : length tail < 4 = rw (b, length-drop) (omega arith) in
    let q : crc_by t u c tail ≡ crc_by t u from s = rw (b, ← k') p.rest in
    e ∙ sym (few t u c tail l) ∙ q

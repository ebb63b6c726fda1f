-- The text of a d-string's body, unit by unit, as the loops that measure and write it ask. Assumes nothing.
use mathlib.Core.Path.{◌≡◌, refl, sym, ap, ◌∙◌}
use mathlib.Core.Bool.{true, false}
use mathlib.Core.List.{List, [], ◌∷◌, ◌++◌}
use Prim.Native.Nat.{ℕ, zero, suc, ◌+◌, ◌-◌, ◌*◌, ◌^◌, ◌<◌, ◌≤◌, zero-le}
use native.Mathlib.Numerals.{add-one, add-two}
use native.Mathlib.Omega.{arith}
use native.Mathlib.Nat.{add-zero}
use lib.ListN.{length, get_or, drop, length-append, length-drop, get_or-append}
use lib.Seq.{drop-cons, drop-drop, drop-append_seam, get_or-drop, sets}
use lib.Dec.{eqb, ltb, lit≤}
use mir.Syntax.{w64}
use mir.Val.{Fits}
use borrow.Author.Tests.{ne_eqb, lt-ltb}
use Rattle.disc.proofs.PickLaws.{pick-both}
use Rattle.disc.specs.Choice.{pick}
use Rattle.disc.proofs.MoveLaws.{sets-append}
use Rattle.names.specs.Names.{Wrote, pairs, until_zero, surrogate, drop_surrogates, encode, utf8}
use Rattle.names.specs.Inner.Units.{WroteAt, At, units, text_of, unit_at, unit_bytes}
use Rattle.names.proofs.UnitLaws.{sets_over}
use Rattle.disc.specs.Parts.{Bytes}

-- The UTF-8 of units.
abbrev pub text_from : List ℕ → List ℕ
text_from us = utf8 (drop_surrogates (until_zero us))

-- ---- unit by unit

text-cons : (u : ℕ) (us : List ℕ) → (u ≡ 0 → ⊥) → text_from (u ∷ us) ≡ unit_bytes u ++ text_from us
unfolding until_zero drop_surrogates utf8 unit_bytes
text-cons u us h =
    rw (ne_eqb u 0 h)
    (elim (surrogate u) as (λ b. utf8 (pick b (drop_surrogates (until_zero us)) (u ∷ drop_surrogates (until_zero us))) ≡ pick b [] (encode u) ++ text_from us) [ true ↦ refl | false ↦ refl ])

units-at : (s : List ℕ) (step i : ℕ) → 1 ≤ step → step ≤ 2 → step ≤ length s - i → units step (drop i s) ≡ unit_at s i step ∷ units step (drop (i + step) s)
unfolding units unit_at pairs
units-at s zero i h k l = absurd (omega arith)
units-at s (suc zero) i h k l =
    let a : i < length s = omega arith in
    rw (add-one, drop-cons s i 0)
units-at s (suc (suc zero)) i h k l =
    let a : i < length s = omega arith in
    let b : suc i < length s = omega arith in
    rw (add-one, add-two, drop-cons s i 0, drop-cons s (suc i) 0)
units-at s (suc (suc (suc n))) i h k l = absurd (omega arith)

units-none : (step : ℕ) (t : List ℕ) → step ≤ 2 → length t < step → units step t ≡ []
unfolding units pairs
units-none zero t k l = absurd (omega arith)
units-none (suc zero) [] k l = refl
units-none (suc zero) (x ∷ t) k l = absurd (omega arith)
units-none (suc (suc zero)) [] k l = refl
units-none (suc (suc zero)) (x ∷ []) k l = refl
units-none (suc (suc zero)) (x ∷ y ∷ t) k l = absurd (omega arith)
units-none (suc (suc (suc n))) t k l = absurd (omega arith)

-- ---- a loop that has come to i

module _ {step i : ℕ} {s : List ℕ} (p : At step s i) where
  module _ (h : step ≤ length s - i) {u : ℕ} (e : u ≡ unit_at s i step) where
    pub at_next : At step s (i + step)
    at_next = record { body = p.body; within = omega arith }

    pub text-zero : u ≡ 0 → text_of step (drop i s) ≡ []
    unfolding text_of until_zero drop_surrogates utf8
    text-zero z = rw (units-at s step i p.body.one p.body.two h, ← e, z)

    pub text-next : (u ≡ 0 → ⊥) → text_of step (drop i s) ≡ unit_bytes u ++ text_of step (drop (i + step) s)
    unfolding text_of
    text-next z = rw (units-at s step i p.body.one p.body.two h, ← e) (text-cons u _ z)

  pub text-end : length s - i < step → text_of step (drop i s) ≡ []
  unfolding text_of until_zero drop_surrogates utf8
  text-end h = rw (units-none step (drop i s) p.body.two (rw length-drop h))

-- ---- the chunks of `step` bytes, walked in turn: `left` is what is left of s, and `size` the chunks' size

pub record Left (step : ℕ) (s : List ℕ) (size : ℕ) (left : List ℕ) : Type 0 where
  pub by : size ≡ step
  pub rest : left ≡ drop (length s - length left) s

unit-same : (step : ℕ) (x s : List ℕ) (p : ℕ) → 1 ≤ step → step ≤ 2 → ((j : ℕ) → j < step → get_or x j 0 ≡ get_or s (p + j) 0) → unit_at x 0 step ≡ unit_at s p step
unfolding unit_at
unit-same zero x s p a b h = absurd (omega arith)
unit-same (suc zero) x s p a b h = h 0 (omega arith) ∙ rw add-zero
unit-same (suc (suc zero)) x s p a b h =
    let h0 : get_or x 0 0 ≡ get_or s p 0 = h 0 (omega arith) ∙ rw add-zero in
    let h1 : get_or x 1 0 ≡ get_or s (p + 1) 0 = h 1 (omega arith) in
    rw (h0, h1)
unit-same (suc (suc (suc n))) x s p a b h = absurd (omega arith)

-- The next chunk is x, and w is what is left after it.
pub record Chunk (size : ℕ) (left x w : List ℕ) : Type 0 where
  pub parts : left ≡ x ++ w
  pub long : length x ≡ size

pub chunk : {size : ℕ} {left x w : List ℕ} → (left ≡ x ++ w) × (length x ≡ size) → Chunk size left x w
chunk t = record { parts = t.0; long = t.1 }

-- Where what is left begins.
abbrev pub place : List ℕ → List ℕ → ℕ
place s left = length s - length left

module _ {step size : ℕ} {s left : List ℕ} (k : Left step s size left) where
  left-long : length left ≡ length s - place s left
  left-long = ap length k.rest ∙ length-drop (place s left) s

  pub left-end : length left < size → length s - place s left < step
  left-end h = omega (arith, left-long, k.by)

  module _ {x w : List ℕ} (t : Chunk size left x w) where
    left-parts : length left ≡ step + length w
    left-parts = omega (arith, simp length-append at (ap length t.parts), t.long, k.by)

    pub left-more : step ≤ length s - place s left
    left-more = omega (arith, left-parts, left-long)

    pub left-place-next : place s left + step ≡ place s w
    left-place-next = omega (arith, left-parts, left-long)

    left-drop : drop (place s left + step) s ≡ w
    left-drop =
        sym (drop-drop step (place s left) s) ∙ ap (drop step) (sym k.rest ∙ t.parts)
        ∙ ap (λ n. drop n (x ++ w)) (sym (t.long ∙ k.by)) ∙ drop-append_seam x w

    pub left-next : {size' : ℕ} → size' ≡ size → Left step s size' w
    left-next g = record { by = g ∙ k.by; rest = sym (rw left-place-next at left-drop) }

    left-byte : (j : ℕ) → j < step → get_or x j 0 ≡ get_or s (place s left + j) 0
    left-byte j h =
        sym (get_or-append x w 0 j (omega (arith, k.by, t.long))) ∙ ap (λ z. get_or z j 0) (sym t.parts ∙ k.rest) ∙ get_or-drop (place s left) s j 0

    pub left-unit : 1 ≤ step → step ≤ 2 → {u : ℕ} → u ≡ unit_at x 0 step → u ≡ unit_at s (place s left) step
    left-unit a b e = e ∙ unit-same step x s (place s left) a b left-byte

-- ---- how long a text is

encode-three : (u : ℕ) → length (encode u) ≤ 3
unfolding encode
encode-three u = pick-both (λ (l : List ℕ). length l ≤ 3) (ltb u 0x80) (lit≤ tt) (pick-both (λ (l : List ℕ). length l ≤ 3) (ltb u 0x800) (lit≤ tt) (lit≤ tt))

encode-two : (u : ℕ) → u < 256 → length (encode u) ≤ 2
unfolding encode
encode-two u h = rw (lt-ltb u 0x800 (omega arith)) (pick-both (λ (l : List ℕ). length l ≤ 2) (ltb u 0x80) (lit≤ tt) (lit≤ tt))

-- A unit adds no more than its own bytes.
text-cons-le : (u : ℕ) (us : List ℕ) → length (text_from (u ∷ us)) ≤ length (encode u) + length (text_from us)
unfolding until_zero drop_surrogates utf8
text-cons-le u us =
    pick-both (λ l. length (utf8 (drop_surrogates l)) ≤ length (encode u) + length (text_from us)) (eqb u 0) zero-le
    (pick-both (λ l. length (utf8 l) ≤ length (encode u) + length (text_from us)) (surrogate u) (omega arith) (rw length-append (omega arith)))

pub short-bytes : (s : List ℕ) → Bytes s → length (text_from s) ≤ 2 * length s
unfolding until_zero drop_surrogates utf8
short-bytes [] h = zero-le
short-bytes (u ∷ s) h = omega (arith, text-cons-le u s, encode-two u (h 0).fits, short-bytes s (λ i. h (suc i)))

pub short-pairs : (s : List ℕ) → length (text_from (pairs s)) ≤ 2 * length s
unfolding pairs until_zero drop_surrogates utf8
short-pairs [] = zero-le
short-pairs (a ∷ []) = zero-le
short-pairs (a ∷ b ∷ s) = omega (arith, text-cons-le (a * 256 + b) (pairs s), encode-three (a * 256 + b), short-pairs s)

text-short : (step : ℕ) (s : List ℕ) → Bytes s → length (text_of step s) ≤ 2 * length s
unfolding text_of units
text-short step s h = pick-both (λ l. length (text_from l) ≤ 2 * length s) (eqb step 2) (short-pairs s) (short-bytes s h)

-- Two bytes of UTF-8 at most for each byte of the body.
pub body-short : (step : ℕ) (s : List ℕ) → Bytes s → length (text_of step (drop 1 s)) ≤ 2 * (length s - 1)
body-short step s h = rw (← length-drop) (text-short step (drop 1 s) (λ i. rw get_or-drop (h (1 + i))))

-- ---- the loop that measures

pub record Sizing (step : ℕ) (s : List ℕ) (n i : ℕ) : Type 0 where
  pub at : At step s i
  pub rest : n + length (text_of step (drop i s)) ≡ length (text_of step (drop 1 s))

module _ {step n i : ℕ} {s : List ℕ} (p : Sizing step s n i) where
  module _ (h : step ≤ length s - i) {u : ℕ} (e : u ≡ unit_at s i step) (z : u ≡ 0 → ⊥) where
    size-turn : n + (length (unit_bytes u) + length (text_of step (drop (i + step) s))) ≡ length (text_of step (drop 1 s))
    size-turn = rw (← length-append, ← text-next p.at h e z) p.rest

    pub size-adds : Bytes s → length s * 1 < 2 ^ 63 → {v : ℕ} → v ≡ length (unit_bytes u) → Fits w64 (n + v)
    size-adds b g k = omega (arith, size-turn, body-short step s b)

    size-to : {m : ℕ} → m ≡ n + length (unit_bytes u) → Sizing step s m (i + step)
    size-to c = record { at = at_next p.at h e; rest = omega (arith, size-turn) }

    pub size-next : {v : ℕ} → v ≡ length (unit_bytes u) → Sizing step s (n + v) (i + step)
    size-next c = size-to (omega arith)

  size-done : text_of step (drop i s) ≡ [] → n ≡ length (text_of step (drop 1 s))
  size-done e = omega (arith, p.rest, ap length e)

  pub size-zero : step ≤ length s - i → {u : ℕ} → u ≡ unit_at s i step → u ≡ 0 → n ≡ length (text_of step (drop 1 s))
  size-zero h e z = size-done (text-zero p.at h e z)

  pub size-end : length s - i < step → n ≡ length (text_of step (drop 1 s))
  size-end h = size-done (text-end p.at h)

-- ---- the loop that writes

pub record Writing (step : ℕ) (s d₀ d : List ℕ) (n i : ℕ) : Type 0 where
  pub sizing : Sizing step s n i
  pub rest : sets d n (text_of step (drop i s)) ≡ sets d₀ 0 (text_of step (drop 1 s))
  pub long : length d ≡ length d₀

module _ {step n i : ℕ} {s d₀ d : List ℕ} (p : Writing step s d₀ d n i) where
  -- A name's length stays so far below the largest number that three bytes more can be counted.
  pub write-counts : Bytes s → length s * 1 < 2 ^ 63 → n + 3 < 0x1_0000_0000_0000_0000
  write-counts b g = omega (arith, p.sizing.rest, p.sizing.at.body.some_byte, body-short step s b)

  pub write-next : step ≤ length s - i → {u : ℕ} → u ≡ unit_at s i step → (u ≡ 0 → ⊥) → {m : ℕ} {d' : List ℕ} → WroteAt n (unit_bytes u) d d' m → length d' ≡ length d → Writing step s d₀ d' m (i + step)
  write-next h e z c l =
      record {
        sizing = size-to p.sizing h e z c.count;
        rest = rw (c.count, c.bytes, ← sets-append, ← text-next p.sizing.at h e z) p.rest;
        long = l ∙ p.long;
      }

  write_done : text_of step (drop i s) ≡ [] → Wrote (text_of step (drop 1 s)) d₀ d n
  write_done e = record { count = size-done p.sizing e; bytes = (rw e at p.rest) ∙ sets_over (text_of step (drop 1 s)) d₀ }

  pub write-zero : step ≤ length s - i → {u : ℕ} → u ≡ unit_at s i step → u ≡ 0 → Wrote (text_of step (drop 1 s)) d₀ d n
  write-zero h e z = write_done (text-zero p.sizing.at h e z)

  pub write-end : length s - i < step → Wrote (text_of step (drop 1 s)) d₀ d n
  write-end h = write_done (text-end p.sizing.at h)

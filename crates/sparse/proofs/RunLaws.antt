-- Laws of runs laid over an image, as the code asks for them. Assumes nothing.
use mathlib.Core.Path.{◌≡◌, refl, ap, sym, ◌∙◌}
use mathlib.Core.Bool.{Bool, true, false}
use mathlib.Core.List.{List, [], append-nil}
use Prim.Native.Nat.{ℕ, suc, ◌+◌, ◌-◌, ◌<◌, ◌≤◌, ◌^◌, min}
use native.Mathlib.Omega.{arith}
use lib.ListN.{length, take, drop, replicate, length-drop, drop_of_length-le}
use lib.Seq.{take_all}
use lib.Dec.{leb}
use borrow.Author.Tests.{leb-true}
use borrow.Rule.Slice.PartMut.{mid_of, put_mid}
use Rattle.disc.specs.Choice.{pick}
use Rattle.disc.specs.Moves.{over}
use Rattle.disc.proofs.PickLaws.{pick-leb, pick-ltb, picked}
use Rattle.records.specs.Bytes.{u32at}
use Rattle.sparse.specs.Runs.{laid, behind, run_end, laid_runs, Expanded}

-- ---- the end of a run

-- whether the run at i is whole
abbrev is_whole : List ℕ → ℕ → Bool
is_whole s i = leb (behind s i) (length s)

module _ (s : List ℕ) (i : ℕ) where
  end_none : length s < behind s i → 0 ≡ run_end s i
  unfolding run_end
  end_none h = pick-ltb ℕ (behind s i) (length s) (behind s i) 0 0 h refl

  pub end-past : length s ≤ i → 0 ≡ run_end s i
  end-past h = end_none (omega arith)

  pub end-headless : length s - i < 8 → 0 ≡ run_end s i
  end-headless h = end_none (omega arith)

  pub end_short : {n : ℕ} → n ≡ u32at s (i + 4) → length s - i - 8 < n → 0 ≡ run_end s i
  end_short {n} e h = end_none (omega arith)

  pub end_whole : {n : ℕ} → n ≡ u32at s (i + 4) → i < length s → 8 ≤ length s - i → n ≤ length s - i - 8 → i + 8 + n ≡ run_end s i
  unfolding run_end
  end_whole {n} e p q h = pick-leb ℕ (behind s i) (length s) (behind s i) 0 (i + 8 + n) (omega arith) (ap (λ m. i + 8 + m) e)

-- ---- one run

-- it starts behind the end
pub lay-none : (run image : List ℕ) (at : ℕ) → length image < at → image ≡ laid run at image
lay-none run image at h =
    let l : length image ≤ at = omega arith in
    let n : length {A = ℕ} [] ≤ length run = omega arith in
    sym (rw (take_all at image, drop_of_length-le image l, drop_of_length-le [] n) (append-nil image))

-- the image's tail was lent and came back with the run over its front
pub lay-tail : (run image tail : List ℕ) (at : ℕ) → tail ≡ over run (mid_of at (length image - at) image)
    → put_mid at (length image - at) image tail ≡ laid run at image
lay-tail run image tail at e =
    let l : length (drop at image) ≤ length image - at = rw length-drop (omega arith) in
    rw (e, take_all (length image - at) (drop at image), drop_of_length-le (drop at image) l) (simp append-nil)

-- ---- the first of the runs that are left

module _ (m : ℕ) (s : List ℕ) (i : ℕ) (image : List ℕ) where
  first-whole : is_whole s i ≡ true
      → laid_runs (suc m) s i image ≡ laid_runs m s (behind s i) (laid (take (u32at s (i + 4)) (drop (i + 8) s)) (u32at s i) image)
  unfolding laid_runs
  first-whole t = rw t

  first-broken : is_whole s i ≡ false → laid_runs (suc m) s i image ≡ image
  unfolding laid_runs
  first-broken t = rw t

no_end : (b : Bool) (i x : ℕ) → pick b (i + 8 + x) 0 ≡ 0 → b ≡ false
no_end true i x e = absurd (omega arith)
no_end false i x e = refl

-- ---- the loop has laid k of n runs and come to i

pub record Laying (s before image : List ℕ) (n i k : ℕ) : Type 0 where
  pub within : k ≤ n
  pub number : n ≡ u32at s 4
  pub long : length image ≡ length before
  pub rest : laid_runs (n - k) s i image ≡ laid_runs n s 8 before

-- a run that is whole
module _ (s : List ℕ) (i : ℕ) {end : ℕ} (e : end ≡ run_end s i) (z : end ≡ 0 → ⊥) where
  whole : (is_whole s i ≡ true) × (end ≡ behind s i)
  unfolding run_end
  whole = picked (λ v. end ≡ v) (is_whole s i) (behind s i) 0 e z

  pub run-headed : i + 8 ≤ end
  run-headed = let f = whole.1 in omega arith

  pub run_fits : end < 2 ^ 64 → i + 8 < 2 ^ 64
  run_fits h = let f = run-headed in omega arith

  pub run-within : end ≤ length s
  run-within = rw whole.1 (leb-true (behind s i) (length s) whole.0)

  pub lay-next : {before image : List ℕ} {n k : ℕ} → Laying s before image n i k → k < n → {at : ℕ} {after : List ℕ}
      → at ≡ u32at s i
      → after ≡ laid (take (end - (i + 8)) (drop (i + 8) s)) at image
      → length after ≡ length image
      → Laying s before after n end (k + 1)
  lay-next {before} {image} {n} {k} p h {at} {after} a f l =
      let m : n - k ≡ suc (n - (k + 1)) = omega arith in
      let w = whole.1 in
      let g : end - (i + 8) ≡ u32at s (i + 4) = omega arith in
      let q : laid_runs (n - (k + 1)) s end after ≡ laid_runs (suc (n - (k + 1))) s i image = rw (f, a, g, w) (sym (first-whole (n - (k + 1)) s i image whole.0)) in
      record { within = omega arith; number = p.number; long = l ∙ p.long; rest = q ∙ rw (← m) p.rest }

module _ {s before image : List ℕ} {n i k : ℕ} (p : Laying s before image n i k) where
  pub lay-stops : k < n → {end : ℕ} → end ≡ run_end s i → end ≡ 0 → image ≡ laid_runs (u32at s 4) s 8 before
  unfolding run_end
  lay-stops h e z =
      let m : n - k ≡ suc (n - (k + 1)) = omega arith in
      let t = no_end (is_whole s i) i (u32at s (i + 4)) (sym e ∙ z) in
      sym (first-broken (n - (k + 1)) s i image t) ∙ rw (← m, ← p.number) p.rest

  pub lay-ends : n ≤ k → image ≡ laid_runs (u32at s 4) s 8 before
  unfolding laid_runs
  lay-ends h =
      let m : n - k ≡ 0 = omega arith in
      rw (← p.number) (rw m at p.rest)

-- ---- the whole

pub expanded : (packed before cleared after : List ℕ) {a r : ℕ}
    → a ≡ u32at packed 0
    → r ≡ min a (length before)
    → cleared ≡ replicate (length before) 0
    → after ≡ laid_runs (u32at packed 4) packed 8 cleared
    → Expanded packed before after r
expanded packed before cleared after f q c e = record { size = q ∙ rw f; bytes = e ∙ rw c }

-- the contract leaves one result
pub expanded-one : {packed before after after' : List ℕ} {r r' : ℕ} → Expanded packed before after r → Expanded packed before after' r' → (r ≡ r') × (after ≡ after')
expanded-one e f = (e.size ∙ sym f.size, e.bytes ∙ sym f.bytes)

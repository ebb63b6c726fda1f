-- Lists stored over others or filled, and what `copy` and `clear` leave. Assumes nothing.
use mathlib.Core.Path.{◌≡◌, refl, ap, ◌∙◌}
use mathlib.Core.List.{List, [], ◌∷◌, ◌++◌, append-nil}
use Prim.Native.Nat.{ℕ, suc, ◌+◌, ◌-◌, ◌<◌, ◌≤◌}
use native.Mathlib.Nat.{add-zero, zero-add, add-suc, suc-add, sub-zero}
use native.Mathlib.Numerals.{add-one}
use native.Mathlib.Omega.{arith}
use lib.ListN.{length, drop, set, replicate, length-set, length-take, length-drop, length-append, length-replicate, drop_of_length-le}
use lib.Seq.{take_all, sets, sets-eq}
use Rattle.disc.specs.Moves.{over}

-- ---- runs of stores

pub sets-append : (a b d : List ℕ) (n : ℕ) → sets d n (a ++ b) ≡ sets (sets d n a) (n + length a) b
sets-append [] b d n = rw add-zero
sets-append (x ∷ a) b d n = rw (add-suc, ← suc-add) (sets-append a b (set d n x) (suc n))

pub sets-front : (v d : List ℕ) → length v ≤ length d → sets d 0 v ≡ v ++ drop (length v) d
sets-front v d h = sets-eq v d 0 (rw zero-add h) ∙ rw zero-add

-- a list over one of the same length
pub sets-whole : (v d : List ℕ) → length v ≡ length d → sets d 0 v ≡ v
sets-whole v d e =
    let h : length v ≤ length d = omega arith in
    let k : length d ≤ length v = omega arith in
    sets-front v d h ∙ rw (drop_of_length-le d k) (append-nil v)

-- ---- the loop that fills d₀ with v has come to i

pub record Filling (v : ℕ) (d₀ d : List ℕ) (i : ℕ) : Type 0 where
  pub within : i ≤ length d₀
  pub long : length d ≡ length d₀
  pub rest : sets d i (replicate (length d₀ - i) v) ≡ replicate (length d₀) v

pub fill-starts : (v : ℕ) (d : List ℕ) → Filling v d d 0
fill-starts v d =
    record { within = omega arith; long = refl; rest = rw sub-zero (sets-whole (replicate (length d) v) d (simp length-replicate)) }

module _ {v : ℕ} {d₀ d : List ℕ} {i : ℕ} (p : Filling v d₀ d i) where
  pub fill-next : i < length d → Filling v d₀ (set d i v) (i + 1)
  fill-next h =
      let e : length d₀ - i ≡ suc (length d₀ - (i + 1)) = omega arith in
      record {
        within = omega arith;
        long = rw length-set p.long;
        rest = rw (← (rw e at p.rest)) (rw add-one);
      }

  pub fill-ends : length d ≤ i → d ≡ replicate (length d₀) v
  fill-ends h =
      let e : length d₀ - i ≡ 0 = omega arith in
      rw e at p.rest

-- what was cleared has the length that it came with
pub zeros_of : (w w' : List ℕ) {a : List ℕ} → a ≡ replicate (length w') 0 → length w' ≡ length w → a ≡ replicate (length w) 0
zeros_of w w' p q = p ∙ ap (λ n. replicate n 0) q

-- a text that fits stands over the front whole
pub over-fits : (text lent : List ℕ) → length text ≤ length lent → over text lent ≡ text ++ drop (length text) lent
over-fits text lent h = rw (take_all (length lent) text)

pub over-long : (text lent : List ℕ) → length (over text lent) ≡ length lent
over-long text lent = simp (length-append, length-take, length-drop) (omega arith)

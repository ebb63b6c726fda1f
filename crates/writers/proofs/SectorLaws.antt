-- Where the parts of the image stand on the disc that it is. Assumes nothing.
use mathlib.Core.Path.{◌≡◌, refl, ap, ◌∙◌}
use mathlib.Core.List.{List, [], ◌∷◌, ◌++◌, append_assoc}
use Prim.Native.Nat.{ℕ, zero, suc, ◌+◌, ◌*◌, ◌≤◌, ◌<◌}
use native.Mathlib.Omega.{arith}
use lib.ListN.{length, get_or, take, drop, length-append}
use lib.Seq.{take_at, drop_at, drop-append-add, take-append_seam}
use Rattle.disc.specs.Ask.Held.{holds}
use Rattle.disc.specs.Images.{disc}
use Rattle.disc.proofs.ImageLaws.{held}
use Rattle.writers.specs.Layout.{joined, blanks}

-- every one of them has 2,048 bytes
unfoldable pub Whole : List (List ℕ) → Type 0
Whole [] = Unit {0}
Whole (s ∷ ss) = (length s ≡ 2048) × Whole ss

pub whole_append : (ss ts : List (List ℕ)) → Whole ss → Whole ts → Whole (ss ++ ts)
unfolding Whole
whole_append [] ts h k = k
whole_append (s ∷ ss) ts h k = (h.0, whole_append ss ts h.1 k)

pub whole-blanks : (n : ℕ) → Whole (blanks n)
unfolding Whole
whole-blanks zero = tt
whole-blanks (suc n) = (refl, whole-blanks n)

pub whole_long : (ss : List (List ℕ)) → Whole ss → length (joined ss) ≡ 2048 * length ss
unfolding Whole joined
whole_long [] h = refl
whole_long (s ∷ ss) h = rw (length-append, h.0, whole_long ss h.1) (omega arith)

-- the i-th sector of joined ones
sector-part : (ss : List (List ℕ)) (q : List ℕ) → Whole ss → (i : ℕ) → i < length ss → take 2048 (drop (2048 * i) (joined ss ++ q)) ≡ get_or ss i []
unfolding Whole joined
sector-part [] q h i k = absurd (omega arith)
sector-part (s ∷ ss) q h zero k = rw (append_assoc s (joined ss) q) (take_at s (joined ss ++ q) 2048 h.0)
sector-part (s ∷ ss) q h (suc i) k =
    let e : 2048 * suc i ≡ length s + 2048 * i = omega (arith, h.0) in
    rw (append_assoc s (joined ss) q, e, drop-append-add s (joined ss ++ q) (2048 * i)) (sector-part ss q h.1 i (omega arith))

-- on the disc: n sectors stand before them
pub sector-at : (p : List ℕ) (n : ℕ) → length p ≡ 2048 * n → (ss : List (List ℕ)) (q : List ℕ) → Whole ss → (i : ℕ) → i < length ss
    → disc (p ++ (joined ss ++ q)) (n + i) ≡ holds (get_or ss i [])
sector-at p n e ss q h i k =
    let l : 2048 * (n + i) + 2048 ≤ length (p ++ (joined ss ++ q)) = rw (length-append, length-append, whole_long ss h) (omega arith) in
    let f : 2048 * (n + i) ≡ length p + 2048 * i = omega arith in
    held (p ++ (joined ss ++ q)) (n + i) l ∙ ap holds (rw (f, drop-append-add p (joined ss ++ q) (2048 * i)) (sector-part ss q h i k))

-- a run of bytes
pub run_at : (p t q : List ℕ) (n : ℕ) → length p ≡ 2048 * n → take (length t) (drop (2048 * n) (p ++ (t ++ q))) ≡ t
run_at p t q n e = rw (drop_at p (t ++ q) (2048 * n) e) (take-append_seam t q)

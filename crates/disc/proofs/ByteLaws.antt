-- What holds of every slice of bytes. Assumes nothing.
use Prim.Native.Nat.{ℕ, zero, suc}
use mathlib.Core.List.{List, [], ◌∷◌, ◌++◌}
use lib.ListN.{take, drop}
use mir.Val.{Fits}
use mir.Syntax.{w8}
use mir.Facts.{Fits-lit}
use Rattle.disc.specs.Parts.{Bytes}

-- ---- parts of bytes, and bytes joined

bytes-first : (x : ℕ) (s : List ℕ) → Fits w8 x → Bytes s → Bytes (x ∷ s)
bytes-first x s f h zero = f
bytes-first x s f h (suc i) = h i

pub bytes-taken : (n : ℕ) (s : List ℕ) → Bytes s → Bytes (take n s)
bytes-taken zero s h = λ i. Fits-lit tt
bytes-taken (suc n) [] h = h
bytes-taken (suc n) (x ∷ s) h = bytes-first x (take n s) (h 0) (bytes-taken n s (λ i. h (suc i)))

pub bytes-dropped : (n : ℕ) (s : List ℕ) → Bytes s → Bytes (drop n s)
bytes-dropped zero s h = h
bytes-dropped (suc n) [] h = h
bytes-dropped (suc n) (x ∷ s) h = bytes-dropped n s (λ i. h (suc i))

pub bytes-joined : (s t : List ℕ) → Bytes s → Bytes t → Bytes (s ++ t)
bytes-joined [] t h k = k
bytes-joined (x ∷ s) t h k = bytes-first x (s ++ t) (h 0) (bytes-joined s t (λ i. h (suc i)) k)

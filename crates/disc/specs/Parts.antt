-- Bytes, and a part of them by its place.
use Rattle.std.specs.Prelude.{List, ◌≡◌, ℕ, ◌+◌, ◌≤◌, get_or, length, take, drop}
use Rattle.std.specs.Int.{w8}
use Rattle.std.proofs.Common.{Fits}

-- every element is a byte
abbrev pub Bytes : List ℕ → Type 0
Bytes s = (i : ℕ) → Fits w8 (get_or s i 0)

-- `part` is in s, from `at` on
pub record PartAt (s part : List ℕ) (at : ℕ) : Type 0 where
  pub bytes : take (length part) (drop at s) ≡ part
  pub inside : at + length part ≤ length s

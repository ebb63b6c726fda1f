-- What the call counts is the sum of what its items count, each read alone: RULES 8.29 and 8.32. Assumes nothing.
use mathlib.Core.Path.{◌≡◌, refl, ap, ◌∙◌}
use mathlib.Core.List.{List, [], ◌∷◌, ◌++◌}
use Prim.Native.Nat.{ℕ, ◌+◌, min}
use native.Mathlib.Omega.{arith}
use borrow.Author.Tests.{le-leb}
use Rattle.disc.specs.Counts.{reported}
use Rattle.disc.specs.Ran.{Ran}
use Rattle.cue_stacks.specs.Stacks.{items, room_left, stacked, read_all_of}
use Rattle.cue_stacks.specs.Sums.{count_alone, summed}
use Rattle.cue_stacks.specs.Items.{Enough}

-- of two rows of items behind each other
pub summed-joined : (f : List ℕ → ℕ) (ps qs : List (List ℕ)) → summed f (ps ++ qs) ≡ summed f ps + summed f qs
unfolding summed
summed-joined f [] qs = omega arith
summed-joined f (p ∷ ps) qs = omega (arith, summed-joined f ps qs)

module _ (read : List ℕ → Ran (List ℕ)) where
  -- a sum that is held at 2^64 - 1 is that of its parts, each held there
  stack-sums : (room : List ℕ) (ps : List (List ℕ)) → reported (stacked read room ps).count ≡ reported (summed (count_alone read) ps)
  unfolding stacked summed
  stack-sums room [] = refl
  stack-sums room (p ∷ ps) = adds (read p).count (stacked read (room_left room (read p)) ps).count (summed (count_alone read) ps) (stack-sums (room_left room (read p)) ps)
    where
      adds : (a b c : ℕ) → reported b ≡ reported c → reported (a + b) ≡ reported (reported a + c)
      adds a b c h = omega arith

  module _ (paths out lengths answers : List ℕ) (h : Enough paths lengths answers) where
    pub all-sums : (read_all_of read paths out lengths answers).reply.count ≡ min (summed (count_alone read) (items paths)) 0xffff_ffff_ffff_ffff
    unfolding read_all_of
    all-sums = rw (le-leb _ _ h) (stack-sums out (items paths))

    -- with one item of them by itself
    pub item-sums : (before : List (List ℕ)) (path : List ℕ) (behind : List (List ℕ)) → items paths ≡ before ++ path ∷ behind
        → (read_all_of read paths out lengths answers).reply.count ≡ min (summed (count_alone read) before + count_alone read path + summed (count_alone read) behind) 0xffff_ffff_ffff_ffff
    unfolding summed
    item-sums before path behind e =
        let s : summed (count_alone read) (items paths) ≡ summed (count_alone read) before + count_alone read path + summed (count_alone read) behind =
        ap (summed (count_alone read)) e ∙ summed-joined (count_alone read) before (path ∷ behind) ∙ omega arith in
        all-sums ∙ ap (λ n. min n 0xffff_ffff_ffff_ffff) s

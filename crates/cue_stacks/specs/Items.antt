-- The items of a list of paths, and what the call leaves of each.
use Rattle.std.specs.Prelude.{[], List, ◌∷◌, ◌++◌, ◌≡◌, ℕ, suc, min, ◌≤◌, ◌+◌, eqb, length, take, get_or, drop}
use Rattle.disc.specs.Choice.{pick}
use Rattle.disc.specs.declared.replies.Reply.{Reply}
use Rattle.cue_stacks.specs.Stacks.{items, Stacked}

-- how many zero bytes there are
abbrev pub zeros : List ℕ → ℕ
zeros [] = 0
zeros (b ∷ s) = pick (eqb b 0) (suc (zeros s)) (zeros s)

-- no item has a zero byte
abbrev pub NoZeros : List (List ℕ) → Type 0
NoZeros [] = Unit {0}
NoZeros (p ∷ ps) = (zeros p ≡ 0) × NoZeros ps

-- items joined, with a zero byte between each two
abbrev pub joined : List ℕ → List (List ℕ) → List ℕ
joined p [] = p
joined p (q ∷ ps) = p ++ 0 ∷ joined q ps

-- a refused item has length 0, and leaves the room as it is
pub record None (room after : List ℕ) (reply : Reply) : Type 0 where
  pub length : reply.length ≡ 0
  pub leaves : after ≡ room

-- a place in both rows for each item
abbrev pub Enough : List ℕ → List ℕ → List ℕ → Type 0
Enough paths lengths answers = length (items paths) ≤ min (length lengths) (length answers)

-- the sum of a row
abbrev pub total : List ℕ → ℕ
total [] = 0
total (n ∷ row) = n + total row

-- where the bytes of the item at i start: after those of the items before it
abbrev pub start_of : Stacked → ℕ → ℕ
start_of left i = total (take i left.lengths)

-- the answer number, the length and the bytes of the item at i are those of a reply and an output
pub record Holds (left : Stacked) (i : ℕ) (reply : Reply) (after : List ℕ) : Type 0 where
  pub answer : get_or left.answers i 0 ≡ reply.answer
  pub length : get_or left.lengths i 0 ≡ reply.length
  pub bytes : take reply.length (drop (start_of left i) left.out) ≡ take reply.length after

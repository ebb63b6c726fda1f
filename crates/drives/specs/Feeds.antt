-- A read that is fed a sector at a time: what it wants, what reaches the output meanwhile, and how it ends. RULES 14.1 to 14.9.
use Rattle.std.specs.Prelude.{Bool, true, false, ◌||◌, List, [], ◌∷◌, ◌++◌, ℕ, ◌+◌, ◌-◌, max, length, take, eqb, ltb, leb}
use Rattle.disc.specs.Choice.{pick}
use Rattle.disc.specs.Ask.{Disc, Held, Ask, given}
use Rattle.disc.specs.Ask.Held.{holds, lacks}
use Rattle.disc.specs.Ask.Ask.{done, refuse, ask}
use Rattle.disc.specs.declared.refusals.Refusal.{Refusal}
use Rattle.disc.specs.declared.refusals.Refusal.TheVariants.{Io, NoRoom, NoSlot}

-- ---- a sector that is lent

-- 2,048 bytes are a sector; a slice of any other length says that it can't be had
abbrev pub lent : List ℕ → Held
lent b = pick (eqb (length b) 2048) (holds b) lacks

-- ---- a call that is fed

-- the branch that a sector takes; a call that has ended stays
unfoldable pub branch : {A : Type 0} → Held → Ask A → Ask A
branch h (done a) = done a
branch h (refuse r) = refuse r
branch h (ask s k) = given h k (refuse Io)

-- whether it has ended
abbrev pub is_over : {A : Type 0} → Ask A → Bool
is_over (done a) = true
is_over (refuse r) = true
is_over (ask s k) = false

-- ---- a read that is fed

pub data Feed : Type 0 where
  over : Feed  -- answered
  stop : Refusal → Feed  -- refused
  name : ℕ → Feed → Feed  -- so many extents in all have been named by now: one that has no slot is lost
  hold : ℕ → Feed → Feed  -- what names them is accepted: so many extents in all are held for later
  put : List ℕ → Feed → Feed  -- bytes arrive at the output
  want : ℕ → (List ℕ → Feed) → Feed  -- a sector is wanted; one that can't be had is refused by `Io`

-- a call without output, and what follows it
unfoldable pub following : {A : Type 0} → Ask A → (A → Feed) → Feed
following (done a) f = f a
following (refuse r) f = stop r
following (ask s k) f = want s (λ b. following (k b) f)

-- the same where its sectors name extents: behind each it is said how many there are in all, by the bytes that have come
unfoldable pub naming : {A : Type 0} → (List ℕ → ℕ) → Ask A → (A → Feed) → Feed
naming named (done a) f = f a
naming named (refuse r) f = stop r
naming named (ask s k) f = want s (λ b. name (named b) (naming (λ more. named (b ++ more)) (k b) f))

-- the call that the feed is, where its bytes are collected behind those of `front` and there is room for all
unfoldable pub collected : List ℕ → Feed → Ask (List ℕ)
collected front over = done front
collected front (stop r) = refuse r
collected front (name n f) = collected front f
collected front (hold n f) = collected front f
collected front (put b f) = collected (front ++ b) f
collected front (want s k) = ask s (λ b. collected front (k b))

-- ---- in lent memory

-- an extent was lost: the read goes on until what names it is accepted, and is refused by 7 there
unfoldable pub crowded : Feed → Feed
crowded over = over
crowded (stop r) = stop r
crowded (name n f) = crowded f
crowded (hold n f) = stop NoSlot
crowded (put b f) = put b (crowded f)
crowded (want s k) = want s (λ b. crowded (k b))

abbrev pub crowded_by : Bool → Feed → Feed
crowded_by lost f = pick lost (crowded f) f

-- the bytes that arrive before the next sector is wanted, and what is left then
pub record Settled : Type 0 where
  pub bytes : List ℕ
  pub rest : Feed

abbrev pub settled_behind : List ℕ → Settled → Settled
settled_behind b x = record { bytes = b ++ x.bytes; rest = x.rest }

-- one step in so many slots and so much room, `lost` saying whether an extent was lost before: an extent that is named and has no slot is lost, which is
-- 7 once it is accepted; of bytes that have no room what fits is put, and then it is 5. What is left behind the step doesn't go by slots or room
unfoldable pub settled_in : Bool → ℕ → ℕ → Feed → Settled
settled_in lost slots room over = record { bytes = []; rest = over }
settled_in lost slots room (stop r) = record { bytes = []; rest = stop r }
settled_in lost slots room (name n f) = settled_in (lost || ltb slots n) slots room f
settled_in lost slots room (hold n f) = pick (lost || ltb slots n) (record { bytes = []; rest = stop NoSlot }) (settled_in false slots room f)
settled_in lost slots room (put b f) =
    pick (leb (length b) room)
    (settled_behind b (settled_in lost slots (room - length b) f))
    (record { bytes = take room b; rest = stop NoRoom })
settled_in lost slots room (want s k) = record { bytes = []; rest = crowded_by lost (want s k) }

-- the branch that a sector takes; a read that has ended stays
unfoldable pub fed_by : Held → Feed → Feed
fed_by h over = over
fed_by h (stop r) = stop r
fed_by h (name n f) = fed_by h f
fed_by h (hold n f) = fed_by h f
fed_by h (put b f) = put b (fed_by h f)
fed_by h (want s k) = given h k (stop Io)

-- ---- in lent memory that grows between steps

-- by how much it has grown before a step: slots by which the row was lengthened, and room by which the output was, or from which bytes were taken away
pub record Grown : Type 0 where
  pub slots : ℕ
  pub room : ℕ

-- before the next step, and before those behind it; where nothing more is said nothing grows
abbrev pub first_of : List Grown → Grown
first_of [] = record { slots = 0; room = 0 }
first_of (g ∷ gs) = g

abbrev pub behind_first : List Grown → List Grown
behind_first [] = []
behind_first (g ∷ gs) = gs

-- the whole read, from so many slots and so much room on
unfoldable pub within : Bool → ℕ → ℕ → List Grown → Feed → Feed
within lost slots room gs over = over
within lost slots room gs (stop r) = stop r
within lost slots room gs (name n f) = within (lost || ltb slots n) slots room gs f
within lost slots room gs (hold n f) = pick (lost || ltb slots n) (stop NoSlot) (within false slots room gs f)
within lost slots room gs (put b f) =
    pick (leb (length b) room) (put b (within lost slots (room - length b) gs f)) (put (take room b) (stop NoRoom))
within lost slots room gs (want s k) =
    want s (λ b. within lost (slots + (first_of gs).slots) (room + (first_of gs).room) (behind_first gs) (k b))

-- ---- on a disc

-- how it ends
pub data End : Type 0 where
  answers : End
  refuses : Refusal → End

unfoldable pub end_of : Disc → Feed → End
end_of d over = answers
end_of d (stop r) = refuses r
end_of d (name n f) = end_of d f
end_of d (hold n f) = end_of d f
end_of d (put b f) = end_of d f
end_of d (want s k) = given (d s) (λ b. end_of d (k b)) (refuses Io)

-- the sectors that it wants, in order
unfoldable pub wanted : Disc → Feed → List ℕ
wanted d over = []
wanted d (stop r) = []
wanted d (name n f) = wanted d f
wanted d (hold n f) = wanted d f
wanted d (put b f) = wanted d f
wanted d (want s k) = s ∷ given (d s) (λ b. wanted d (k b)) []

-- the bytes that arrive, also before a refusal
unfoldable pub arrived : Disc → Feed → List ℕ
arrived d over = []
arrived d (stop r) = []
arrived d (name n f) = arrived d f
arrived d (hold n f) = arrived d f
arrived d (put b f) = b ++ arrived d f
arrived d (want s k) = given (d s) (λ b. arrived d (k b)) []

-- the most extents that it holds; `named` were named before, and what names them is not accepted yet
unfoldable pub held_most : ℕ → Disc → Feed → ℕ
held_most named d over = 0
held_most named d (stop r) = 0
held_most named d (name n f) = held_most (max named n) d f
held_most named d (hold n f) = max (max named n) (held_most 0 d f)
held_most named d (put b f) = held_most named d f
held_most named d (want s k) = given (d s) (λ b. held_most named d (k b)) 0

-- what lent memory falls short of first, as it grows so: an extent that is accepted has had no slot when it was named, or a byte that arrives has no room
pub data Short : Type 0 where
  enough : Short
  of_slots : Short
  of_room : Short

unfoldable pub short_of : Disc → Bool → ℕ → ℕ → List Grown → Feed → Short
short_of d lost slots room gs over = enough
short_of d lost slots room gs (stop r) = enough
short_of d lost slots room gs (name n f) = short_of d (lost || ltb slots n) slots room gs f
short_of d lost slots room gs (hold n f) = pick (lost || ltb slots n) of_slots (short_of d false slots room gs f)
short_of d lost slots room gs (put b f) = pick (leb (length b) room) (short_of d lost slots (room - length b) gs f) of_room
short_of d lost slots room gs (want s k) =
    given (d s) (λ b. short_of d lost (slots + (first_of gs).slots) (room + (first_of gs).room) (behind_first gs) (k b)) enough

-- Files read by a list of paths, one after another: RULES 8.26 to 8.33.
use Rattle.std.specs.Prelude.{ℕ, ◌+◌, min, Bool, List, [], ◌∷◌, ◌++◌, length, take, drop, eqb, leb}
use Rattle.disc.specs.Choice.{pick}
use Rattle.disc.specs.Refusals.{number}
use Rattle.disc.specs.Counts.{reported}
use Rattle.disc.specs.Ask.{Disc, Ask, asked}
use Rattle.disc.specs.Ran.{Ran}
use Rattle.disc.specs.Replies.{reply_of, left_by}
use Rattle.disc.specs.declared.refusals.Refusal.TheVariants.{NoRoom, TooMany}
use Rattle.disc.specs.declared.replies.Reply.{Reply}

-- ---- the items of a list of paths (RULES 8.26)

-- the bytes before the first zero
unfoldable pub item : List ℕ → List ℕ
item [] = []
item (b ∷ s) = pick (eqb b 0) [] (b ∷ item s)

-- the items after the first zero
unfoldable pub items_behind : List ℕ → List (List ℕ)
items_behind [] = []
items_behind (b ∷ s) = pick (eqb b 0) (item s ∷ items_behind s) (items_behind s)

-- n zeros make n + 1 items
abbrev pub items : List ℕ → List (List ℕ)
items s = item s ∷ items_behind s

-- ---- one item in the room that is left to it (RULES 8.28 to 8.30)

-- the reply for an item: the answer and the length of reading its path alone
abbrev pub reply_in : List ℕ → Ran (List ℕ) → Reply
reply_in room r = reply_of NoRoom (length room) r

-- the room left after an item: all of it where the item is refused
abbrev pub room_left : List ℕ → Ran (List ℕ) → List ℕ
room_left room r = drop (reply_in room r).length (left_by room r.outcome)

-- ---- all of them

-- what the items leave: the room with their bytes in it, one after another, and for each its length and its answer number
pub record Stack : Type 0 where
  pub out : List ℕ
  pub lengths : List ℕ
  pub answers : List ℕ
  pub count : ℕ
  pub filled : ℕ

abbrev pub on_top : List ℕ → Ran (List ℕ) → Stack → Stack
on_top room r rest = record {
  out = take (reply_in room r).length (left_by room r.outcome) ++ rest.out;
  lengths = (reply_in room r).length ∷ rest.lengths;
  answers = (reply_in room r).answer ∷ rest.answers;
  count = r.count + rest.count;
  filled = (reply_in room r).length + rest.filled;
}

-- the items in turn; `read` gives the run of a path
unfoldable pub stacked : (List ℕ → Ran (List ℕ)) → List ℕ → List (List ℕ) → Stack
stacked read room [] = record { out = room; lengths = []; answers = []; count = 0; filled = 0 }
stacked read room (p ∷ ps) = on_top room (read p) (stacked read (room_left room (read p)) ps)

-- ---- the call (RULES 8.27, 8.31 to 8.33)

-- its reply, and what it leaves of the output and of the two rows
pub record Stacked : Type 0 where
  pub reply : Reply
  pub out : List ℕ
  pub lengths : List ℕ
  pub answers : List ℕ

-- a row with `written` over its front
abbrev pub on_front : List ℕ → List ℕ → List ℕ
on_front written row = written ++ drop (length written) row

abbrev pub laid : List ℕ → List ℕ → Stack → Stacked
laid lengths answers s = record {
  reply = record { answer = 0; count = reported s.count; length = s.filled };
  out = s.out;
  lengths = on_front s.lengths lengths;
  answers = on_front s.answers answers;
}

-- there is a place in both rows for each item
abbrev pub places_for : List ℕ → List ℕ → List ℕ → Bool
places_for paths lengths answers = leb (length (items paths)) (min (length lengths) (length answers))

-- the call: refusal 12 comes first, and changes nothing
unfoldable pub read_all_of : (List ℕ → Ran (List ℕ)) → List ℕ → List ℕ → List ℕ → List ℕ → Stacked
read_all_of read paths out lengths answers =
    pick (places_for paths lengths answers)
    (laid lengths answers (stacked read out (items paths)))
    (record { reply = record { answer = number TooMany; count = 0; length = 0 }; out = out; lengths = lengths; answers = answers })

-- ---- the call's list of sectors (RULES 8.32)

-- the sectors that the items ask for, joined in their order
unfoldable pub asked_by_each : Disc → (List ℕ → Ask (List ℕ)) → List (List ℕ) → List ℕ
asked_by_each d tree [] = []
asked_by_each d tree (p ∷ ps) = asked d (tree p) ++ asked_by_each d tree ps

-- the list of the call, empty at refusal 12
unfoldable pub asked_by_all : Disc → (List ℕ → Ask (List ℕ)) → List ℕ → List ℕ → List ℕ → List ℕ
asked_by_all d tree paths lengths answers = pick (places_for paths lengths answers) (asked_by_each d tree (items paths)) []

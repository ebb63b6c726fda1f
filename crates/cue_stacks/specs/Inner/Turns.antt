-- The items one at a time: a place among them, and what it leads to.
use Rattle.std.specs.Prelude.{ℕ, ◌+◌, ◌-◌, ◌≤◌, ◌<◌, min, ◌≡◌, Bool, ◌||◌, List, [], ◌++◌, length, take, drop, leb, Option, Some, None}
use Rattle.std.proofs.lemmas.List.Edits.{sets}
use Rattle.disc.specs.Choice.{pick}
use Rattle.disc.specs.Counts.{reported}
use Rattle.disc.specs.Ran.{Ran}
use Rattle.disc.specs.declared.replies.Reply.{Reply}
use Rattle.cue_stacks.specs.Stacks.{items, Stack, stacked, Stacked, laid}
use Rattle.cue_stacks.specs.declared.stacks.ItemPlace.{ItemPlace}

-- whether an item is the last one read: it ends at `end`, and with it `places` places are taken
unfoldable pub is_last : ℕ → ℕ → ℕ → ℕ → Bool
is_last bytes rows end places = leb bytes end || leb rows places

-- the place after an item that ends at `end` and has this reply, in a list of `bytes` bytes; the shorter row has `rows` places
unfoldable pub place_behind : ℕ → ℕ → ItemPlace → ℕ → Reply → ItemPlace
place_behind bytes rows p end reply =
    record {
      next = pick (is_last bytes rows end (p.places + 1)) None (Some (end + 1));
      places = p.places + 1;
      filled = p.filled + reply.length;
      count = reported (p.count + reply.count);
    }

-- the items that are yet to be read
abbrev pub items_from : List ℕ → Option ℕ → List (List ℕ)
items_from paths None = []
items_from paths (Some from) = items (drop from paths)

unfoldable pub items_at : List ℕ → ItemPlace → List (List ℕ)
items_at paths p = items_from paths p.next

-- what the call leaves once a stack is laid after what the items before it took
abbrev pub laid_at : ItemPlace → List ℕ → List ℕ → List ℕ → Stack → Stacked
laid_at p out lengths answers s = record {
  reply = record { answer = 0; count = reported (p.count + s.count); length = p.filled + s.filled };
  out = take p.filled out ++ s.out;
  lengths = sets lengths p.places s.lengths;
  answers = sets answers p.places s.answers;
}

-- what a place leads to: the rest is read into the room after what is filled
unfoldable pub leads_to : (List ℕ → Ran (List ℕ)) → List ℕ → ItemPlace → List ℕ → List ℕ → List ℕ → Stacked
leads_to read paths p out lengths answers = laid_at p out lengths answers (stacked read (drop p.filled out) (items_at paths p))

-- before the first item
abbrev pub start : ItemPlace
start = record { next = Some 0; places = 0; filled = 0; count = 0 }

-- what the call leaves where there is a place for each item
abbrev pub all_read : (List ℕ → Ran (List ℕ)) → List ℕ → List ℕ → List ℕ → List ℕ → Stacked
all_read read paths out lengths answers = laid lengths answers (stacked read out (items paths))

-- the next item, where there is one, starts inside the list, and has a place in both rows
abbrev pub Next : ℕ → ℕ → ℕ → Option ℕ → Type 0
Next bytes rows places None = Unit {0}
Next bytes rows places (Some from) = (from ≤ bytes) × (places < rows)

-- the place is inside what was lent, whatever the paths say
pub record On (bytes out rows : ℕ) (p : ItemPlace) : Type 0 where
  pub room : p.filled ≤ out
  pub next : Next bytes rows p.places p.next
  pub counted : p.count ≤ 0xffff_ffff_ffff_ffff

-- both rows have a place for each item that is left
abbrev pub Enough : List ℕ → ℕ → ItemPlace → Type 0
Enough paths rows p = p.places + length (items_at paths p) ≤ rows

-- how far it is to the end
abbrev pub turns_from : ℕ → Option ℕ → ℕ
turns_from bytes None = 0
turns_from bytes (Some from) = 1 + (bytes - from)

abbrev pub turns_left : ℕ → ItemPlace → ℕ
turns_left bytes p = turns_from bytes p.next

-- one item read: a place nearer the end, inside what was lent. It leads to the same where there are places enough.
pub record Turns (read : List ℕ → Ran (List ℕ)) (paths : List ℕ) (p : ItemPlace) (out lengths answers : List ℕ) (q : ItemPlace) (out' lengths' answers' : List ℕ) : Type 0 where
  pub on : On (length paths) (length out) (min (length lengths) (length answers)) q
  pub out-long : length out' ≡ length out
  pub lengths-long : length lengths' ≡ length lengths
  pub answers-long : length answers' ≡ length answers
  pub less : turns_left (length paths) q < turns_left (length paths) p
  pub enough : Enough paths (min (length lengths) (length answers)) p → Enough paths (min (length lengths) (length answers)) q
  pub same : Enough paths (min (length lengths) (length answers)) p → leads_to read paths q out' lengths' answers' ≡ leads_to read paths p out lengths answers

-- the items with a place in both rows are read, inside the output; where each item has one, all are read
pub record Passes (read : List ℕ → Ran (List ℕ)) (paths out lengths answers : List ℕ) (left : Stacked) : Type 0 where
  pub room : left.reply.length ≤ length out
  pub out-long : length left.out ≡ length out
  pub lengths-long : length left.lengths ≡ length lengths
  pub answers-long : length left.answers ≡ length answers
  pub whole : length (items paths) ≤ min (length lengths) (length answers) → left ≡ all_read read paths out lengths answers

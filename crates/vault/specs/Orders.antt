-- The order of refusals, call by call.
use Rattle.std.specs.Prelude.{false, Bool, not, List, ℕ, leb, length}
use Rattle.disc.specs.Ask.{Outcome}
use Rattle.disc.specs.Ask.Outcome.{answered, refused}
use Rattle.disc.specs.Choice.{pick}
use Rattle.disc.specs.Refusals.{number}
use Rattle.records.specs.declared.allocations.LongAd.{LongAd}
use Rattle.listings.specs.Entries.{Entry, entries}
use Rattle.listings.specs.Listings.{records}

-- an answer of more bytes than there is room for
abbrev pub overfull : ℕ → Outcome (List ℕ) → Bool
overfull room (answered b) = not (leb (length b) room)
overfull room (refused why) = false

-- the answer number for bytes, with room for `room` of them
abbrev pub roomed : ℕ → Outcome (List ℕ) → ℕ
roomed room (refused why) = number why
roomed room (answered b) = pick (leb (length b) room) 0 5

-- the answer number for the entries of a directory
abbrev pub entries_answer : ℕ → Outcome (List Entry) → ℕ
entries_answer room (refused why) = number why
entries_answer room (answered es) = pick (leb (length (records es)) room) 0 5

-- the answer number of a listing: 6 comes before the entries, and 5 last
abbrev pub listing_answer : Bool → ℕ → ℕ → Outcome (List ℕ) → ℕ
listing_answer check work room (refused why) = number why
listing_answer check work room (answered b) = pick (leb (length b) work) (entries_answer room (entries check b)) 6

-- the answer number of a read by path: the lookup's, then the read's own
abbrev pub path_answer : ℕ → Outcome LongAd → (LongAd → Outcome (List ℕ)) → ℕ
path_answer room (refused why) f = number why
path_answer room (answered icb) f = roomed room (f icb)

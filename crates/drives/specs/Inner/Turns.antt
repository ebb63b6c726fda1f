-- Where a read goes on from what it was lent: what the private functions say.
use Rattle.std.specs.Prelude.{ℕ, zero, suc, ◌-◌, ◌≡◌, true, false, List, [], ◌∷◌, length, drop, leb, Option, Some, None}
use Rattle.disc.specs.Choice.{pick}
use Rattle.disc.specs.Images.{sectors_for}
use Rattle.disc.specs.Places.{is_checked}
use Rattle.disc.specs.declared.places.Mount.{Mount}
use Rattle.disc.specs.declared.refusals.Refusal.TheVariants.{Malformed}
use Rattle.areas.specs.declared.AllocExtent.{AllocExtent}
use Rattle.areas.specs.declared.AdContinuation.{AdContinuation}
use Rattle.areas.specs.Areas.{continuation}
use Rattle.chains.specs.Chains.{area_from, next_area}
use Rattle.drives.specs.Feeds.{Feed, naming, Settled, settled_in}
use Rattle.drives.specs.Feeds.Feed.{over, stop}
use Rattle.drives.specs.FileFeeds.{extent_feed, extents_feed, joined, named_by, chain_feed}
use Rattle.drives.specs.Readings.{reference_in, extent_in, extents_in, reading_over, is_wanting, left_of, number_of}
use Rattle.drives.specs.Beginnings.{ended_with}
use Rattle.drives.specs.declared.scans.Scan.{Scan}
use Rattle.drives.specs.declared.readings.Reading.{Reading}

-- a state that has ended
pub record Ends (r : Reading) (number : ℕ) (r' : Reading) : Type 0 where
  pub is : r' ≡ ended_with r number
  pub phase : r'.phase ≡ reading_over
  pub answer : r'.answer ≡ number
  pub count : r'.count ≡ r.count
  pub length : r'.length ≡ r.length

-- no byte arrives
abbrev pub quiet : Feed → Settled
quiet f = record { bytes = []; rest = f }

-- a state that stands for what is left of a read, with no byte put meanwhile
pub record ReadingStands (row : List (List ℕ)) (f : Feed) (r r' : Reading) : Type 0 where
  pub left : (room : ℕ) → settled_in false (length row) room f ≡ quiet (left_of r' row)
  pub answer : r'.answer ≡ number_of (left_of r' row)
  pub count : r'.count ≡ r.count
  pub length : r'.length ≡ r.length
  pub listed : is_wanting r' ≡ true → r'.scan.listed ≡ r.scan.listed

-- what follows an extent with the others from `next` on
abbrev pub extents_behind : Reading → List (List ℕ) → ℕ → ℕ → Feed
extents_behind r row next left = pick (leb left 0) over (extents_feed r.mount (drop next (extents_in row r.scan.listed)) left)

-- an extent: it is passed over, for it has no byte, or the read goes on there
abbrev pub Enters : Reading → List ℕ → ℕ → Option Reading → Type 0
Enters r w next None = (es : List AllocExtent) → extents_feed r.mount (extent_in w ∷ es) r.missing ≡ extents_feed r.mount es r.missing
Enters r w next (Some x) = (row : List (List ℕ)) → ReadingStands row (extents_feed r.mount (extent_in w ∷ drop next (extents_in row r.scan.listed)) r.missing) r x

-- an extent from a sector on, and what follows it
pub record PassedAt (r : Reading) (at size : ℕ) : Type 0 where
  pub passes : (f : ℕ → Feed) → extent_feed (sectors_for size) at size r.missing f ≡ f r.missing
  pub misses : r.missing ≡ 0 → ⊥

abbrev pub EntersAt : Reading → ℕ → ℕ → ℕ → Option Reading → Type 0
EntersAt r at size next None = PassedAt r at size
EntersAt r at size next (Some x) = (row : List (List ℕ)) → ReadingStands row (extent_feed (sectors_for size) at size r.missing (extents_behind r row next)) r x

-- the continuation of an area that was accepted
abbrev pub continuing : Mount → ℕ → ℕ → ℕ → List AllocExtent → AdContinuation → Feed
continuing m kind zero missing es a = stop Malformed
continuing m kind (suc n) missing es a = naming (named_by kind a.length es) (next_area m kind a) (λ x. chain_feed m kind n missing (joined es x) x.ending)

abbrev pub next_of : Scan → AdContinuation
next_of s = continuation s.next_length (record { 0 = s.next_block }) (reference_in s.next_reference)

pub record Chains (r x : Reading) : Type 0 where
  pub stands : (row : List (List ℕ)) → ReadingStands row (continuing r.mount r.kind r.hops r.missing (extents_in row r.scan.listed) (next_of r.scan)) r x

-- from a sector on
pub record ContinuesAt (r : Reading) (at size : ℕ) (x : Reading) : Type 0 where
  pub stands : (row : List (List ℕ))
      → ReadingStands row (naming (named_by r.kind size (extents_in row r.scan.listed)) (area_from (is_checked r.mount) r.kind size at) (λ y. chain_feed r.mount r.kind (r.hops - 1) r.missing (joined (extents_in row r.scan.listed) y) y.ending)) r x

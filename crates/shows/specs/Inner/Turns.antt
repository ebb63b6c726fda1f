-- The first pass over the tree: the place after a part of it, and an entry at a time.
use Rattle.std.specs.Prelude.{ℕ, suc, ◌+◌, ◌-◌, ◌≤◌, ◌<◌, ◌≡◌, false, List, [], ◌∷◌, leb, length, take, drop}
use Rattle.disc.specs.Choice.{pick}
use Rattle.disc.specs.Refusals.{number}
use Rattle.disc.specs.Counts.{reported}
use Rattle.disc.specs.Places.{is_checked}
use Rattle.disc.specs.Ask.{Disc, Ask, Outcome, then, ended}
use Rattle.disc.specs.Ask.Ask.{done}
use Rattle.disc.specs.Ask.Outcome.{answered, refused}
use Rattle.disc.specs.Ran.{Ran, ran}
use Rattle.disc.specs.declared.places.Mount.{Mount}
use Rattle.disc.specs.declared.refusals.Refusal.TheVariants.{OverBudget}
use Rattle.records.specs.declared.allocations.LongAd.{LongAd}
use Rattle.listings.specs.Entries.{Entry, is_skipped, entries}
use Rattle.listings.specs.Listings.{entry_record, records}
use Rattle.directories.specs.Directories.{directory_bytes}
use Rattle.shows.specs.Shows.{Node, under, nodes_at, node_records}
use Rattle.shows.specs.Inner.Placings.{node_placed, each_placed}
use Rattle.shows.specs.declared.levels.ShowPlace.{ShowPlace}
use Rattle.shows.specs.declared.levels.OpenedLevel.{OpenedLevel}
use Rattle.shows.specs.declared.levels.EntryTurn.{EntryTurn}

-- ---- a place in a show, and the place after a part of the tree

abbrev pub stopped_at : ℕ → ℕ → ShowPlace
stopped_at answer count = record { answer = answer; count = count; size = 0; most = 0 }

-- before the first entry of the root
abbrev pub start_of : ℕ → ShowPlace
start_of most = record { answer = 0; count = 0; size = 0; most = most }

-- the place isn't refused, its budget is `most` sectors, it asked for no more, and its size fits 64 bits
pub record Held (most : ℕ) (p : ShowPlace) : Type 0 where
  pub going : p.answer ≡ 0
  pub lends : p.most ≡ most
  pub counted : p.count ≤ most
  pub bounded : most ≤ 0xffff_ffff_ffff_ffff
  pub sized : p.size ≤ 0xffff_ffff_ffff_ffff

-- of the bytes of the part's records `known` were counted before
abbrev pub behind_by : ℕ → ShowPlace → Outcome (List Node) → ℕ → ShowPlace
behind_by known p (answered ns) n = record { answer = 0; count = reported (p.count + n); size = reported (p.size + (length (node_records ns) - known)); most = p.most }
behind_by known p (refused why) n = stopped_at (number why) (reported (p.count + n))

-- the place after a part that asks for n sectors: refused by 16 where that exceeds the budget
abbrev pub capped_by : ShowPlace → ℕ → ShowPlace → ShowPlace
capped_by p n q = pick (leb (reported (p.count + n)) p.most) q (stopped_at (number OverBudget) p.most)

-- a part of the tree was visited, of whose bytes `known` were counted before: the place after it, and what is lent for figures with its nodes in it
pub record Visited (of : Node → List ℕ → List ℕ) (known : ℕ) (r : Ran (List Node)) (p : ShowPlace) (before : List ℕ) (q : ShowPlace) (after : List ℕ) : Type 0 where
  pub says : q ≡ capped_by p r.count (behind_by known p r.outcome r.count)
  pub knew : (ns : List Node) → r.outcome ≡ answered ns → reported (p.count + r.count) ≤ p.most → known ≤ length (node_records ns)
  pub tallied : (ns : List Node) → r.outcome ≡ answered ns → reported (p.count + r.count) ≤ p.most → after ≡ each_placed of ns before

-- ---- a directory read and parsed

-- its bytes and its entries, and what is done with them
abbrev pub opening : {A : Type 0} → Mount → ℕ → LongAd → (List ℕ → List Entry → Ask A) → Ask A
opening m work icb f = then (directory_bytes m work icb) (λ b. then (ended (entries (is_checked m) b)) (f b))

-- it is good: its bytes stand at the front of the work space, and its listing's are counted
pub record OpenedWell (d : Disc) (m : Mount) (icb : LongAd) (p : ShowPlace) (work : ℕ) (work' : List ℕ) (o : OpenedLevel) : Type 0 where
  pub es : List Entry
  pub n : ℕ
  pub fits : o.length ≤ length work'
  pub are : entries (is_checked m) (take o.length work') ≡ answered es
  pub goes : (f : List ℕ → List Entry → Ask (List Node)) → ran d (opening m work icb f) ≡ record { outcome = (ran d (f (take o.length work') es)).outcome; count = n + (ran d (f (take o.length work') es)).count }
  pub within : reported (p.count + n) ≤ p.most
  pub place : o.place ≡ record { answer = 0; count = reported (p.count + n); size = reported (p.size + length (records es)); most = p.most }

-- or it is refused, or wants too many sectors, whatever was to follow
pub record OpenedBadly (d : Disc) (m : Mount) (icb : LongAd) (p : ShowPlace) (work : ℕ) (o : OpenedLevel) : Type 0 where
  pub shows : (of : Node → List ℕ → List ℕ) (f : List ℕ → List Entry → Ask (List Node)) (l : List ℕ) → Visited of 0 (ran d (opening m work icb f)) p l o.place l

pub record Opens (d : Disc) (m : Mount) (icb : LongAd) (p : ShowPlace) (work work' : List ℕ) (o : OpenedLevel) : Type 0 where
  pub good : o.place.answer ≡ 0 → OpenedWell d m icb p (length work) work' o
  pub bad : (o.place.answer ≡ 0 → ⊥) → OpenedBadly d m icb p (length work) o

-- ---- the turn of an entry

-- its own node, and the nodes under it
unfoldable pub turn_of : (LongAd → Ask (List Node)) → ℕ → Entry → Ask (List Node)
turn_of inside level e =
    pick (is_skipped e.identifier) (done [])
    (then (under inside e) (λ below. done (record { level = level; entry = e } ∷ below)))

-- the first of the entries that stand at a place, and the others, which stand at the next
pub record Turned (raw : List ℕ) (next : ℕ) (es : List Entry) : Type 0 where
  pub first : Entry
  pub others : List Entry
  pub all : es ≡ first ∷ others
  pub are : entries false (drop next raw) ≡ answered others

-- it had its turn: whatever its level, as much of its record was counted before as a listing has of it
pub record Handled (d : Disc) (m : Mount) (left : ℕ) (raw : List ℕ) (work : ℕ) (p : ShowPlace) (before : List ℕ) (t : EntryTurn) (after : List ℕ) (es : List Entry) : Type 0 where
  pub turned : Turned raw t.next es
  pub shows : (level : ℕ)
      → Visited (node_placed d m p.most) (length (entry_record turned.first)) (ran d (turn_of (nodes_at m left (suc level) work) level turned.first)) p before t.place after

-- so it is where the bytes are as they were parsed; whatever they are, the next entry starts further on
pub record Handles (d : Disc) (m : Mount) (left : ℕ) (raw : List ℕ) (work at : ℕ) (p : ShowPlace) (before : List ℕ) (t : EntryTurn) (after : List ℕ) : Type 0 where
  pub further : at < t.next
  pub near : t.next ≤ length raw + 3
  pub held : t.place.answer ≡ 0 → Held p.most t.place
  pub good : (es : List Entry) → entries false (drop at raw) ≡ answered es → Handled d m left raw work p before t after es

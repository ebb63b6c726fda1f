-- The second pass over the tree: the records of a part of it in their place. Nothing is checked again.
use Rattle.std.specs.Prelude.{ℕ, suc, ◌+◌, ◌≤◌, ◌<◌, ◌≡◌, true, false, List, [], length, drop}
use Rattle.std.proofs.lemmas.List.Edits.{sets}
use Rattle.disc.specs.Choice.{pick}
use Rattle.disc.specs.Ask.{Disc}
use Rattle.disc.specs.Ask.Outcome.{answered}
use Rattle.disc.specs.Ran.{Ran, ran}
use Rattle.disc.specs.declared.places.Mount.{Mount}
use Rattle.names.specs.Names.{Wrote}
use Rattle.identifiers.specs.Identifiers.{next_at, is_directory}
use Rattle.listings.specs.Entries.{Entry, entry_read, is_skipped, entries}
use Rattle.listings.specs.Inner.Passes.{record_in}
use Rattle.shows.specs.Shows.{Node, nodes_at, leveled, node_record, node_records}
use Rattle.shows.specs.Inner.Turns.{turn_of, Turned}
use Rattle.shows.specs.declared.nodes.NodePut.{NodePut}
use Rattle.shows.specs.declared.writing.WriteTurn.{WriteTurn}

-- ---- one entry's own record

-- what writing a record says, by the entry's characteristics and bytes and its name in UTF-8: what is written has room, and it is the record where
-- that has
pub record Leveled (level marks : ℕ) (s name before after : List ℕ) (r : ℕ) : Type 0 where
  pub inside : r ≤ length before
  pub wrote : 22 + length name ≤ length before → Wrote (leveled level (record_in marks s name)) before after r

-- of an entry that is skipped there is none, and no directory
abbrev pub own_record : ℕ → Entry → List ℕ
own_record level x = pick (is_skipped x.identifier) [] (node_record (record { level = level; entry = x }))

-- what writing the record of the entry at the front of s says, whatever bytes s has, a directory told by its record alone; and where it can be read
pub record NodePuts (level : ℕ) (s before after : List ℕ) (r : NodePut) : Type 0 where
  pub inside : r.wrote ≤ length before
  pub only : r.directory ≡ true → 0 < r.wrote
  pub further : 38 ≤ r.next
  pub near : r.next ≤ length s + 3
  pub next : (x : Entry) → entry_read false s ≡ answered x → r.next ≡ next_at s
  pub wrote : (x : Entry) → entry_read false s ≡ answered x → length (own_record level x) ≤ length before → Wrote (own_record level x) before after r.wrote
  pub directory : (x : Entry) → entry_read false s ≡ answered x → length (own_record level x) ≤ length before → r.directory ≡ pick (is_skipped x.identifier) false (is_directory x.identifier)

-- ---- a part of the tree

-- its records stand after `from` bytes, and end at `to`, where it is answered and they have room; what is written has room whatever it is
pub record Writes (r : Ran (List Node)) (from : ℕ) (before after : List ℕ) (to : ℕ) : Type 0 where
  pub inside : to ≤ length before
  pub ends : (ns : List Node) → r.outcome ≡ answered ns → from + length (node_records ns) ≤ length before → to ≡ from + length (node_records ns)
  pub puts : (ns : List Node) → r.outcome ≡ answered ns → from + length (node_records ns) ≤ length before → after ≡ sets before from (node_records ns)

-- the turn of an entry, the first of those that stand at a place
pub record EntryWritten (d : Disc) (m : Mount) (left level : ℕ) (raw : List ℕ) (work from : ℕ) (before : List ℕ) (t : WriteTurn) (after : List ℕ) (es : List Entry) : Type 0 where
  pub turned : Turned raw t.next es
  pub writes : Writes (ran d (turn_of (nodes_at m left (suc level) work) level turned.first)) from before after t.to

-- so it is where the bytes are as they were parsed; whatever they are, the next entry starts further on
pub record EntryWrites (d : Disc) (m : Mount) (left level : ℕ) (raw : List ℕ) (work at from : ℕ) (before : List ℕ) (t : WriteTurn) (after : List ℕ) : Type 0 where
  pub further : at < t.next
  pub near : t.next ≤ length raw + 3
  pub inside : t.to ≤ length before
  pub good : (es : List Entry) → entries false (drop at raw) ≡ answered es → EntryWritten d m left level raw work from before t after es

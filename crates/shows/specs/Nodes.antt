-- The nodes of a tree, stated without the walk that gives them, and the path of a node: RULES 8.35 and 8.36.
use Rattle.std.specs.Prelude.{ℕ, suc, ◌-◌, ◌≤◌, ◌≡◌, true, false, List, [], ◌∷◌, ◌++◌, map, length, take, drop, eqb, ltb}
use Rattle.disc.specs.Choice.{pick}
use Rattle.disc.specs.Ask.{Disc, outcome}
use Rattle.disc.specs.Ask.Outcome.{answered}
use Rattle.disc.specs.Places.{is_checked}
use Rattle.disc.specs.declared.places.Mount.{Mount}
use Rattle.disc.specs.declared.replies.Reply.{Reply}
use Rattle.records.specs.declared.allocations.LongAd.{LongAd}
use Rattle.identifiers.specs.Identifiers.{is_directory}
use Rattle.files.specs.Files.{file_bytes}
use Rattle.listings.specs.Entries.{Entry, is_skipped, name_in, entries}
use Rattle.listings.specs.Paths.{front}
use Rattle.shows.specs.Shows.{Node, node_records}

-- ---- the nodes (RULES 8.35 and 8.36)

-- of the nodes that follow one of this level, those under it: up to the first that isn't deeper
unfoldable pub below : ℕ → List Node → List Node
below level [] = []
below level (n ∷ ns) = pick (ltb level n.level) (n ∷ below level ns) []

-- the entries of the nodes that are one level deeper, in order
unfoldable pub children : ℕ → List Node → List Entry
children level [] = []
children level (n ∷ ns) = pick (eqb n.level (suc level)) (n.entry ∷ children level ns) (children level ns)

-- the entries that are listed: all except deleted ones and the parent's
unfoldable pub listed : List Entry → List Entry
listed [] = []
listed (e ∷ es) = pick (is_skipped e.identifier) (listed es) (e ∷ listed es)

-- the listed entries of the directory at an ICB: its bytes as a read gives them, parsed
pub record EntriesOf (d : Disc) (m : Mount) (icb : LongAd) (es : List Entry) : Type 0 where
  pub bytes : List ℕ
  pub all : List Entry
  pub read : outcome d (file_bytes m icb) ≡ answered bytes
  pub parsed : entries (is_checked m) bytes ≡ answered all
  pub are : es ≡ listed all

-- what is under a node, among the nodes that follow it: a directory's entries, each once and in order, and nothing under a file
pub record Under (d : Disc) (m : Mount) (n : Node) (behind : List Node) : Type 0 where
  pub directory : is_directory n.entry.identifier ≡ true → EntriesOf d m n.entry.identifier.icb (children n.level (below n.level behind))
  pub file : is_directory n.entry.identifier ≡ false → below n.level behind ≡ []

-- no node is more than one level deeper than the one before it, and no level is below 1
unfoldable pub Steps : ℕ → List Node → Type 0
Steps before [] = Unit {0}
Steps before (n ∷ ns) = (1 ≤ n.level) × (n.level ≤ suc before) × Steps n.level ns

-- these are the nodes of the tree from the directory at root: its entries are level 1, and each node is followed by what is under it
pub record TreeOf (d : Disc) (m : Mount) (root : LongAd) (ns : List Node) : Type 0 where
  pub roots : EntriesOf d m root (children 0 ns)
  pub each : (before : List Node) (n : Node) (behind : List Node) → ns ≡ before ++ n ∷ behind → Under d m n behind
  pub steps : Steps 0 ns

-- a show was answered with such nodes: their records are over the front of what was lent, and nothing after them is changed
pub record ShowsTree (d : Disc) (m : Mount) (root : LongAd) (before after : List ℕ) (reply : Reply) : Type 0 where
  pub ns : List Node
  pub nodes : TreeOf d m root ns
  pub said : reply.length ≡ length (node_records ns)
  pub wrote : after ≡ node_records ns ++ drop (length (node_records ns)) before

-- ---- the path of a node

-- the way from the root to n: the nodes above n on the way to the node before it, then n itself
abbrev pub entered : List Node → Node → List Node
entered way n = take (n.level - 1) way ++ n ∷ []

unfoldable pub way_from : List Node → List Node → List Node
way_from way [] = way
way_from way (n ∷ ns) = way_from (entered way n) ns

-- the way to a node, by the nodes before it: those above it, from the root down, and itself
abbrev pub way_to : List Node → Node → List Node
way_to before n = entered (way_from [] before) n

-- names joined by slashes
unfoldable pub joined : List (List ℕ) → List ℕ
joined [] = []
joined (name ∷ []) = name
joined (name ∷ other ∷ names) = name ++ 0x2f ∷ joined (other ∷ names)

abbrev pub name_at : Node → List ℕ
name_at n = name_in n.entry

abbrev pub path_of : List Node → List ℕ
path_of way = joined (map name_at way)

-- a name that a path can have as a component: not empty, and with no slash in it
pub record Sayable (name : List ℕ) : Type 0 where
  pub some : 1 ≤ length name
  pub unslashed : front name ≡ name

-- at most one of these entries has the name
unfoldable pub NoneNamed : List ℕ → List Entry → Type 0
NoneNamed name [] = Unit {0}
NoneNamed name (e ∷ es) = (name_in e ≡ name → ⊥) × NoneNamed name es

unfoldable pub OnceNamed : List ℕ → List Entry → Type 0
OnceNamed name [] = Unit {0}
OnceNamed name (e ∷ es) = (name_in e ≡ name → NoneNamed name es) × OnceNamed name es

-- each name on the way from the directory at icb can be a component, and its directory has it at most once
unfoldable pub Plain : Disc → Mount → LongAd → List Node → Type 0
Plain d m icb [] = Unit {0}
Plain d m icb (n ∷ way) =
    Sayable (name_at n)
    × ((es : List Entry) → EntriesOf d m icb es → OnceNamed (name_at n) es)
    × Plain d m n.entry.identifier.icb way

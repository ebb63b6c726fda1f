-- A volume's whole tree down to a number of levels, as nodes and as a listing: RULES 8.34 to 8.41.
use Rattle.std.specs.Prelude.{ℕ, zero, suc, ◌-◌, ◌&&◌, List, [], ◌∷◌, ◌++◌, length, take, drop, leb}
use Rattle.disc.specs.Choice.{pick}
use Rattle.disc.specs.Ask.{Ask, then, ended}
use Rattle.disc.specs.Ask.Ask.{done, refuse}
use Rattle.disc.specs.Places.{is_checked}
use Rattle.disc.specs.declared.places.Mount.{Mount}
use Rattle.disc.specs.declared.refusals.Refusal.TheVariants.{TooDeep}
use Rattle.records.specs.declared.allocations.LongAd.{LongAd}
use Rattle.identifiers.specs.Identifiers.{is_directory}
use Rattle.listings.specs.Entries.{Entry, is_skipped, entries}
use Rattle.listings.specs.Listings.{entry_record}
use Rattle.directories.specs.Directories.{directory_bytes}

-- ---- the tree (RULES 8.35 to 8.39)

-- an entry that a path leads to, and how many components that path has: the root's entries are level 1
pub record Node : Type 0 where
  pub level : ℕ
  pub entry : Entry

-- the nodes under an entry: for a directory `inside` of its ICB, for a file none
abbrev pub under : (LongAd → Ask (List Node)) → Entry → Ask (List Node)
under inside e = pick (is_directory e.identifier) (inside e.identifier.icb) (done [])

-- the entries of a directory in turn, each before what is under it; deleted and parent entries are skipped as in a listing
unfoldable pub nodes_of : (LongAd → Ask (List Node)) → ℕ → List Entry → Ask (List Node)
nodes_of inside level [] = done []
nodes_of inside level (e ∷ es) =
    pick (is_skipped e.identifier) (nodes_of inside level es)
    (then (under inside e) (λ below.
    then (nodes_of inside level es) (λ others.
    done (record { level = level; entry = e } ∷ (below ++ others)))))

-- the nodes of the directory at icb, with `left` levels left, and `work` bytes of work space after the directories above it: with no level left it is
-- refused before its sectors; all its entries are parsed before the first of them has its turn
unfoldable pub nodes_at : Mount → ℕ → ℕ → ℕ → LongAd → Ask (List Node)
nodes_at m zero level work icb = refuse TooDeep
nodes_at m (suc left) level work icb =
    then (directory_bytes m work icb) (λ b.
    then (ended (entries (is_checked m) b)) (λ es.
    nodes_of (nodes_at m left (suc level) (work - length b)) level es))

-- the most levels that can be asked for
abbrev pub most_levels : ℕ
most_levels = 16

-- the whole tree, from the directory at root
unfoldable pub tree : Mount → ℕ → ℕ → LongAd → Ask (List Node)
tree m levels work root = pick (leb 1 levels && leb levels most_levels) (nodes_at m levels 1 work root) (refuse TooDeep)

-- ---- its listing (RULES 8.34)

-- a record of a listing, with the level after its mark of two bytes
unfoldable pub leveled : ℕ → List ℕ → List ℕ
leveled level r = take 2 r ++ level ∷ drop 2 r

unfoldable pub node_record : Node → List ℕ
node_record n = leveled n.level (entry_record n.entry)

unfoldable pub node_records : List Node → List ℕ
node_records [] = []
node_records (n ∷ ns) = node_record n ++ node_records ns

-- the call: 5 comes after every other refusal (`Replied`)
unfoldable pub tree_records : Mount → ℕ → ℕ → LongAd → Ask (List ℕ)
tree_records m levels work root = then (tree m levels work root) (λ ns. done (node_records ns))

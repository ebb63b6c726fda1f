-- What a walk along a path leaves in the work space: each directory read, over the front of what the one before it left.
use Rattle.std.specs.Prelude.{ℕ, Bool, true, false, List, [], ◌∷◌, length, drop, Option, Some, None}
use Rattle.disc.specs.Ask.{Disc, Outcome}
use Rattle.disc.specs.Ask.Outcome.{answered, refused}
use Rattle.disc.specs.Ran.{ran}
use Rattle.disc.specs.declared.places.Mount.{Mount}
use Rattle.records.specs.declared.allocations.LongAd.{LongAd}
use Rattle.identifiers.specs.Identifiers.{is_directory}
use Rattle.listings.specs.Entries.{Entry}
use Rattle.listings.specs.Paths.{Component, components_from, components}
use Rattle.listings.specs.declared.matchings.Matching.{Matching}
use Rattle.directories.specs.Directories.{directory_bytes}
use Rattle.directories.specs.Lookups.{entering}
use Rattle.directories.specs.Inner.Spaces.{on_front}
use Rattle.directories.specs.declared.walks.Turn.{Turn}
use Rattle.directories.specs.declared.walks.Turn.TheVariants.{Goes, Ends}

-- the work space once the directory at icb is read into it; as it came where that is refused
abbrev pub read_into : Disc → Mount → List ℕ → LongAd → List ℕ
read_into d v work icb = on_front (ran d (directory_bytes v (length work) icb)).outcome work

-- after a component was looked for: the walk goes on at its entry, or has ended
abbrev pub walked_on : Outcome (Option Entry) → List ℕ → (Entry → List ℕ) → List ℕ
walked_on (answered (Some e)) work rest = rest e
walked_on (answered None) work rest = work
walked_on (refused r) work rest = work

-- after a walk along components: one under a file is lost before anything is read
unfoldable pub walk_leaves : Disc → Matching → Mount → List Component → LongAd → Bool → List ℕ → List ℕ
walk_leaves d matching v [] icb directory work = work
walk_leaves d matching v (c ∷ cs) icb false work = work
walk_leaves d matching v (c ∷ cs) icb true work =
    walked_on (ran d (entering matching v (length work) icb c.bytes)).outcome (read_into d v work icb)
    (λ e. walk_leaves d matching v cs e.identifier.icb (is_directory e.identifier) (read_into d v work icb))

-- after a walk along a path from the root
unfoldable pub path_leaves : Disc → Matching → Mount → LongAd → List ℕ → List ℕ → List ℕ
path_leaves d matching v root path work = walk_leaves d matching v (components path) root true work

-- after the rest of a walk, from a place on
unfoldable pub place_leaves : Disc → Matching → Mount → List ℕ → Turn → List ℕ → List ℕ
place_leaves d matching v path (Goes p) work = walk_leaves d matching v (components_from p.from (drop p.from path)) p.icb p.directory work
place_leaves d matching v path (Ends x) work = work

-- The way along a path: which directories a lookup enters, and what it meets there.
use Rattle.std.specs.Prelude.{true, false, Bool, [], List, ◌∷◌, ◌++◌, ◌≡◌, ℕ, ◌<◌, length, Option, Some, None}
use Rattle.disc.specs.Ask.{Disc, Outcome}
use Rattle.disc.specs.Ask.Outcome.{answered, refused}
use Rattle.disc.specs.Places.{is_checked}
use Rattle.disc.specs.Ran.{ran, Ran}
use Rattle.disc.specs.declared.places.Mount.{Mount}
use Rattle.records.specs.declared.allocations.LongAd.{LongAd}
use Rattle.names.specs.Names.{lower}
use Rattle.identifiers.specs.Identifiers.{is_directory}
use Rattle.files.specs.Files.{file_bytes}
use Rattle.listings.specs.Entries.{Entry, entries}
use Rattle.listings.specs.Listings.{first_named, all_named, fold_in, chosen}
use Rattle.listings.specs.Matchings.{Apart, Several}
use Rattle.listings.specs.Paths.{Component}
use Rattle.listings.specs.declared.matchings.Matching.{Matching}
use Rattle.listings.specs.declared.matchings.Matching.TheVariants.{Unambiguous}
use Rattle.directories.specs.Directories.{directory_bytes}
use Rattle.directories.specs.Lookups.{Sought, seeking}
use Rattle.directories.specs.Lookups.Sought.{lost, reached}

-- in each directory along the components, taken by the first choice, no two listed names are equal with ASCII case ignored
unfoldable pub ApartOn : Disc → Mount → ℕ → List Component → LongAd → Bool → Type 0
ApartOn d v work [] icb directory = Unit {0}
ApartOn d v work (c ∷ cs) icb false = Unit {0}
ApartOn d v work (c ∷ cs) icb true =
    (b : List ℕ) (es : List Entry) → (ran d (directory_bytes v work icb)).outcome ≡ answered b → entries (is_checked v) b ≡ answered es
    → Apart es × ((e : Entry) → first_named lower c.bytes es ≡ Some e → ApartOn d v work cs e.identifier.icb (is_directory e.identifier))

-- the walk ended at a component that wasn't found, which is refused by 3
pub record IsLost (r : Ran Sought) : Type 0 where
  pub component : Component
  pub is : r.outcome ≡ answered (lost component)

-- e is the entry taken for a name in the directory at icb: the directory is read into the work space, all of its entries are parsed, and the choice
-- of matching takes e of those that answer to the name
pub record Takes (d : Disc) (matching : Matching) (v : Mount) (work : ℕ) (icb : LongAd) (name : List ℕ) (e : Entry) : Type 0 where
  pub bytes : List ℕ
  pub read : (ran d (directory_bytes v work icb)).outcome ≡ answered bytes
  pub all : List Entry
  pub parsed : entries (is_checked v) bytes ≡ answered all
  pub takes : chosen matching (all_named (fold_in matching) name all) ≡ answered (Some e)

-- the entry taken is a directory, and `next` holds for its ICB
pub record Enters (d : Disc) (matching : Matching) (v : Mount) (work : ℕ) (icb : LongAd) (name : List ℕ) (next : LongAd → Type 0) : Type 0 where
  pub entry : Entry
  pub takes : Takes d matching v work icb name entry
  pub directory : is_directory entry.identifier ≡ true
  pub on : next entry.identifier.icb

-- components lead from the directory at `from` to the one at `to`, from directory to directory
unfoldable pub Leads : Disc → Matching → Mount → ℕ → List Component → LongAd → LongAd → Type 0
Leads d matching v work [] from to = from ≡ to
Leads d matching v work (c ∷ cs) from to = Enters d matching v work from c.bytes (λ icb. Leads d matching v work cs icb to)

-- the first of the components lead to a directory in which several entries match the next one
pub record Doubles (d : Disc) (v : Mount) (work : ℕ) (cs : List Component) (from : LongAd) : Type 0 where
  pub before : List Component
  pub next : Component
  pub others : List Component
  pub parts : cs ≡ before ++ next ∷ others
  pub directory : LongAd
  pub led : Leads d Unambiguous v work before from directory
  pub bytes : List ℕ
  pub read : (ran d (directory_bytes v work directory)).outcome ≡ answered bytes
  pub all : List Entry
  pub parsed : entries (is_checked v) bytes ≡ answered all
  pub several : Several (all_named lower next.bytes all)

-- the first of the components lead to a directory in which the next is looked for, and which has more bytes than the work space
pub record Overflows (d : Disc) (matching : Matching) (v : Mount) (work : ℕ) (cs : List Component) (from : LongAd) : Type 0 where
  pub before : List Component
  pub next : Component
  pub others : List Component
  pub parts : cs ≡ before ++ next ∷ others
  pub directory : LongAd
  pub led : Leads d matching v work before from directory
  pub bytes : List ℕ
  pub read : (ran d (file_bytes v directory)).outcome ≡ answered bytes
  pub exceeds : work < length bytes

-- the components of cs lead to a directory
pub record Led (d : Disc) (matching : Matching) (v : Mount) (work : ℕ) (cs : List Component) (from : LongAd) : Type 0 where
  pub to : LongAd
  pub leads : Leads d matching v work cs from to

-- where a walk ends whose last component has this entry, or none
abbrev pub last_of : Component → Option Entry → Sought
last_of c None = lost c
last_of c (Some e) = reached e.identifier.icb

abbrev pub last_in : Component → Outcome (Option Entry) → Outcome Sought
last_in c (answered o) = answered (last_of c o)
last_in c (refused why) = refused why

-- the walk of components
abbrev pub walk : Disc → Matching → Mount → ℕ → List Component → LongAd → Bool → Ran Sought
walk d matching v work cs icb directory = ran d (seeking matching v work cs icb directory)

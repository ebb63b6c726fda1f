-- A show level by level: what is refused by 11, and the nodes of a level.
use Rattle.std.specs.Prelude.{false, [], List, ◌∷◌, ◌++◌, ◌≡◌, ℕ, ◌≤◌, eqb}
use Rattle.disc.specs.Ask.{Ask, outcome, Disc, asked, Outcome, then, ended}
use Rattle.disc.specs.Ask.Outcome.{refused}
use Rattle.disc.specs.Choice.{pick}
use Rattle.disc.specs.Places.{is_checked}
use Rattle.disc.specs.Ran.{Ran, ran}
use Rattle.disc.specs.Refusals.{number}
use Rattle.disc.specs.declared.places.Mount.{Mount}
use Rattle.disc.specs.declared.refusals.Refusal.{Refusal}
use Rattle.disc.specs.declared.refusals.Refusal.TheVariants.{TooDeep}
use Rattle.records.specs.declared.allocations.LongAd.{LongAd}
use Rattle.identifiers.specs.Identifiers.{is_directory}
use Rattle.listings.specs.Entries.{Entry, entries, is_skipped}
use Rattle.listings.specs.Listings.{entry_record}
use Rattle.directories.specs.Directories.{directory_bytes}
use Rattle.shows.specs.Shows.{leveled, Node}

-- two calls with the same outcome and the same list of sectors
pub record Alike {A : Type 0} (d : Disc) (m n : Ask A) : Type 0 where
  pub outcomes : outcome d n ≡ outcome d m
  pub lists : asked d n ≡ asked d m

-- refused by 11, with no sector asked for
pub record Eleven {A : Type 0} (d : Disc) (m : Ask A) : Type 0 where
  pub refuses : outcome d m ≡ refused TooDeep
  pub numbered : number TooDeep ≡ 11
  pub asks : asked d m ≡ []

-- an outcome after n sectors
abbrev pub counted : {A : Type 0} → ℕ → Outcome A → Ran A
counted n o = record { outcome = o; count = n }

-- the entries of the directory at icb, as a listing and a show both have them
abbrev pub entries_at : Mount → ℕ → LongAd → Ask (List Entry)
entries_at m work icb = then (directory_bytes m work icb) (λ b. ended (entries (is_checked m) b))

-- a directory's listing, with the level put into each record
unfoldable pub leveled_records : ℕ → List Entry → List ℕ
leveled_records level [] = []
leveled_records level (e ∷ es) = pick (is_skipped e.identifier) (leveled_records level es) (leveled level (entry_record e) ++ leveled_records level es)

-- the listed entries as nodes
unfoldable pub level_nodes : ℕ → List Entry → List Node
level_nodes level [] = []
level_nodes level (e ∷ es) = pick (is_skipped e.identifier) (level_nodes level es) (record { level = level; entry = e } ∷ level_nodes level es)

-- no listed entry is a directory
unfoldable pub NoDirectory : List Entry → Type 0
NoDirectory [] = Unit {0}
NoDirectory (e ∷ es) = (is_skipped e.identifier ≡ false → is_directory e.identifier ≡ false) × NoDirectory es

-- the nodes of one level
unfoldable pub at_level : ℕ → List Node → List Node
at_level level [] = []
at_level level (n ∷ ns) = pick (eqb n.level level) (n ∷ at_level level ns) (at_level level ns)

-- no node's level is less than this
unfoldable pub AtLeast : ℕ → List Node → Type 0
AtLeast level [] = Unit {0}
AtLeast level (n ∷ ns) = (level ≤ n.level) × AtLeast level ns

-- any refusal
abbrev pub AnyRefusal : Refusal → Type 0
AnyRefusal why = Unit {0}

-- the directory at an ICB, read into the work space, and its entries
abbrev pub directory_run : Disc → Mount → ℕ → LongAd → Ran (List ℕ)
directory_run d m work icb = ran d (directory_bytes m work icb)

abbrev pub entries_run : Disc → Mount → ℕ → LongAd → Ran (List Entry)
entries_run d m work icb = ran d (entries_at m work icb)

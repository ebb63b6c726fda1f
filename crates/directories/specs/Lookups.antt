-- A path looked up by a choice of matching, the component that failed, and a file read by its path: RULES 8.13 to 8.25.
use Rattle.std.specs.Prelude.{ℕ, Bool, true, false, List, [], ◌∷◌, length, Option, Some, None}
use Rattle.disc.specs.Replies.{answer_of}
use Rattle.disc.specs.declared.places.Mount.{Mount}
use Rattle.disc.specs.Places.{is_checked}
use Rattle.disc.specs.Counts.{reported}
use Rattle.disc.specs.Ask.{Ask, Outcome, then, ended, and_then}
use Rattle.disc.specs.Ask.Ask.{done}
use Rattle.disc.specs.Ask.Outcome.{answered, refused}
use Rattle.disc.specs.Ran.{Ran}
use Rattle.disc.specs.declared.refusals.Refusal.TheVariants.{NotBluray}
use Rattle.disc.specs.declared.replies.Reply.{Reply}
use Rattle.records.specs.Allocations.{no_long}
use Rattle.records.specs.declared.allocations.LongAd.{LongAd}
use Rattle.identifiers.specs.Identifiers.{is_directory}
use Rattle.files.specs.Files.{file_bytes}
use Rattle.listings.specs.Entries.{Entry}
use Rattle.listings.specs.Listings.{find_in}
use Rattle.listings.specs.Paths.{Component, no_component, components}
use Rattle.listings.specs.declared.matchings.Matching.{Matching}
use Rattle.directories.specs.Directories.{directory_bytes}
use Rattle.directories.specs.declared.lookups.Found.{Found}

-- ---- the walk

-- the entry of a name in the directory at icb, if there is one, by a choice of matching: an ambiguous component is refused once the directory has
-- been read
unfoldable pub entering : Matching → Mount → ℕ → LongAd → List ℕ → Ask (Option Entry)
entering matching v work icb component = then (directory_bytes v work icb) (λ b. ended (find_in (is_checked v) matching component b))

-- where a path leads: to an ICB, or to a component that isn't there
pub data Sought : Type 0 where
  reached : LongAd → Sought
  lost : Component → Sought

abbrev pub or_lost : {A : Type 0} → Component → Option A → (A → Ask Sought) → Ask Sought
or_lost c None f = done (lost c)
or_lost c (Some a) f = f a

-- the components in turn; one under a file is lost before any further sector
unfoldable pub seeking : Matching → Mount → ℕ → List Component → LongAd → Bool → Ask Sought
seeking matching v work [] icb directory = done (reached icb)
seeking matching v work (c ∷ cs) icb false = done (lost c)
seeking matching v work (c ∷ cs) icb true =
    then (entering matching v work icb c.bytes) (λ o.
    or_lost c o (λ e. seeking matching v work cs e.identifier.icb (is_directory e.identifier)))

-- a path from the root, which counts as a directory
unfoldable pub seek_path : Matching → Mount → ℕ → LongAd → List ℕ → Ask Sought
seek_path matching v work root path = seeking matching v work (components path) root true

-- ---- what is asked of a path

-- a component that isn't there is refused by 3
abbrev pub icb_of : Sought → Outcome LongAd
icb_of (reached icb) = answered icb
icb_of (lost c) = refused NotBluray

-- the ICB that the path names
unfoldable pub lookup_of : Matching → Mount → ℕ → LongAd → List ℕ → Ask LongAd
lookup_of matching v work root path = then (seek_path matching v work root path) (λ s. ended (icb_of s))

-- the bytes of the file that the path names: a lookup, then a read
unfoldable pub read_path_of : Matching → Mount → ℕ → LongAd → List ℕ → Ask (List ℕ)
read_path_of matching v work root path = then (lookup_of matching v work root path) (λ icb. file_bytes v icb)

-- ---- a lookup as the code reports it

abbrev pub icb_found : Outcome LongAd → LongAd
icb_found (answered icb) = icb
icb_found (refused r) = no_long

abbrev pub found_to : Outcome LongAd → ℕ → Found
found_to o n = record { answer = answer_of o; count = n; icb = icb_found o }

abbrev pub found_of : Ran LongAd → Found
found_of r = found_to r.outcome (reported r.count)

-- ---- the component that failed

-- empty, at 0, if none was refused by 3
abbrev pub lost_of : Outcome Sought → Component
lost_of (answered (reached icb)) = no_component
lost_of (answered (lost c)) = c
lost_of (refused r) = no_component

-- with the lookup's number and count
pub record Failed : Type 0 where
  pub answer : ℕ
  pub count : ℕ
  pub component : Component

abbrev pub failed_of : Ran Sought → Failed
failed_of r = record { answer = answer_of (and_then r.outcome icb_of); count = reported r.count; component = lost_of r.outcome }

-- the reply with the length of the component that failed
abbrev pub failed_reply : Failed → Reply
failed_reply f = record { answer = f.answer; count = f.count; length = length f.component.bytes }

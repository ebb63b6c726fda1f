-- Calls along a path: where it leads, what they meet on the way, and which entry they take.
use Rattle.std.specs.Prelude.{true, false, List, map, ◌≡◌, ℕ, ◌+◌, length, Option, Some, None}
use Rattle.disc.specs.Ask.{Outcome}
use Rattle.disc.specs.Ask.Outcome.{answered, refused}
use Rattle.disc.specs.Images.{disc}
use Rattle.disc.specs.Ran.{ran, Ran}
use Rattle.disc.specs.declared.refusals.Refusal.TheVariants.{NotBluray}
use Rattle.records.specs.declared.allocations.LongAd.{LongAd}
use Rattle.volumes.specs.declared.openings.VolumeRecord.{VolumeRecord}
use Rattle.listings.specs.Entries.{Entry, is_skipped, name_in}
use Rattle.listings.specs.Listings.{answers_to, fold_in, first_named}
use Rattle.listings.specs.Paths.{components, Component}
use Rattle.listings.specs.declared.matchings.Matching.{Matching}
use Rattle.listings.specs.declared.matchings.Matching.TheVariants.{Unambiguous}
use Rattle.directories.specs.Directories.{directory_bytes}
use Rattle.directories.specs.Leads.{ApartOn, Doubles, Leads, Takes, Overflows}
use Rattle.directories.specs.Lookups.{seeking}
use Rattle.vault.specs.Calls.{finds, reading}

-- in no directory along the path are two listed names the same, with ASCII case ignored
abbrev pub AllApart : List ℕ → VolumeRecord → List ℕ → List ℕ → Type 0
AllApart image v path work = ApartOn (disc image) v.mount (length work) (components path) v.root true

-- several entries of a directory along the path match the component that is sought there
abbrev pub SeveralOn : List ℕ → VolumeRecord → List ℕ → List ℕ → Type 0
SeveralOn image v path work = Doubles (disc image) v.mount (length work) (components path) v.root

-- components lead from the root to the directory at an ICB
abbrev pub LeadTo : List ℕ → VolumeRecord → Matching → List ℕ → List Component → LongAd → Type 0
LeadTo image v matching work cs i = Leads (disc image) matching v.mount (length work) cs v.root i

-- the directory at an ICB, read into the work space
abbrev pub directory_read : List ℕ → VolumeRecord → List ℕ → LongAd → Ran (List ℕ)
directory_read image v work i = ran (disc image) (directory_bytes v.mount (length work) i)

-- how many sectors the way to a directory takes, its own included
abbrev pub sectors_to : List ℕ → VolumeRecord → Matching → List ℕ → List Component → LongAd → ℕ
sectors_to image v matching work cs i = (ran (disc image) (seeking matching v.mount (length work) cs v.root true)).count + (directory_read image v work i).count

-- the same for the directory with several matches
abbrev pub sectors_of_several : (image : List ℕ) (v : VolumeRecord) (path work : List ℕ) → SeveralOn image v path work → ℕ
sectors_of_several image v path work o = sectors_to image v Unambiguous work o.before o.directory

-- the outcome of a lookup by its last entry: the ICB, 3 if there is no entry, or the refusal
abbrev pub icb_or3 : Outcome (Option Entry) → Outcome LongAd
icb_or3 (answered None) = refused NotBluray
icb_or3 (answered (Some e)) = answered e.identifier.icb
icb_or3 (refused why) = refused why

-- a lookup took an entry: the first of its directory that answers to the last component; it is listed, and its name is the component under the choice
-- of matching
pub record Taken (image : List ℕ) (v : VolumeRecord) (path : List ℕ) (matching : Matching) (work : List ℕ) (cs : List Component) (c : Component) : Type 0 where
  pub directory : LongAd
  pub led : LeadTo image v matching work cs directory
  pub taken : Entry
  pub takes : Takes (disc image) matching v.mount (length work) directory c.bytes taken
  pub first : first_named (fold_in matching) c.bytes takes.all ≡ Some taken
  pub icb : (finds image v path matching work).found.icb ≡ taken.identifier.icb
  pub answers : answers_to (fold_in matching) c.bytes taken ≡ true
  pub listed : is_skipped taken.identifier ≡ false
  pub named : map (fold_in matching) (name_in taken) ≡ map (fold_in matching) c.bytes

-- a directory along the path exceeds the work space
abbrev pub Exceeds : List ℕ → VolumeRecord → List ℕ → Matching → List ℕ → Type 0
Exceeds image v path matching work = Overflows (disc image) matching v.mount (length work) (components path) v.root

-- how many sectors are asked for up to that directory, all of its own included
abbrev pub sectors_of_excess : (image : List ℕ) (v : VolumeRecord) (path : List ℕ) (matching : Matching) (work : List ℕ) → Exceeds image v path matching work → ℕ
sectors_of_excess image v path matching work o =
    (ran (disc image) (seeking matching v.mount (length work) o.before v.root true)).count + (ran (disc image) (reading v o.directory)).count

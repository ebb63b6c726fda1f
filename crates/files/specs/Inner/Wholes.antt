-- What the parts of a call come to on an image: for the contracts of private functions.
use Rattle.std.specs.Prelude.{ℕ, ◌+◌, ◌*◌, ◌≤◌, min, ◌≡◌, Bool, List, length, take, drop, Result, Ok, Err}
use Rattle.disc.specs.Ask.{Ask}
use Rattle.disc.specs.Ask.Outcome.{answered, refused}
use Rattle.disc.specs.Ran.{Ran, ran}
use Rattle.disc.specs.Images.{disc}
use Rattle.disc.specs.declared.places.Mount.{Mount}
use Rattle.disc.specs.declared.refusals.Refusal.{Refusal}
use Rattle.records.specs.declared.allocations.LongAd.{LongAd}
use Rattle.areas.specs.Areas.{area_at}
use Rattle.entries.specs.FileEntries.{read_entry}
use Rattle.chains.specs.Chains.{most_continuations}
use Rattle.chains.specs.Inner.Walks.{left, hops_at}
use Rattle.chains.specs.declared.cursors.ChainCursor.{ChainCursor}
use Rattle.files.specs.Files.{Located, entry_at, entry_mount, embedded_bytes, file_at, file_hops}
use Rattle.files.specs.Files.File.{embedded, chained}
use Rattle.files.specs.Inner.Places.{place_at}
use Rattle.files.specs.declared.icbs.FilePlace.{FilePlace}
use Rattle.entries.specs.declared.file_entries.FileEntry.{FileEntry}
use Rattle.disc.specs.declared.refusals.CountedRefusal.{CountedRefusal}
use Rattle.files.specs.declared.resolves.Resolved.TheVariants.{Embedded, Chained}
use Rattle.files.specs.declared.resolves.Resolved.{Resolved}

-- the entry in the sector that starts at `from`
abbrev pub read_by : ℕ → Result FileEntry Refusal → Result FilePlace CountedRefusal
read_by from (Err r) = Err (record { why = r; count = 1 })
read_by from (Ok e) = Ok (place_at from e)

unfoldable pub place_in : Bool → List ℕ → ℕ → Result FilePlace CountedRefusal
place_in check s from = read_by from (read_entry check s)

-- the bytes embedded in the entry
abbrev pub embedded_in : List ℕ → FilePlace → List ℕ
embedded_in image p = take (min p.size p.information) (drop p.at image)

abbrev pub embedded_run : List ℕ → FilePlace → Ran (List ℕ)
embedded_run image p = record { outcome = answered (embedded_in image p); count = 1 }

-- the cursor at the front of the chain
abbrev pub front_of : FilePlace → ChainCursor
front_of p = record { at = p.at; left = p.size; hops = most_continuations }

-- the entry that a tree found, and where its sector's contents are in the image
pub record FoundPlace (image : List ℕ) (t : Ask Located) (p : FilePlace) : Type 0 where
  pub entry : Located
  pub runs : ran (disc image) t ≡ record { outcome = answered entry; count = 1 }
  pub is : p ≡ place_at (2048 * entry.at) entry.entry
  pub bytes : embedded_bytes entry ≡ embedded_in image p
  pub area : area_at p.kind entry.sector entry.entry.area_at p.size ≡ area_at p.kind image p.at p.size
  pub inside : p.at + p.size ≤ length image
  pub small : p.size ≤ 2048

abbrev pub Finds : List ℕ → Ask Located → Result FilePlace CountedRefusal → Type 0
Finds image t (Ok p) = FoundPlace image t p
Finds image t (Err e) = ran (disc image) t ≡ record { outcome = refused e.why; count = e.count }

abbrev pub Locates : List ℕ → Mount → LongAd → Result FilePlace CountedRefusal → Type 0
Locates image m icb r = Finds image (entry_at m icb) r

-- a file whose entry and chain were read, the chain with the mount of the entry
pub record EmbeddedFile (image : List ℕ) (m : Mount) (icb : LongAd) (p : FilePlace) : Type 0 where
  pub entry : Located
  pub runs : ran (disc image) (file_at m icb) ≡ record { outcome = answered (embedded entry); count = 1 }
  pub is : p ≡ place_at (2048 * entry.at) entry.entry
  pub bytes : embedded_bytes entry ≡ embedded_in image p
  pub inside : p.at + p.size ≤ length image
  pub hops : (ran (disc image) (file_hops m icb)).outcome ≡ answered 0

pub record ChainedFile (image : List ℕ) (m : Mount) (icb : LongAd) (p : FilePlace) (n : ℕ) : Type 0 where
  pub entry : Located
  pub runs : ran (disc image) (file_at m icb) ≡ record { outcome = answered (chained entry (left image (entry_mount m icb) p.kind (front_of p))); count = n }
  pub is : p ≡ place_at (2048 * entry.at) entry.entry
  pub small : p.size ≤ 2048
  pub few : n ≤ 16385
  pub hops : (ran (disc image) (file_hops m icb)).outcome ≡ answered (hops_at image (entry_mount m icb) p.kind (front_of p))

pub record NoFile (image : List ℕ) (m : Mount) (icb : LongAd) (r : Refusal) (n : ℕ) : Type 0 where
  pub runs : ran (disc image) (file_at m icb) ≡ record { outcome = refused r; count = n }
  pub few : n ≤ 16385

abbrev pub Resolves : List ℕ → Mount → LongAd → Result Resolved CountedRefusal → Type 0
Resolves image m icb (Ok (Embedded p)) = EmbeddedFile image m icb p
Resolves image m icb (Ok (Chained p n)) = ChainedFile image m icb p n
Resolves image m icb (Err e) = NoFile image m icb e.why e.count

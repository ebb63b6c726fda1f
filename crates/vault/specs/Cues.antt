-- Two cues whose names differ only in case, in a listing.
use Rattle.std.specs.Prelude.{List, ◌∷◌, ◌++◌, [], ◌⊎◌, ◌≡◌, ℕ, ◌≤◌, drop, take, length}
use Rattle.disc.specs.Counts.{reported}
use Rattle.records.specs.Allocations.{long_of}
use Rattle.records.specs.Bytes.{u16at}
use Rattle.records.specs.declared.allocations.LongAd.{LongAd}
use Rattle.names.specs.Names.{lower}
use Rattle.volumes.specs.declared.openings.VolumeRecord.{VolumeRecord}
use Rattle.listings.specs.Entries.{Entry, name_in}
use Rattle.listings.specs.Listings.{records, entry_record}
use Rattle.listings.specs.Matchings.{NoneAnswers}
use Rattle.listings.specs.Paths.{components, Component}
use Rattle.listings.specs.declared.matchings.Matching.TheVariants.{CaseIgnored}
use Rattle.vault.specs.Calls.{listing, lists, reads, finds}
use Rattle.vault.specs.Paths.{directory_read, sectors_to, LeadTo}

-- the ICB in the record of a listing that starts at `at`
abbrev pub icb_at : List ℕ → ℕ → LongAd
icb_at listing at = long_of (drop at listing) 3

-- the length of the name in that record, and the name, which follows the record's head
abbrev pub size_at : List ℕ → ℕ → ℕ
size_at listing at = u16at (drop at listing) 19

abbrev pub name_at : List ℕ → ℕ → List ℕ
name_at listing at = take (size_at listing at) (drop 21 (drop at listing))

-- where an entry's record starts, after those of the entries before it
abbrev pub place_behind : List Entry → ℕ
place_behind before = length (records before)

-- a listing with room for the records of the directory at icb, whose entries are `before`, e and `rest`: the record of e follows those before it, a
-- read by its ICB is a read by the ICB of e, and its name, of at most 508 bytes, is that of e
pub record CueListed (image : List ℕ) (v : VolumeRecord) (icb : LongAd) (out work : List ℕ) (before : List Entry) (e : Entry) (rest : List Entry) : Type 0 where
  pub says : (lists image v icb out work).reply ≡ record { answer = 0; count = reported (directory_read image v work icb).count; length = length (records (before ++ e ∷ rest)) }
  pub listing : (lists image v icb out work).out ≡ records before ++ entry_record e ++ records rest ++ drop (length (records (before ++ e ∷ rest))) out
  pub its : icb_at (lists image v icb out work).out (place_behind before) ≡ e.identifier.icb
  pub reading : (into : List ℕ) → reads image v (icb_at (lists image v icb out work).out (place_behind before)) into ≡ reads image v e.identifier.icb into
  pub brief : length (name_in e) ≤ 508
  pub size : size_at (lists image v icb out work).out (place_behind before) ≡ length (name_in e)
  pub name : name_at (lists image v icb out work).out (place_behind before) ≡ name_in e

-- e, and f after it: the listing has both and, with case ignored, a path whose last component in this directory is the name of either takes e, if
-- nothing before e answers to it
pub record Cues (image : List ℕ) (v : VolumeRecord) (icb : LongAd) (out work : List ℕ) (before : List Entry) (e : Entry) (between : List Entry) (f : Entry) (rest : List Entry) : Type 0 where
  pub first : CueListed image v icb out work before e (between ++ f ∷ rest)
  pub other : CueListed image v icb out work (before ++ e ∷ between) f rest
  pub either : (path : List ℕ) (cs : List Component) (c : Component) → components path ≡ cs ++ c ∷ [] → LeadTo image v CaseIgnored work cs icb
      → (c.bytes ≡ name_in e) ⊎ (c.bytes ≡ name_in f) → NoneAnswers lower c.bytes before
      → (finds image v path CaseIgnored work).found ≡ record { answer = 0; count = reported (sectors_to image v CaseIgnored work cs icb); icb = e.identifier.icb }

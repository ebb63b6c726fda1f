-- Where the entry named by an ICB is in the image: what `locate` reports.
use Rattle.std.specs.Prelude.{ℕ, ◌+◌, ◌*◌, Bool, List, Result, Ok, Err}
use Rattle.disc.specs.Ask.{Ask, Outcome}
use Rattle.disc.specs.Ask.Outcome.{answered, refused}
use Rattle.disc.specs.Ran.{ran}
use Rattle.disc.specs.Images.{disc}
use Rattle.disc.specs.declared.places.Mount.{Mount}
use Rattle.records.specs.declared.allocations.LongAd.{LongAd}
use Rattle.entries.specs.declared.file_entries.FileEntry.{FileEntry}
use Rattle.files.specs.Files.{Located, entry_in, entry_at}
use Rattle.files.specs.declared.icbs.FilePlace.{FilePlace}
use Rattle.disc.specs.declared.refusals.CountedRefusal.{CountedRefusal}

-- the place of an entry whose sector starts at `from`: its area, or the file itself, counted from the image's start
abbrev pub place_at : ℕ → FileEntry → FilePlace
place_at from e = record { kind = e.kind; information = e.information_length; at = from + e.area_at; size = e.area_length }

abbrev pub place_by : Outcome Located → ℕ → Result FilePlace CountedRefusal
place_by (answered x) n = Ok (place_at (2048 * x.at) x.entry)
place_by (refused why) n = Err (record { why = why; count = n })

-- where a tree finds an entry on an image
unfoldable pub place_on : List ℕ → Ask Located → Result FilePlace CountedRefusal
place_on image t = place_by (ran (disc image) t).outcome (ran (disc image) t).count

-- the entry in a sector, and the entry that an ICB names
abbrev pub place_from : List ℕ → Bool → ℕ → Result FilePlace CountedRefusal
place_from image check at = place_on image (entry_in check at)

abbrev pub place_of : List ℕ → Mount → LongAd → Result FilePlace CountedRefusal
place_of image m icb = place_on image (entry_at m icb)

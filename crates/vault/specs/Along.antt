-- The four calls along a path.
use Rattle.std.specs.Prelude.{List, ◌≡◌, ℕ}
use Rattle.records.specs.declared.allocations.LongAd.{LongAd}
use Rattle.volumes.specs.declared.openings.VolumeRecord.{VolumeRecord}
use Rattle.listings.specs.declared.matchings.Matching.{Matching}
use Rattle.directories.specs.Lookups.{Sought}
use Rattle.vault.specs.Calls.{LostPlace, Worked, Lost, Looked}
use Rattle.vault.specs.Public.{Call, leaves}
use Rattle.vault.specs.Public.Call.{finds, fails_at, reads_path, fails}

-- the calls: lookup, failed, failed_at and read_path, the last with its output
pub data Walker : Type 0 → Type 0 → Type 1 where
  finder : Walker LongAd Looked
  failer : Walker Sought Lost
  placer : Walker Sought LostPlace
  reader : List ℕ → Walker (List ℕ) Worked

-- each of them at a path
abbrev pub along : {A R : Type 0} → Walker A R → VolumeRecord → List ℕ → Matching → List ℕ → Call A R
along finder v path matching work = finds v path matching work
along failer v path matching work = fails v path matching work
along placer v path matching work = fails_at v path matching work
along (reader out) v path matching work = reads_path v path matching out work

-- two choices of matching leave the same, whichever of the calls is made
pub record Same (image : List ℕ) (v : VolumeRecord) (path : List ℕ) (matching matching' : Matching) (work : List ℕ) : Type 1 where
  pub calls : {A R : Type 0} (w : Walker A R) → leaves (along w v path matching work) image ≡ leaves (along w v path matching' work) image

-- Each contract is its call's `leaves`. Assumes nothing.
use mathlib.Core.Path.{◌≡◌, refl}
use mathlib.Core.List.{List}
use Prim.Native.Nat.{ℕ}
use Rattle.disc.specs.Ask.{Outcome, outcome, asked, ended}
use Rattle.disc.specs.Ask.Outcome.{answered, refused}
use Rattle.disc.specs.Images.{disc}
use Rattle.disc.specs.Places.{is_checked}
use Rattle.disc.specs.Ran.{ran, told}
use Rattle.listings.specs.Listings.{listing as listing_in}
use Rattle.records.specs.declared.allocations.LongAd.{LongAd}
use Rattle.areas.specs.declared.AllocExtent.{AllocExtent}
use Rattle.listings.specs.declared.matchings.Matching.{Matching}
use Rattle.volumes.specs.declared.openings.How.{How}
use Rattle.volumes.specs.declared.openings.VolumeRecord.{VolumeRecord}
use Rattle.vault.specs.Calls as left
use Rattle.vault.specs.Public.{leaves}
use Rattle.vault.specs.Public.Call.{opens, labels, reads, measures, parts, parts_at, extents, runs, lists, shows, finds, fails, fails_at, reads_path, lists_bytes}

module _ (image : List ℕ) (how : How) (v : VolumeRecord) (icb : LongAd) (path : List ℕ) (matching : Matching) (levels most : ℕ) (out work : List ℕ) where
  pub contracts : (left.opens image how ≡ leaves (opens how) image)
      × (left.labels image how out ≡ leaves (labels how out) image)
      × (left.reads image v icb out ≡ leaves (reads v icb out) image)
      × (left.measures image v icb ≡ leaves (measures v icb) image)
      × (left.parts image v icb ≡ leaves (parts v icb) image)
      × (left.parts_at image v icb ≡ leaves (parts_at v icb) image)
      × (left.lists image v icb out work ≡ leaves (lists v icb out work) image)
      × (left.shows image v levels most out work ≡ leaves (shows v levels most out work) image)
      × (left.finds image v path matching work ≡ leaves (finds v path matching work) image)
      × (left.fails image v path matching work ≡ leaves (fails v path matching work) image)
      × (left.fails_at image v path matching work ≡ leaves (fails_at v path matching work) image)
      × (left.reads_path image v path matching out work ≡ leaves (reads_path v path matching out work) image)
  contracts = (refl, refl, refl, refl, refl, refl, refl, refl, refl, refl, refl, refl)

  pub rows : {B : Type 0} (f : AllocExtent → B) (row : List B) (pairs : List (List ℕ)) → (left.extents f image v icb row ≡ leaves (extents f v icb row) image) × (left.runs image v icb pairs ≡ leaves (runs v icb pairs) image)
  rows f row pairs = (refl, refl)

  -- of a directory's bytes at hand, on every image: no sector is asked for
  pub at-hand : (bytes : List ℕ) → left.lists_bytes v bytes out ≡ leaves (lists_bytes v bytes out) image
  unfolding ran outcome asked
  at-hand bytes = by (listing_in (is_checked v.mount) bytes)
    where
      by : (o : Outcome (List ℕ)) → left.written out (told o) ≡ left.written out (ran (disc image) (ended o))
      by (answered b) = refl
      by (refused why) = refl

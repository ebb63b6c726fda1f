-- The table of RULES 1.1, of 6 in the calls that take a path: it is given exactly when components of the path lead to a directory in which the next
-- one is to be found, and the directory reads, without another refusal, as more bytes than the work space has. Those before it fit, for they were
-- walked. Assumes nothing.
use mathlib.Core.Path.{◌≡◌, refl}
use mathlib.Core.List.{List}
use mathlib.Core.Logic.{inl}
use Prim.Native.Nat.{ℕ}
use native.Mathlib.Omega.{arith}
use lib.ListN.{length}
use Rattle.disc.specs.Counts.{reported}
use Rattle.disc.specs.Ask.Outcome.{refused}
use Rattle.disc.specs.Images.{disc}
use Rattle.disc.specs.Ran.{ran}
use Rattle.disc.specs.declared.refusals.Refusal.TheVariants.{NoWork}
use Rattle.records.specs.declared.allocations.LongAd.{LongAd}
use Rattle.listings.specs.Paths.{components}
use Rattle.directories.specs.Lookups.{seek_path}
use Rattle.directories.proofs.OverflowLaws.{overflows-refused, refused-overflows}
use Rattle.listings.specs.declared.matchings.Matching.{Matching}
use Rattle.volumes.specs.declared.openings.VolumeRecord.{VolumeRecord}
use Rattle.vault.specs.Calls.{reading}
use Rattle.vault.specs.Public.{way, leaves, answer_on}
use Rattle.vault.specs.Public.Call.{measures}
use Rattle.vault.proofs.Promises.{order, listed}
use Rattle.vault.proofs.Along.{walk_refused, refused-walk}
use Rattle.vault.specs.Along.{Walker, along}
use Rattle.vault.specs.Paths.{Exceeds, sectors_of_excess}

-- a read that needs no work space isn't refused so
never-six : (image : List ℕ) (v : VolumeRecord) (icb : LongAd) → (ran (disc image) (reading v icb)).outcome ≡ refused NoWork → ⊥
unfolding ran
never-six image v icb h =
    let z = rw (order (measures v icb) image, h) at (listed (measures v icb) image) in
    let y : ◌≡◌ {A = ℕ} 0 1 = cc in
    omega arith

module _ (image : List ℕ) (v : VolumeRecord) (path : List ℕ) (matching : Matching) (work : List ℕ) where
  -- ---- 6 only then
  pub along-6 : {A R : Type 0} (w : Walker A R) → answer_on (along w v path matching work) image ≡ 6 → Exceeds image v path matching work
  unfolding seek_path
  along-6 w e = refused-overflows (disc image) matching v.mount (length work) (never-six image v) (components path) v.root (refused-walk image v path matching work NoWork (inl refl) w e)

  -- ---- and always then, after the sectors of the way to the directory and of its read; all else is as a refusal has it
  module _ (o : Exceeds image v path matching work) where
    pub exceeds-along : {A R : Type 0} (w : Walker A R) → leaves (along w v path matching work) image ≡ (way (along w v path matching work)).bare 6 (reported (sectors_of_excess image v path matching work o))
    unfolding seek_path
    exceeds-along w = walk_refused image v path matching work NoWork (sectors_of_excess image v path matching work o) (overflows-refused (disc image) matching v.mount (length work) (components path) v.root o) w

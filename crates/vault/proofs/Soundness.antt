-- RULES 10.5: work space comes back all zero; a contract allows one result; and the calls for a place say what the calls for the part itself do.
-- That every answer is of the table, and a refusal has zeros and changes no output byte: Promises. Assumes nothing.
use mathlib.Core.Path.{◌≡◌, refl, ap, sym, ◌∙◌}
use mathlib.Core.List.{List, []}
use Prim.Native.Nat.{ℕ}
use lib.ListN.{length, replicate}
use Rattle.disc.specs.Ask.{Outcome, and_then}
use Rattle.disc.specs.Ask.Outcome.{answered, refused}
use Rattle.disc.specs.Images.{disc}
use Rattle.disc.specs.Ran.{ran}
use Rattle.disc.specs.Replies.{answer_of}
use Rattle.records.specs.declared.allocations.LongAd.{LongAd}
use Rattle.listings.specs.declared.matchings.Matching.{Matching}
use Rattle.volumes.specs.declared.openings.VolumeRecord.{VolumeRecord}
use Rattle.listings.specs.Paths.{Component, no_component}
use Rattle.directories.specs.Lookups.{Sought, icb_of, lost_of}
use Rattle.layouts.proofs.PartLaws.{part-stands, place_none}
use Rattle.directories.specs.Lookups.Sought.{reached, lost}
use Rattle.directories.proofs.PlaceLaws.{failed-stands}
use Rattle.directories.proofs.LookupLaws.{look_is}
use Rattle.vault.specs.Calls.{seeking, lists, shows, reads_path, finds, fails, parts, fails_at, parts_at}
use Rattle.disc.specs.Parts.{PartAt}

-- ---- a contract is an equation of what the call leaves with a function of what it was lent: two results that meet it are equal

pub one : {R : Type 0} {said left left' : R} → left ≡ said → left' ≡ said → left ≡ left'
one p q = p ∙ sym q

module _ (image : List ℕ) (v : VolumeRecord) (icb : LongAd) (path : List ℕ) (matching : Matching) (out work : List ℕ) where
  -- work space comes back all zero, as long as it was, from each call that takes one
  pub clears : ((lists image v icb out work).work ≡ replicate (length work) 0)
      × ((reads_path image v path matching out work).work ≡ replicate (length work) 0)
      × ((finds image v path matching work).work ≡ replicate (length work) 0)
      × ((fails image v path matching work).work ≡ replicate (length work) 0)
      × ((fails_at image v path matching work).work ≡ replicate (length work) 0)
  clears = (refl, refl, refl, refl, refl)

  pub show-clears : (levels most : ℕ) → (shows image v levels most out work).work ≡ replicate (length work) 0
  show-clears levels most = refl

-- the call for the part's place has the part's number, count and length; the part stands there; a refusal has zeros
pub part-at-sound : (image : List ℕ) (v : VolumeRecord) (icb : LongAd)
    → ((parts_at image v icb).reply ≡ record { answer = (parts image v icb).answer; count = (parts image v icb).count; length = length (parts image v icb).part })
    × PartAt image (parts image v icb).part (parts_at image v icb).at
    × (((parts_at image v icb).reply.answer ≡ 0 → ⊥) → (parts_at image v icb).at ≡ 0)
part-at-sound image v icb = (refl, part-stands image v.mount icb, λ h. place_none image v.mount icb h)

-- the call for the component that failed has the lookup's number and count, and an empty part at 0 if the number is not 3
lost-three : (o : Outcome Sought) → (answer_of (and_then o icb_of) ≡ 3 → ⊥) → lost_of o ≡ no_component
lost-three (answered (reached icb)) h = refl
lost-three (answered (lost c)) h = absurd (h refl)
lost-three (refused r) h = refl

pub failed-sound : (image : List ℕ) (v : VolumeRecord) (path : List ℕ) (matching : Matching) (work : List ℕ)
    → ((fails image v path matching work).answer ≡ (finds image v path matching work).found.answer)
    × ((fails image v path matching work).count ≡ (finds image v path matching work).found.count)
    × (((fails image v path matching work).answer ≡ 3 → ⊥) → (fails image v path matching work).component ≡ [])
failed-sound image v path matching work =
    let l = look_is (disc image) matching v.mount (length work) v.root path in (
      rw l,
      rw l,
      λ h. ap (λ (c : Component). c.bytes) (lost-three (ran (disc image) (seeking v (length work) path matching)).outcome h),
    )

-- and so has the call for its place, with the component's length; the component stands there; zeros if the number is not 3
pub failed-at-sound : (image : List ℕ) (v : VolumeRecord) (path : List ℕ) (matching : Matching) (work : List ℕ)
    → ((fails_at image v path matching work).reply ≡ record { answer = (fails image v path matching work).answer; count = (fails image v path matching work).count; length = length (fails image v path matching work).component })
    × PartAt path (fails image v path matching work).component (fails_at image v path matching work).at
    × (((fails_at image v path matching work).reply.answer ≡ 3 → ⊥) → (fails_at image v path matching work).at ≡ 0)
failed-at-sound image v path matching work = (
  refl,
  failed-stands (disc image) matching v.mount (length work) v.root path,
  λ h. ap (λ (c : Component). c.at) (lost-three (ran (disc image) (seeking v (length work) path matching)).outcome h),
)

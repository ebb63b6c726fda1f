-- Laws of a step of a read that is fed. Assumes nothing.
use mathlib.Core.Path.{◌≡◌, refl, ◌∙◌}
use mathlib.Core.Bool.{Bool, true, false}
use mathlib.Core.List.{List}
use Prim.Native.Nat.{ℕ, ◌+◌, ◌*◌, ◌<◌, ◌≤◌}
use native.Mathlib.Omega.{arith}
use lib.Dec.{ltb, leb}
use borrow.Author.Tests.{lt-ltb, le-ltb, eq-eqb, ne_eqb, ltb-true, leb-true}
use Rattle.disc.specs.Choice.{pick}
use Rattle.disc.specs.Places.{is_checked}
use Rattle.disc.proofs.PickLaws.{not-both}
use Rattle.areas.specs.Areas.{size_of}
use Rattle.entries.specs.FileEntries.{read_entry}
use Rattle.drives.specs.Openings.{most_sectors}
use Rattle.drives.specs.Readings.{is_sound, is_wanting, wanted_sector}
use Rattle.drives.specs.Inner.Bodies.{head_behind, part_behind, Lands}
use Rattle.drives.specs.Inner.Arrivals.{entry_behind, extent_behind, wanted_behind, Arrives}
use Rattle.drives.specs.declared.readings.Reading.{Reading}
use Rattle.drives.proofs.ArrivalLaws.{lands-arrives}

-- ---- whether a sector is wanted

module _ (r : Reading) where
  pub sound-header : r.phase ≡ 1 → leb r.size (2048 * (r.left + 1)) ≡ is_sound r
  sound-header z = rw z

  pub sound-other : (r.phase ≡ 1 → ⊥) → (r.phase ≡ 2 → ⊥) → true ≡ is_sound r
  sound-other y z = rw (ne_eqb r.phase 1 y, ne_eqb r.phase 2 z)

  module _ (z : r.phase ≡ 2) {n : ℕ} (e : n ≡ size_of r.kind) where
    pub sound-whole : n ≤ r.scan.carried → false ≡ is_sound r
    sound-whole h = let k : size_of r.kind ≤ r.scan.carried = rw e at h in rw (z, le-ltb r.scan.carried (size_of r.kind) k)

    pub sound-body : r.scan.carried < n → leb r.body.area_left (2048 * (r.left + 1)) ≡ is_sound r
    sound-body h = let k : r.scan.carried < size_of r.kind = rw e at h in rw (z, lt-ltb r.scan.carried (size_of r.kind) k)

  pub want-over : 4 ≤ r.phase → false ≡ is_wanting r
  want-over h = rw (le-ltb r.phase 4 h)

  pub want-past : most_sectors ≤ r.at + r.left → false ≡ is_wanting r
  want-past h = by (ltb r.phase 4)
    where
      by : (b : Bool) → false ≡ pick b (pick (ltb (r.at + r.left) most_sectors) (is_sound r) false) false
      by true = rw (le-ltb (r.at + r.left) most_sectors h)
      by false = refl

  pub want-far : most_sectors ≤ r.at → false ≡ is_wanting r
  want-far h = want-past (omega arith)

  pub want-sound : {w : Bool} → r.phase < 4 → r.at + r.left < most_sectors → w ≡ is_sound r → w ≡ is_wanting r
  want-sound h k e = rw (lt-ltb r.phase 4 h, lt-ltb (r.at + r.left) most_sectors k) e

  module _ (w : is_wanting r ≡ true) where
    parts : (r.at + r.left < most_sectors) × (is_sound r ≡ true)
    parts = by (ltb r.phase 4) (ltb (r.at + r.left) most_sectors) refl w
      where
        by : (a b : Bool) → ltb (r.at + r.left) most_sectors ≡ b → pick a (pick b (is_sound r) false) false ≡ true → (r.at + r.left < most_sectors) × (is_sound r ≡ true)
        by true true q e = (ltb-true (r.at + r.left) most_sectors q, e)
        by true false q e = not-both e
        by false b q e = not-both e

    pub want-low : r.at + r.left < most_sectors
    want-low = parts.0

    pub want-header : r.phase ≡ 1 → r.size ≤ 2048 * (r.left + 1)
    want-header z = leb-true r.size (2048 * (r.left + 1)) (sound-header z ∙ parts.1)

    module _ (z : r.phase ≡ 2) where
      inside : (r.scan.carried < size_of r.kind) × (r.body.area_left ≤ 2048 * (r.left + 1))
      inside = by (ltb r.scan.carried (size_of r.kind)) refl (rw z at parts.1)
        where
          by : (b : Bool) → ltb r.scan.carried (size_of r.kind) ≡ b → pick b (leb r.body.area_left (2048 * (r.left + 1))) false ≡ true
              → (r.scan.carried < size_of r.kind) × (r.body.area_left ≤ 2048 * (r.left + 1))
          by true q e = (ltb-true r.scan.carried (size_of r.kind) q, leb-true r.body.area_left (2048 * (r.left + 1)) e)
          by false q e = not-both e

      pub want-carried : r.scan.carried < size_of r.kind
      want-carried = inside.0

      pub want-area : r.body.area_left ≤ 2048 * (r.left + 1)
      want-area = inside.1

module _ (r : Reading) {w : Bool} (e : w ≡ is_wanting r) where
  pub wants-none : w ≡ false → 0 ≡ wanted_sector r
  wants-none h = rw (← e, h)

  pub wants-at : w ≡ true → r.at ≡ wanted_sector r
  wants-at h = rw (← e, h)

-- ---- by what was wanted

module _ (r : Reading) (row : List (List ℕ)) (sector out : List ℕ) (row' : List (List ℕ)) (x : Reading) where
  pub taken-entry : (out' : List ℕ) → r.phase ≡ 0 → Arrives (entry_behind r (read_entry (is_checked r.mount) sector) sector) r out row row' x out' → Arrives (wanted_behind r row sector) r out row row' x out'
  unfolding wanted_behind
  taken-entry out' z p = rw (eq-eqb r.phase 0 z) p

  pub taken-header : r.phase ≡ 1 → Lands row (head_behind r row sector) r row' x → Arrives (wanted_behind r row sector) r out row row' x out
  unfolding wanted_behind
  taken-header z p = rw (ne_eqb r.phase 0 (λ y. omega arith), eq-eqb r.phase 1 z) (lands-arrives row (head_behind r row sector) r row' x out p)

  pub taken-part : r.phase ≡ 2 → Lands row (part_behind r row sector) r row' x → Arrives (wanted_behind r row sector) r out row row' x out
  unfolding wanted_behind
  taken-part z p = rw (ne_eqb r.phase 0 (λ y. omega arith), ne_eqb r.phase 1 (λ y. omega arith), eq-eqb r.phase 2 z) (lands-arrives row (part_behind r row sector) r row' x out p)

pub taken-extent : (r : Reading) (row : List (List ℕ)) (sector out : List ℕ) (x : Reading) (out' : List ℕ) → (r.phase ≡ 0 → ⊥) → (r.phase ≡ 1 → ⊥) → (r.phase ≡ 2 → ⊥)
    → Arrives (extent_behind r row sector) r out row row x out' → Arrives (wanted_behind r row sector) r out row row x out'
unfolding wanted_behind
taken-extent r row sector out x out' a b c p = rw (ne_eqb r.phase 0 a, ne_eqb r.phase 1 b, ne_eqb r.phase 2 c) p

-- What the contracts of the states leave: what two results stand for, what they say and what was written are one, but not every field is.
-- Assumes nothing.
use mathlib.Core.Path.{◌≡◌, refl, ap, sym, ◌∙◌}
use mathlib.Core.Bool.{Bool, true, false}
use mathlib.Core.List.{List}
use Prim.Native.Nat.{ℕ}
use native.Mathlib.Omega.{arith}
use Rattle.disc.specs.Ask.{Ask}
use Rattle.volumes.specs.Sequences.{nothing}
use Rattle.volumes.specs.Openings.{usual, opening}
use Rattle.volumes.specs.declared.openings.VolumeRecord.{VolumeRecord}
use Rattle.drives.specs.Feeds.{Feed}
use Rattle.drives.specs.Openings.{is_wanting as is_opening_wanting, tree_of, OpeningStands, Fed as FedOnOpening}
use Rattle.drives.specs.Readings.{is_wanting, left_of, Fed, Starts}
use Rattle.drives.specs.declared.openings.Opening.{Opening}
use Rattle.drives.specs.declared.readings.Reading.{Reading}
use Rattle.drives.proofs.OpeningLaws.{place}

-- ---- the opening

pub stands_alike : {t : Ask VolumeRecord} {n : ℕ} {r r' : Opening} → OpeningStands t n r → OpeningStands t n r' → (tree_of r ≡ tree_of r') × (r.opened ≡ r'.opened)
stands_alike p q = (p.tree ∙ sym q.tree, p.says ∙ sym q.says)

pub opening-alike : (o : Opening) (sector : List ℕ) {r r' : Opening} → FedOnOpening o sector r → FedOnOpening o sector r'
    → (tree_of r ≡ tree_of r') × (r.opened ≡ r'.opened)
opening-alike o sector {r} {r'} p q = by (is_opening_wanting o) refl
  where
    by : (b : Bool) → is_opening_wanting o ≡ b → (tree_of r ≡ tree_of r') × (r.opened ≡ r'.opened)
    by true e = stands_alike (p.takes e) (q.takes e)
    by false e =
        let same : r ≡ r' = p.stays e ∙ sym (q.stays e) in
        (ap tree_of same, ap (λ (x : Opening). x.opened) same)

-- the anchor is in sector 256, whatever is in `at`
pub two-starts : (OpeningStands (opening usual) 0 (place 0 0 0 nothing 0)) × (OpeningStands (opening usual) 0 (place 0 1 0 nothing 0)) × (place 0 0 0 nothing 0 ≡ place 0 1 0 nothing 0 → ⊥)
unfolding tree_of opening
two-starts = (
  record { tree = refl; says = refl },
  record { tree = refl; says = refl },
  λ e. let z : ◌≡◌ {A = ℕ} 0 1 = ap (λ (x : Opening). x.at) e in omega arith,
)

-- ---- the read

pub starts-alike : {f : Feed} {row after after' : List (List ℕ)} {r r' : Reading} → Starts f row after r → Starts f row after' r'
    → (after ≡ after') × (left_of r after ≡ left_of r' after') × (r.answer ≡ r'.answer) × (r.count ≡ r'.count) × (r.length ≡ r'.length)
starts-alike p q = (
  p.zeros ∙ sym q.zeros,
  p.left ∙ sym q.left,
  p.answer ∙ sym q.answer,
  p.count ∙ sym q.count,
  p.filled ∙ sym q.filled,
)

module _ (r : Reading) (sector : List ℕ) (row : List (List ℕ)) (out : List ℕ) {x y : Reading} {row₁ row₂ : List (List ℕ)} {out₁ out₂ : List ℕ} where
  pub reading-alike : Fed r sector row out x row₁ out₁ → Fed r sector row out y row₂ out₂
      → (out₁ ≡ out₂) × (left_of x row₁ ≡ left_of y row₂) × (x.answer ≡ y.answer) × (x.count ≡ y.count) × (x.length ≡ y.length)
  reading-alike p q = by (is_wanting r) refl
    where
      by : (b : Bool) → is_wanting r ≡ b
          → (out₁ ≡ out₂) × (left_of x row₁ ≡ left_of y row₂) × (x.answer ≡ y.answer) × (x.count ≡ y.count) × (x.length ≡ y.length)
      by true e =
          let g = p.takes e in
          let h = q.takes e in (
            g.output ∙ sym h.output,
            g.left ∙ sym h.left,
            g.answer ∙ sym h.answer,
            g.count ∙ sym h.count,
            g.filled ∙ sym h.filled,
          )
      by false e =
          let g = p.stays e in
          let h = q.stays e in
          let same : x ≡ y = g.state ∙ sym h.state in
          let rows : row₁ ≡ row₂ = g.kept ∙ sym h.kept in
          (g.output ∙ sym h.output, rw (same, rows), ap (λ (z : Reading). z.answer) same, ap (λ (z : Reading). z.count) same, ap (λ (z : Reading). z.length) same)

  -- and once it has ended, the row
  pub ended-alike : is_wanting r ≡ true → is_wanting x ≡ false → is_wanting y ≡ false → Fed r sector row out x row₁ out₁ → Fed r sector row out y row₂ out₂
      → row₁ ≡ row₂
  ended-alike w u v p q = p.ends w u ∙ sym (q.ends w v)

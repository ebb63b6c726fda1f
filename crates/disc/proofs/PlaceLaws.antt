-- Where a block stands, by what the methods of `Mount` say of it. Assumes nothing.
use Rattle.std.specs.Prelude.{Option, Some, None}
use mathlib.Core.Path.{◌≡◌, refl, ap, sym, ◌∙◌}
use mathlib.Core.Bool.{Bool, true, false}
use Prim.Native.Nat.{ℕ, ◌+◌, ◌≤◌, ◌<◌, ◌^◌}
use native.Mathlib.Omega.{arith}
use lib.ListN.{get_or}
use borrow.Author.Tests.{eq-eqb, ne_eqb, lt-ltb, le-ltb}
use Rattle.disc.specs.Places.{sector_of, is_mapped, map_count, mapped_start, start_for, icb_start, crossing, placed, icb_placed, started_at, at_entry, is_checked, unchecked, placed_by, StandsIn, BlockStands}
use Rattle.disc.specs.declared.places.Mount.{Mount}
use Rattle.disc.specs.declared.places.Sector.{Sector}

-- ---- the start of the partition that a reference names

module _ (m : Mount) (p : ℕ) where
  pub map-over : m.maps ≤ p → None ≡ mapped_start m p
  unfolding mapped_start
  map-over h = rw (le-ltb p (map_count m) (omega arith))

  pub map-past : 4 ≤ p → None ≡ mapped_start m p
  unfolding mapped_start
  map-past h = rw (le-ltb p (map_count m) (omega arith))

  pub map-in : p < m.maps → p < 4 → {x : ℕ} → x ≡ get_or m.starts p 0 → Some x ≡ mapped_start m p
  unfolding mapped_start
  map-in h k e = rw (lt-ltb p (map_count m) (omega arith), e)

  module _ {b : Bool} (e : b ≡ is_mapped m) where
    pub start-mapped : b ≡ true → {o : Option ℕ} → o ≡ mapped_start m p → o ≡ start_for m p
    unfolding start_for
    start-mapped h k = rw (← e, h) k

    pub start-foreign : b ≡ false → (p ≡ m.partition → ⊥) → None ≡ start_for m p
    unfolding start_for
    start-foreign h k = rw (← e, h, ne_eqb p m.partition k)

    pub start-own : b ≡ false → p ≡ m.partition → Some m.start ≡ start_for m p
    unfolding start_for
    start-own h k = rw (← e, h, eq-eqb p m.partition k)

    pub icb-mapped : b ≡ true → {o : Option ℕ} → o ≡ mapped_start m p → o ≡ icb_start m p
    unfolding icb_start
    icb-mapped h k = rw (← e, h) k

    pub icb-own : b ≡ false → Some m.start ≡ icb_start m p
    unfolding icb_start
    icb-own h = rw (← e, h)

  module _ {t : Option ℕ} (e : t ≡ icb_start m p) where
    pub at-foreign : t ≡ None → m ≡ at_entry m p
    unfolding at_entry
    at-foreign h = rw (← e, h)

    pub at_in : {x : ℕ} → t ≡ Some x → started_at m (Some x) ≡ at_entry m p
    unfolding at_entry
    at_in h = rw (← e, h)

-- ---- the sector of a block

module _ (block : ℕ) (l : block < 2 ^ 32) where
  pub cross-in : {t : Option ℕ} {x : ℕ} → t ≡ Some x → x < 2 ^ 32 → {s : Sector} → s.0 ≡ sector_of x block → StandsIn (crossing block t) (Some s)
  cross-in f k {s} e = record { is = rw f (ap (λ n. Some (record { 0 = n })) e); low = omega arith }

  module _ (m : Mount) where
    pub place-unnamed : m.start < 2 ^ 32 → {r : Option ℕ} → r ≡ None → {s : Sector} → s.0 ≡ sector_of m.start block → BlockStands m r block (Some s)
    unfolding placed
    place-unnamed k f {s} e = record { is = rw f (ap (λ n. Some (record { 0 = n })) e); low = omega arith }

module _ (m : Mount) (block p : ℕ) (o : Option ℕ) {q : Option Sector} where
  pub place-named : {r : Option ℕ} → r ≡ Some p → o ≡ start_for m p → StandsIn (crossing block o) q → BlockStands m r block q
  unfolding placed
  place-named f e k = rw (f, ← e) k

  pub place-icb : o ≡ icb_start m p → StandsIn (crossing block o) q → StandsIn (icb_placed m p block) q
  unfolding icb_placed
  place-icb e k = rw (← e) k

-- ---- what that tells of the definition

module _ (o : Option ℕ) {p : Option Sector} (q : StandsIn o p) where
  pub in-nowhere : p ≡ None → o ≡ None
  in-nowhere e = by o (sym e ∙ q.is)
    where
      by : (o : Option ℕ) → None ≡ placed_by o → o ≡ None
      by None h = refl
      by (Some s) h = absurd (let z : ◌≡◌ {A = ℕ} 0 1 = cc in omega arith)

  module _ {s : Sector} (e : p ≡ Some s) where
    pub in-at : o ≡ Some s.0
    in-at = by o (sym e ∙ q.is)
      where
        by : (o : Option ℕ) → Some s ≡ placed_by o → o ≡ Some s.0
        by None h = absurd (let z : ◌≡◌ {A = ℕ} 0 1 = cc in omega arith)
        by (Some t) h = cc

    pub in-low : s.0 < 2 ^ 33
    in-low = rw e at q.low

module _ (m : Mount) (r : Option ℕ) (block : ℕ) {p : Option Sector} (q : BlockStands m r block p) where
  pub stands-nowhere : p ≡ None → placed m r block ≡ None
  stands-nowhere e = in-nowhere (placed m r block) q e

  module _ {s : Sector} (e : p ≡ Some s) where
    pub stands_at : placed m r block ≡ Some s.0
    stands_at = in-at (placed m r block) q e

    pub stands-low : s.0 < 2 ^ 33
    stands-low = in-low (placed m r block) q e

-- ---- a volume without maps: references as the original has them

module _ (m : Mount) (e : m.maps ≡ 0) where
  pub unmapped-own : (block : ℕ) → placed m (Some m.partition) block ≡ Some (m.start + block)
  unfolding placed start_for
  unmapped-own block = rw (e, eq-eqb m.partition m.partition refl)

  pub unmapped-foreign : (p block : ℕ) → (p ≡ m.partition → ⊥) → placed m (Some p) block ≡ None
  unfolding placed start_for
  unmapped-foreign p block h = rw (e, ne_eqb p m.partition h)

  pub unmapped-icb : (p block : ℕ) → icb_placed m p block ≡ Some (m.start + block)
  unfolding icb_placed icb_start
  unmapped-icb p block = rw e

  pub unmapped-entry : (p : ℕ) → at_entry m p ≡ m
  unfolding at_entry icb_start
  unmapped-entry p = rw e

-- ---- a volume with maps: a reference is an index into them

module _ (m : Mount) (h : m.maps ≡ 0 → ⊥) (p : ℕ) where
  pub icb-beyond : map_count m ≤ p → (block : ℕ) → icb_placed m p block ≡ None
  unfolding icb_placed icb_start mapped_start
  icb-beyond k block = rw (ne_eqb m.maps 0 h, le-ltb p (map_count m) k)

  module _ (k : p < map_count m) where
    pub icb-within : (block : ℕ) → icb_placed m p block ≡ Some (get_or m.starts p 0 + block)
    unfolding icb_placed icb_start mapped_start
    icb-within block = rw (ne_eqb m.maps 0 h, lt-ltb p (map_count m) k)

    pub entry-within : at_entry m p ≡ started_at m (Some (get_or m.starts p 0))
    unfolding at_entry icb_start mapped_start
    entry-within = rw (ne_eqb m.maps 0 h, lt-ltb p (map_count m) k)

-- ---- how the descriptors of an entry are read, with and without the check of bodies

module _ (m : Mount) where
  started-checked : (o : Option ℕ) → is_checked (started_at m o) ≡ is_checked m
  started-checked None = refl
  started-checked (Some s) = refl

  started-unchecked : (o : Option ℕ) → started_at (unchecked m) o ≡ unchecked (started_at m o)
  started-unchecked None = refl
  started-unchecked (Some s) = refl

  pub entry-checked : (p : ℕ) → is_checked (at_entry m p) ≡ is_checked m
  unfolding at_entry
  entry-checked p = started-checked (icb_start m p)

  pub entry-unchecked : (p : ℕ) → at_entry (unchecked m) p ≡ unchecked (at_entry m p)
  unfolding at_entry icb_start mapped_start
  entry-unchecked p = started-unchecked (icb_start m p)

  pub icb-unchecked : (p block : ℕ) → icb_placed (unchecked m) p block ≡ icb_placed m p block
  unfolding icb_placed icb_start mapped_start
  icb-unchecked p block = refl

-- ---- the contracts leave one result

pub stands-in-one : {o : Option ℕ} {p p' : Option Sector} → StandsIn o p → StandsIn o p' → p ≡ p'
stands-in-one s t = s.is ∙ sym t.is

pub stands_one : (m : Mount) (r : Option ℕ) (block : ℕ) {p p' : Option Sector} → BlockStands m r block p → BlockStands m r block p' → p ≡ p'
stands_one m r block s t = stands-in-one s t

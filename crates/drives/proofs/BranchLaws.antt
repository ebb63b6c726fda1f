-- The branch that a lent sector takes of a read's tree is what the code makes of the sector, and one that can't be had ends it by 1. Assumes nothing.
use Rattle.std.specs.Prelude.{Result, Ok, Err}
use mathlib.Core.Path.{◌≡◌, refl, ap, ◌∙◌}
use mathlib.Core.Bool.{Bool, true, false}
use mathlib.Core.List.{List, ◌++◌}
use Prim.Native.Nat.{ℕ, ◌+◌}
use lib.Dec.{eqb, ltb}
use Rattle.disc.specs.Choice.{pick}
use Rattle.disc.specs.Ask.{Ask, then}
use Rattle.disc.specs.Ask.Ask.{done, refuse}
use Rattle.disc.specs.Ask.Held.{holds, lacks}
use Rattle.disc.specs.Images.{sectors}
use Rattle.disc.specs.Places.{is_checked}
use Rattle.disc.specs.declared.refusals.Refusal.TheVariants.{Io, Malformed}
use Rattle.disc.proofs.AskLaws.{then-then}
use Rattle.tags.specs.Tags.{read_aed}
use Rattle.areas.specs.declared.AllocExtent.{AllocExtent}
use Rattle.areas.specs.Areas.{Area, area_at}
use Rattle.chains.specs.Chains.{area_in}
use Rattle.drives.specs.Feeds.{Feed, following, naming, crowded, crowded_by, fed_by}
use Rattle.drives.specs.Feeds.Feed.{over, stop, name, hold, put, want}
use Rattle.drives.specs.FileFeeds.{extent_feed}
use Rattle.drives.specs.FileFeeds.{named_by}
use Rattle.drives.specs.Readings.{extents_in, named_in, behind_area, feed_of, is_wanting, left_of}
use Rattle.drives.specs.Inner.Bodies.{behind_bytes, head_behind, part_behind}
use Rattle.drives.specs.Inner.Arrivals.{entry_behind, bytes_behind, extent_behind, wanted_behind}
use Rattle.drives.specs.declared.readings.Reading.{Reading}
use Rattle.drives.proofs.SettleLaws.{IsWant, naming-then}
use Rattle.drives.proofs.ArrivalLaws.{feed-wants}
use Rattle.tags.specs.declared.AllocationExtentDescriptor.{AllocationExtentDescriptor}
use Rattle.disc.specs.declared.refusals.Refusal.{Refusal}

pick_two : {A B : Type 0} (P : A → B → Type 0) (t : Bool) {x x' : A} {y y' : B} → P x y → P x' y' → P (pick t x x') (pick t y y')
pick_two P true p q = p
pick_two P false p q = q

-- an area needs no sector of its own
pub area-alone : (named : List ℕ → ℕ) (kind size : ℕ) (s : List ℕ) (h : Result AllocationExtentDescriptor Refusal) (f : Area → Feed) → naming named (area_in kind size s h) f ≡ following (area_in kind size s h) f
unfolding naming following
area-alone named kind size s (Err r) f = refl
area-alone named kind size s (Ok h) f = by (ltb size (24 + h.length_of_allocation_descriptors))
  where
    by : (t : Bool)
        → naming named (pick t (refuse Malformed) (done (area_at kind s 24 h.length_of_allocation_descriptors))) f
        ≡ following (pick t (refuse Malformed) (done (area_at kind s 24 h.length_of_allocation_descriptors))) f
    by true = refl
    by false = refl

-- the sector that is wanted, lent
fed-crowded : (full : Bool) (b : List ℕ) (f : Feed) → IsWant f → fed_by (holds b) (crowded_by full f) ≡ crowded_by full (fed_by (holds b) f)
unfolding IsWant fed_by crowded
fed-crowded true b over h = absurd h
fed-crowded true b (stop r) h = absurd h
fed-crowded true b (name n f) h = absurd h
fed-crowded true b (hold n f) h = absurd h
fed-crowded true b (put c f) h = absurd h
fed-crowded true b (want s k) h = refl
fed-crowded false b f h = refl

module _ (r : Reading) (row : List (List ℕ)) (b : List ℕ) where
  abbrev Takes : Feed → Feed → Type 0
  Takes f g = fed_by (holds b) f ≡ g

  abbrev es : List AllocExtent
  es = extents_in row r.scan.listed

  abbrev named : List ℕ → ℕ
  named = named_by r.kind r.size es

  abbrev area : List ℕ → Ask Area
  area s = area_in r.kind r.size s (read_aed (is_checked r.mount) s)

  pub feed-taken : fed_by (holds b) (feed_of r row) ≡ wanted_behind r row b
  unfolding feed_of wanted_behind entry_behind head_behind part_behind extent_behind bytes_behind fed_by following naming sectors then extent_feed IsWant
  feed-taken =
      pick_two Takes (eqb r.phase 0) refl
      (pick_two Takes (eqb r.phase 1)
      (ap (name (named b)) (ap (λ t. naming (λ more. named (b ++ more)) t (behind_area r es)) (then-then (sectors r.left (r.at + 1)) (λ rest. done (b ++ rest)) area)
      ∙ naming-then (λ more. named (b ++ more)) (sectors r.left (r.at + 1)) (λ rest. area (b ++ rest)) (behind_area r es)
      (λ n more. area-alone n r.kind r.size (b ++ more) (read_aed (is_checked r.mount) (b ++ more)) (behind_area r es))))
      (pick_two Takes (eqb r.phase 2)
      (fed-crowded r.scan.full b _ tt ∙ ap (λ x. crowded_by r.scan.full (name (named_in r row b) x))
      (naming-then (λ more. named_in r row (b ++ more)) (sectors r.left (r.at + 1)) (λ rest. done (b ++ rest)) (behind_bytes r row) (λ n more. refl)))
      refl))

-- and one that can't be had
want-lost : (f : Feed) → IsWant f → fed_by lacks f ≡ stop Io
unfolding IsWant fed_by
want-lost over h = absurd h
want-lost (stop r) h = absurd h
want-lost (name n f) h = absurd h
want-lost (hold n f) h = absurd h
want-lost (put b f) h = absurd h
want-lost (want s k) h = refl

module _ (r : Reading) (row : List (List ℕ)) (w : is_wanting r ≡ true) where
  pub left-taken : (b : List ℕ) → fed_by (holds b) (left_of r row) ≡ wanted_behind r row b
  unfolding left_of
  left-taken b = rw w (feed-taken r row b)

  pub left-lost : fed_by lacks (left_of r row) ≡ stop Io
  unfolding left_of
  left-lost = rw w (want-lost (feed_of r row) (feed-wants r row))

-- Where a reference that a descriptor names leads on a volume with maps: it is an index into them. Assumes nothing.
use Rattle.std.specs.Prelude.{Some, None}
use mathlib.Core.Path.{◌≡◌}
use Prim.Native.Nat.{ℕ, ◌+◌, ◌≤◌, ◌<◌}
use lib.ListN.{get_or}
use borrow.Author.Tests.{ne_eqb, lt-ltb, le-ltb}
use Rattle.disc.specs.Places.{map_count, mapped_start, start_for, placed}
use Rattle.disc.specs.declared.places.Mount.{Mount}

module _ (m : Mount) (h : m.maps ≡ 0 → ⊥) (p block : ℕ) where
  -- into the partition of its own map
  pub mapped-named : p < map_count m → placed m (Some p) block ≡ Some (get_or m.starts p 0 + block)
  unfolding placed start_for mapped_start
  mapped-named k = rw (ne_eqb m.maps 0 h, lt-ltb p (map_count m) k)

  -- and behind the maps nowhere
  pub mapped-beyond : map_count m ≤ p → placed m (Some p) block ≡ None
  unfolding placed start_for mapped_start
  mapped-beyond k = rw (ne_eqb m.maps 0 h, le-ltb p (map_count m) k)

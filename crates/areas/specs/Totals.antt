-- How many bytes extents have in all.
use Rattle.std.specs.Prelude.{[], List, ◌∷◌, ◌+◌, ℕ}
use Rattle.areas.specs.declared.AllocExtent.{AllocExtent}

-- the effective lengths of extents, added up
unfoldable pub total : List AllocExtent → ℕ
total [] = 0
total (e ∷ es) = e.length + total es

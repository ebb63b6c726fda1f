-- A path's components: RULES 8.11.
use Rattle.std.specs.Prelude.{ℕ, suc, List, [], ◌∷◌, eqb}
use Rattle.disc.specs.Choice.{pick}
use Rattle.disc.specs.Parts.{PartAt}

-- a component: its bytes, and where in the path they start
pub record Component : Type 0 where
  pub bytes : List ℕ
  pub at : ℕ

abbrev pub no_component : Component
no_component = record { bytes = []; at = 0 }

-- the bytes before the first slash
unfoldable pub front : List ℕ → List ℕ
front [] = []
front (b ∷ s) = pick (eqb b 0x2f) [] (b ∷ front s)

-- empty components are dropped
abbrev pub unless_empty : List ℕ → ℕ → List Component → List Component
unless_empty [] at cs = cs
unless_empty (b ∷ c) at cs = record { bytes = b ∷ c; at = at } ∷ cs

-- the components after the first slash of bytes that start at `at`
unfoldable pub behind : ℕ → List ℕ → List Component
behind at [] = []
behind at (b ∷ s) = pick (eqb b 0x2f) (unless_empty (front s) (suc at) (behind (suc at) s)) (behind (suc at) s)

-- the components of bytes that start at `at`, cut at 2F
unfoldable pub components_from : ℕ → List ℕ → List Component
components_from at s = unless_empty (front s) at (behind at s)

unfoldable pub components : List ℕ → List Component
components path = components_from 0 path

-- how many slashes stand at the front
unfoldable pub slashes : List ℕ → ℕ
slashes [] = 0
slashes (b ∷ s) = pick (eqb b 0x2f) (suc (slashes s)) 0

abbrev pub InPath : List ℕ → Component → Type 0
InPath path c = PartAt path c.bytes c.at

-- When components are those of a path, stated without cutting it: RULES 8.11.
use Rattle.std.specs.Prelude.{ℕ, ◌+◌, ◌<◌, ◌≡◌, List, [], ◌∷◌, ◌++◌, length}
use Rattle.listings.specs.Paths.{Component}

-- nothing but slashes
unfoldable pub Slashes : List ℕ → Type 0
Slashes [] = Unit {0}
Slashes (b ∷ s) = (b ≡ 0x2f) × Slashes s

-- no slash
unfoldable pub NoSlash : List ℕ → Type 0
NoSlash [] = Unit {0}
NoSlash (b ∷ s) = (b ≡ 0x2f → ⊥) × NoSlash s

-- the end of the path, or a slash
unfoldable pub Parted : List ℕ → Type 0
Parted [] = Unit {0}
Parted (b ∷ s) = b ≡ 0x2f

-- c is the first component of s, which starts at `at` of the path: only slashes come before it, it isn't empty and has no slash, and it ends at a
-- slash or with the path; `others` holds for what follows
pub record Heads (at : ℕ) (s : List ℕ) (c : Component) (others : ℕ → List ℕ → Type 0) : Type 0 where
  pub before : List ℕ
  pub rest : List ℕ
  pub parts : s ≡ before ++ (c.bytes ++ rest)
  pub slashes : Slashes before
  pub place : c.at ≡ at + length before
  pub some : 0 < length c.bytes
  pub plain : NoSlash c.bytes
  pub parted : Parted rest
  pub on : others (at + length before + length c.bytes) rest

-- after the last component there are only slashes
unfoldable pub CutFrom : ℕ → List ℕ → List Component → Type 0
CutFrom at s [] = Slashes s
CutFrom at s (c ∷ cs) = Heads at s c (λ i rest. CutFrom i rest cs)

abbrev pub Cut : List ℕ → List Component → Type 0
Cut path cs = CutFrom 0 path cs

-- What is known of an accepted tag, and of its place.
use Rattle.std.specs.Prelude.{Bool, true, List, ◌++◌, [], ◌∷◌, ◌≡◌, ◌⊎◌, ℕ, ◌+◌, ◌≤◌, ◌<◌, length, replicate, Ok}
use Rattle.tags.specs.Tags.{tag_of, body_right, read_tag, in_place, encode_tag}
use Rattle.tags.specs.declared.DescriptorTag.{DescriptorTag}

-- the descriptor at the front of s has a right body, by its own tag
abbrev pub right_at : List ℕ → Bool
right_at s = body_right s (tag_of s)

-- a descriptor that passed the gate: there are enough bytes, the tag at the front has the id, and where bodies are checked its body is right
pub record Passed (check : Bool) (s : List ℕ) (id size : ℕ) (t : DescriptorTag) : Type 0 where
  pub long : size ≤ length s
  pub tag : read_tag s ≡ Ok t
  pub body : check ≡ true → body_right s t ≡ true
  pub is : t.id ≡ id

-- in a partition that starts at `start`: by its id, a tag is in place if its location is the block, or else the block's sector
pub record Crossed (start : ℕ) (t : DescriptorTag) (block sector : ℕ) : Type 0 where
  pub of-partition : 256 ≤ t.id → t.id ≤ 266 → (in_place t sector block ≡ true → t.location ≡ block) × (t.location ≡ block → in_place t sector block ≡ true)
  pub of_other : (t.id < 256) ⊎ (266 < t.id)
      → (in_place t sector block ≡ true → t.location ≡ start + block) × (t.location ≡ start + block → in_place t sector block ≡ true)

-- an encoded tag, followed by any bytes
abbrev pub written : DescriptorTag → List ℕ → List ℕ
written t rest = encode_tag t ++ rest

-- the tag of case 1 of RULES 11.1, with the checksum k and the reserved byte z
abbrev pub row : ℕ → ℕ → List ℕ
row k z = 0x02 ∷ 0x00 ∷ 0x03 ∷ 0x00 ∷ k ∷ z ∷ replicate 6 0x00 ++ 0x00 ∷ 0x01 ∷ 0x00 ∷ 0x00 ∷ []

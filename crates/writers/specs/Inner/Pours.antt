-- Bytes poured into what is lent, at a place that only rises.
use Rattle.std.specs.Prelude.{ℕ, ◌+◌, ◌-◌, ◌*◌, ◌<◌, ◌≤◌, ◌^◌, ◌≡◌, true, List, ◌∷◌, ◌++◌, length}
use Rattle.disc.specs.Images.{sectors_for}
use Rattle.records.specs.Bytes.{le16, le32}
use Rattle.std.proofs.lemmas.List.Edits.{sets}
use Rattle.writers.specs.Layout.{summed, total, blocks_of, directory_size, front, directory_part, entries_part, le64, zeros, joined, long_at}
use Rattle.writers.specs.Refusing.{names_in, are_good, are_short, sum}

-- a text of `size` bytes stands at a place, and the place behind it is r
pub record Poured (text : List ℕ) (size at : ℕ) (before after : List ℕ) (r : ℕ) : Type 0 where
  pub bytes : after ≡ sets before at text
  pub long : length text ≡ size
  pub place : r ≡ at + size
  pub same : length after ≡ length before

-- sectors stand there
pub record Laid (ss : List (List ℕ)) (at : ℕ) (before after : List ℕ) (r : ℕ) : Type 0 where
  pub poured : Poured (joined ss) (2048 * length ss) at before after r

-- the place behind is no farther than `limit`, and the slice keeps its length, whatever the contents are; where they are `good`, the text stands there
pub record Kept (good : Type 0) (text : List ℕ) (size at limit : ℕ) (before after : List ℕ) (r : ℕ) : Type 0 where
  pub above : at ≤ r
  pub within : r ≤ limit
  pub same : length after ≡ length before
  pub poured : good → Poured text size at before after r

-- a file entry's body with the numbers that go by the file's bytes
abbrev pub sized_body : List ℕ → ℕ → List ℕ
sized_body body size = sets (sets (sets body 40 (le64 size)) 48 (le64 (sectors_for size))) 160 (le32 size)

-- the body of a file's identifier with zeros up to that of the longest name
unfoldable pub long_body : ℕ → List ℕ → List ℕ
long_body block name = le16 1 ++ 0 ∷ length (8 ∷ name) ∷ long_at block ++ le16 0 ++ 8 ∷ name ++ zeros (129 - length name)

-- what stands before the files
abbrev pub head : List (List ℕ) → List ℕ → ℕ → List ℕ
head names lengths size = joined (front size (length lengths) (directory_size names)) ++ directory_part names ++ joined (entries_part lengths)

-- ---- what the contents are where nothing was changed: premises of what is promised, and asked of no caller

-- the names are good, and few
pub record Named (names : List ℕ) : Type 0 where
  pub good : are_good (names_in names) ≡ true
  pub few : length (names_in names) ≤ 64

-- the names and the lengths are
pub record Heads (names lengths : List ℕ) : Type 0 where
  pub named : Named names
  pub short : are_short lengths ≡ true

-- the files stand in the staging area, and have room from a place on
pub record Staged (lengths staging : List ℕ) (at : ℕ) (lent : List ℕ) : Type 0 where
  pub whole : sum lengths ≤ length staging
  pub room : at + 2048 * blocks_of lengths ≤ length lent

-- nothing is refused
pub record Ready (names lengths staging : List ℕ) (sectors : ℕ) : Type 0 where
  pub heads : Heads names lengths
  pub alike : length (names_in names) ≡ length lengths
  pub staged : sum lengths ≤ length staging
  pub is : sectors ≡ total lengths

-- ---- numbers that are bounded whatever the contents are, and right where these are good

pub record Sized (names : List ℕ) (r : ℕ) : Type 0 where
  pub small : r ≤ 10792
  pub is : Named names → r ≡ directory_size (names_in names)

pub record Sums (f : ℕ → ℕ) (lengths : List ℕ) (r : ℕ) : Type 0 where
  pub small : r < 2 ^ 40
  pub is : are_short lengths ≡ true → r ≡ summed f lengths

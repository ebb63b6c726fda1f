-- How a show is refused: by the first refused directory that it meets.
use Rattle.std.specs.Prelude.{true, false, List, [], ◌∷◌, ◌⊎◌, ◌≡◌, ◌-◌, ℕ, suc, zero, length}
use Rattle.disc.specs.Ask.{Ask, outcome, Disc}
use Rattle.disc.specs.Ask.Outcome.{answered, refused}
use Rattle.disc.specs.Images.{disc}
use Rattle.disc.specs.Places.{is_checked}
use Rattle.disc.specs.declared.places.Mount.{Mount}
use Rattle.disc.specs.declared.refusals.Refusal.{Refusal}
use Rattle.disc.specs.declared.refusals.Refusal.TheVariants.{TooDeep}
use Rattle.records.specs.declared.allocations.LongAd.{LongAd}
use Rattle.identifiers.specs.Identifiers.{is_directory}
use Rattle.volumes.specs.declared.openings.VolumeRecord.{VolumeRecord}
use Rattle.listings.specs.Entries.{Entry, is_skipped, entries}
use Rattle.directories.specs.Directories.{directory_bytes}
use Rattle.shows.specs.Shows.{Node, under, nodes_at}

module _ (d : Disc) (m : Mount) (why : Refusal) where
  -- the nodes under an entry are answered
  pub record Passed (a : Ask (List Node)) : Type 0 where
    pub nodes : List Node
    pub is : outcome d a ≡ answered nodes

  -- of the entries of a directory, in turn, the first that isn't passed is a directory, and is refused
  unfoldable pub Meets : (LongAd → Type 0) → (LongAd → Ask (List Node)) → List Entry → Type 0
  Meets R inside [] = ⊥
  Meets R inside (e ∷ es) =
      ((is_skipped e.identifier ≡ true) × Meets R inside es)
      ⊎ ((is_skipped e.identifier ≡ false) × ((is_directory e.identifier ≡ true) × R e.identifier.icb))
      ⊎ ((is_skipped e.identifier ≡ false) × (Passed (under inside e) × Meets R inside es))

  -- a directory that is read and parsed, and one of whose entries is refused in this way
  pub record Under (R : ℕ → LongAd → Type 0) (inside : ℕ → LongAd → Ask (List Node)) (work : ℕ) (icb : LongAd) : Type 0 where
    pub bytes : List ℕ
    pub es : List Entry
    pub read : outcome d (directory_bytes m work icb) ≡ answered bytes
    pub parsed : entries (is_checked m) bytes ≡ answered es
    pub meets : Meets (R (work - length bytes)) (inside (work - length bytes)) es

  -- a directory that is read and has a bad entry
  pub record Bad (work : ℕ) (icb : LongAd) : Type 0 where
    pub bytes : List ℕ
    pub read : outcome d (directory_bytes m work icb) ≡ answered bytes
    pub bad : entries (is_checked m) bytes ≡ refused why

  -- the directory at icb is refused: no level is left; it can't be read, or doesn't fit; it has a bad entry; or one under it is refused at its turn
  unfoldable pub Stops : ℕ → ℕ → ℕ → LongAd → Type 0
  Stops zero level work icb = TooDeep ≡ why
  Stops (suc left) level work icb =
      (outcome d (directory_bytes m work icb) ≡ refused why)
      ⊎ Bad work icb
      ⊎ Under (λ w i. Stops left (suc level) w i) (λ w i. nodes_at m left (suc level) w i) work icb

-- the walk from the root is refused in one of these ways
abbrev pub StopsBy : List ℕ → VolumeRecord → ℕ → List ℕ → Refusal → Type 0
StopsBy image v levels work why = Stops (disc image) v.mount why levels 1 (length work) v.root

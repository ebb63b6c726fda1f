-- Entries that are alike except for the bytes of an empty name.
use Rattle.std.specs.Prelude.{true, List, [], ◌∷◌, ◌⊎◌, ◌≡◌, ℕ, length, get_or}
use Rattle.names.specs.Names.{nameless}
use Rattle.listings.specs.Entries.{Entry}

-- two recorded names of the same length, both empty by their ids
pub record Emptied (s t : List ℕ) : Type 0 where
  pub one : nameless (get_or s 0 0) ≡ true
  pub other : nameless (get_or t 0 0) ≡ true
  pub long : length s ≡ length t

-- two entries with the same identifier, whose recorded names are equal or both empty
pub record Alike (e f : Entry) : Type 0 where
  pub identified : e.identifier ≡ f.identifier
  pub named : (e.recorded ≡ f.recorded) ⊎ Emptied e.recorded f.recorded

-- entry by entry
unfoldable pub AllAlike : List Entry → List Entry → Type 0
AllAlike [] [] = Unit {0}
AllAlike [] (f ∷ fs) = ⊥
AllAlike (e ∷ es) [] = ⊥
AllAlike (e ∷ es) (f ∷ fs) = Alike e f × AllAlike es fs

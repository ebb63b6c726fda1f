-- What a program that steps has: the contracts of `Reading::step` and `Opening::step`, over the values that their parameters' types have. Whatever values those
-- are: a step is handed a state, slices and a row of them, and gives a state, a row and an output of them again.
use Rattle.std.specs.Prelude.{◌≡◌, List, ℕ}
use Rattle.disc.specs.Ask.{Disc}
use Rattle.drives.specs.Feeds.{lent}
use Rattle.drives.specs.Openings.{Fed as OpeningFed}
use Rattle.drives.specs.Readings.{Fed}
use Rattle.drives.specs.declared.openings.Opening.{Opening}
use Rattle.drives.specs.declared.readings.Reading.{Reading}

-- a slice that is lent for a sector of a disc
pub record Lends (Slice : List ℕ → Type 0) (d : Disc) (n : ℕ) : Type 0 where
  pub slice : List ℕ
  pub typed : Slice slice
  pub is : lent slice ≡ d n

-- what `Reading::step` gives
pub record Step (State : Reading → Type 0) (Row : List (List ℕ) → Type 0) (Slice : List ℕ → Type 0) (r : Reading) (s : List ℕ) (row : List (List ℕ)) (out : List ℕ) : Type 0 where
  pub state : Reading
  pub places : List (List ℕ)
  pub output : List ℕ
  pub fed : Fed r s row out state places output
  pub typed : State state × Row places × Slice output

abbrev pub Steps : (State : Reading → Type 0) (Row : List (List ℕ) → Type 0) (Slice : List ℕ → Type 0) → Type 0
Steps State Row Slice = (r : Reading) (s : List ℕ) (row : List (List ℕ)) (out : List ℕ) → State r → Slice s → Row row → Slice out → Step State Row Slice r s row out

-- what `Opening::step` gives
pub record OpeningStep (State : Opening → Type 0) (o : Opening) (s : List ℕ) : Type 0 where
  pub state : Opening
  pub fed : OpeningFed o s state
  pub typed : State state

abbrev pub OpeningSteps : (State : Opening → Type 0) (Slice : List ℕ → Type 0) → Type 0
OpeningSteps State Slice = (o : Opening) (s : List ℕ) → State o → Slice s → OpeningStep State o s

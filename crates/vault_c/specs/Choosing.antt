-- The calls by the choices on opening as one number: RULES 5.23.
use Rattle.std.specs.Prelude.{ℕ, List, Bool, eqb, Option, Some, None}
use Rattle.volumes.specs.Openings.{no_volume}
use Rattle.volumes.specs.Choices.{how_of}
use Rattle.volumes.specs.declared.openings.How.{How}
use Rattle.volumes.specs.declared.openings.Opened.{Opened}
use Rattle.vault.specs.Calls.{opens, Written, labels}
use Rattle.vault.specs.Public.{may, Call}

-- ---- the calls: a number with a bit of no choice is refused by 4, and nothing is asked for

abbrev pub opens_by : List ℕ → Option How → Opened
opens_by image (Some how) = opens image how
opens_by image None = record { answer = 4; count = 0; volume = no_volume }

abbrev pub opens_as : List ℕ → ℕ → Opened
opens_as image n = opens_by image (how_of n)

abbrev pub labels_by : List ℕ → Option How → List ℕ → Written
labels_by image (Some how) out = labels image how out
labels_by image None out = record { reply = record { answer = 4; count = 0; length = 0 }; out = out }

abbrev pub labels_as : List ℕ → ℕ → List ℕ → Written
labels_as image n out = labels_by image (how_of n) out

-- the numbers that the call may answer; only 4 where the number has a bit of no choice
abbrev pub may_by : {A R : Type 0} → (How → Call A R) → Option How → ℕ → Bool
may_by call (Some how) k = may (call how) k
may_by call None k = eqb k 4

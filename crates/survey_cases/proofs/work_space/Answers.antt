-- `survey_cases::work_space` meets its contract: the array has as many bytes as its type says. Assumes nothing.
use mathlib.Core.Path.{sym}
use Prim.Native.Nat.{ℕ}
use lib.ListN.{length-replicate}
use Rattle.survey_cases.proofs.work_space.Goals as goal

pub returns : goal.returns
returns c = sym (length-replicate {A = ℕ} 65536 0)

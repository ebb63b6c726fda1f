-- `survey_cases::queries` ends: each turn passes the head of a query. Assumes nothing.
use Prim.Native.Nat.{◌-◌}
use lib.ListN.{length}
use Rattle.survey_cases.proofs.queries.Given as goal

abbrev pub decreases-loop-i : goal.decreases-loop-i
decreases-loop-i g l = length l.all - l.i

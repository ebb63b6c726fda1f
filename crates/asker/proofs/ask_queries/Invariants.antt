-- `asker::ask_queries` ends: each query stands behind the one before. Assumes nothing.
use Prim.Native.Nat.{◌-◌}
use lib.ListN.{length}
use Rattle.asker.proofs.ask_queries.Given as goal

abbrev pub decreases-loop-i : goal.decreases-loop-i
decreases-loop-i g l = length l.all - l.i

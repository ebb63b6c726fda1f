-- `names::matching::front` meets its contract: what is left to compare says what the whole says. Assumes nothing.
use Prim.Native.Nat.{◌+◌, ◌*◌}
use Rattle.names.specs.Names.{fold_of}
use Rattle.names.specs.Inner.Matching.{Comparing}
use Rattle.names.proofs.matching.front.Given as goal

abbrev pub invariant-loop-at : goal.invariant-loop-at
invariant-loop-at l = Comparing (fold_of l.fold) l.step l.s l.t 1 0 (l.at * l.step + 1) l.at

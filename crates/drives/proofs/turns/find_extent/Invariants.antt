-- `drives::turns::find_extent` meets its contract: the extents that are left give what all of them give. Assumes nothing.
use Rattle.drives.proofs.TurnLaws.{Seeks}
use Rattle.drives.proofs.turns.find_extent.Given as goal

abbrev pub invariant-loop-i : goal.invariant-loop-i
invariant-loop-i l = Seeks l.r l.row l.next l.i

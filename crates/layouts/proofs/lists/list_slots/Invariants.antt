-- `layouts::lists::list_slots` meets its contract: what is stored and what is left to store are all there is. Assumes nothing.
use Rattle.layouts.proofs.ListLaws.{Stores}
use Rattle.layouts.proofs.lists.list_slots.Given as goal

abbrev pub invariant-loop-i : goal.invariant-loop-i
invariant-loop-i g l = Stores g.T.Slot.slot_of l.image l.initial.l l.initial.row l.row l.l l.n l.i

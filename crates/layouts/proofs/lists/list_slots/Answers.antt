-- `layouts::lists::list_slots` meets its contract: what is stored and what is left to store are all there is. Assumes nothing.
use Rattle.std.proofs.Common.{rules}
use Rattle.layouts.proofs.ListLaws.{stores-start, slots-end, stores-slot, stores-long, stores-below, stores-adds, stores-next}
use Rattle.layouts.proofs.lists.list_slots.Goals as goal

ruleset stores = (stores-start, slots-end, stores-slot, stores-long, stores-below, stores-adds, stores-next, rules)

pub loop-i-preserved : goal.loop-i-preserved
loop-i-preserved g c = search stores

pub returns : goal.returns
returns g c = slots-end g.T.Slot.slot_of _ _ _ _ c.plan-l.ensures c.loop-i.invariant (search rules)

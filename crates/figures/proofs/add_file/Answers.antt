-- `figures::add_file` meets its contract: in a place, under its answer number. Assumes nothing.
use Prim.Native.Nat.{min}
use Rattle.figures.proofs.AddLaws.{no-file}
use Rattle.figures.proofs.add_file.Goals as goal

pub returns-then-place-ne-PLACE : goal.returns-then-place-ne-PLACE
returns-then-place-ne-PLACE c = let a = c.args in no-file c.if-place-ne-PLACE.true (min a.answer 16) a.bytes a.extents a.sectors a.chain

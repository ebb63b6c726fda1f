-- `figures::add_image` meets its contract: one image more under its answer number. Assumes nothing.
use Prim.Native.Nat.{min}
use Rattle.figures.proofs.AddLaws.{no-image, image-placed}
use Rattle.figures.proofs.add_image.Goals as goal

pub returns-then-place-ne-PLACE : goal.returns-then-place-ne-PLACE
returns-then-place-ne-PLACE c = no-image c.if-place-ne-PLACE.true (min c.args.answer 16)

pub returns : goal.returns
returns c = let under = c.min-under.ensures in rw (← under) (image-placed _ _ c.if-place-ne-PLACE.false c.add_sum.ensures)

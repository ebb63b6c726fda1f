-- `figures::add_directory` meets its contract: one directory more, in a place. Assumes nothing.
use Rattle.figures.proofs.AddLaws.{no-directory, directory-placed}
use Rattle.figures.proofs.add_directory.Goals as goal

pub returns-then-place-ne-PLACE : goal.returns-then-place-ne-PLACE
returns-then-place-ne-PLACE c = no-directory c.if-place-ne-PLACE.true

pub returns : goal.returns
returns c = directory-placed _ c.if-place-ne-PLACE.false c.add_sum.ensures

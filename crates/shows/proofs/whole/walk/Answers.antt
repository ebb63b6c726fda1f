-- `shows::whole::walk` meets its contract: the root's entries are level 1. Assumes nothing.
use Rattle.shows.proofs.whole.walk.Goals as goal

pub returns : goal.returns
returns c = c.visit_level.ensures 1

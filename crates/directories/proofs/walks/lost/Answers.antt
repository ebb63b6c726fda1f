-- `directories::walks::lost` meets its contract: 3, with nothing found. Assumes nothing.
use Rattle.directories.proofs.walks.lost.Goals as goal

pub returns : goal.returns
returns c = cc

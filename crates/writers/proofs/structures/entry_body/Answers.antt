-- `writers::structures::entry_body` meets its contract: each number is stored at its place. Assumes nothing.
use Rattle.std.proofs.Common.{rules}
use Rattle.writers.specs.Layout.{entry_body}
use Rattle.writers.proofs.structures.entry_body.Goals as goal

pub returns : goal.returns
unfolding entry_body
returns c = search rules

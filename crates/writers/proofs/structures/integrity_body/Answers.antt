-- `writers::structures::integrity_body` meets its contract: each number is stored at its place. Assumes nothing.
use Rattle.std.proofs.Common.{rules}
use Rattle.writers.specs.Layout.{integrity_body}
use Rattle.writers.proofs.structures.integrity_body.Goals as goal

pub returns : goal.returns
unfolding integrity_body
returns c = search rules

-- `writers::structures::partition_body` meets its contract: the length is stored at its place. Assumes nothing.
use Rattle.std.proofs.Common.{rules}
use Rattle.writers.specs.Layout.{partition_body}
use Rattle.writers.proofs.structures.partition_body.Goals as goal

pub returns : goal.returns
unfolding partition_body
returns c = search rules

-- `writers::structures::identifier` meets its contract: the body is cut to the name. Assumes nothing.
use Rattle.std.proofs.Common.{rules}
use Rattle.writers.proofs.BodyLaws.{identifier-ends}
use Rattle.writers.proofs.structures.identifier.Goals as goal

ruleset bodies = (identifier-ends, rules)

pub returns : goal.returns
returns c = search bodies

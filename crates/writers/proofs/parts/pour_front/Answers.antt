-- `writers::parts::pour_front` meets its contract: one part behind another. Assumes nothing.
use Rattle.std.proofs.Common.{rules}
use Rattle.writers.proofs.PartLaws.{front-poured}
use Rattle.writers.proofs.parts.pour_front.Goals as goal

ruleset own = (front-poured, rules)

pub returns : goal.returns
returns c = search own

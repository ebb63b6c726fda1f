-- `writers::parts::pour_entries` meets its contract: one part behind another. Assumes nothing.
use Rattle.std.proofs.Common.{rules}
use Rattle.writers.proofs.PartLaws.{entries-poured}
use Rattle.writers.proofs.parts.pour_entries.Goals as goal

ruleset own = (entries-poured, rules)

pub returns : goal.returns
returns c = search own

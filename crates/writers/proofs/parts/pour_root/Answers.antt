-- `writers::parts::pour_root` meets its contract: one descriptor behind another, of which the constants are the bodies of the definition. Assumes nothing.
use Rattle.std.proofs.Common.{rules}
use Rattle.writers.specs.Layout.{file_set_body}
use Rattle.writers.proofs.PartLaws.{root-poured}
use Rattle.writers.proofs.parts.pour_root.Goals as goal

ruleset own = (root-poured, rules)

pub returns : goal.returns
unfolding file_set_body
returns c = search own

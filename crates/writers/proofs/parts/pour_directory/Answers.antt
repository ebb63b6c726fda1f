-- `writers::parts::pour_directory` meets its contract: one part behind another. Assumes nothing.
use Rattle.std.proofs.Common.{rules}
use Rattle.writers.specs.Layout.{identifier_body}
use Rattle.writers.proofs.PartLaws.{directory-poured}
use Rattle.writers.proofs.parts.pour_directory.Goals as goal

ruleset own = (directory-poured, rules)

pub returns : goal.returns
unfolding identifier_body
returns c = search own

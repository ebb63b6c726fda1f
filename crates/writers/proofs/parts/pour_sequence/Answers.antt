-- `writers::parts::pour_sequence` meets its contract: one descriptor behind another, of which the constants are the bodies of the definition. Assumes nothing.
use Rattle.std.proofs.Common.{◌+◌, rules}
use Rattle.writers.specs.Layout.{primary_body, info_body, logical_body, unallocated_body, terminating_body}
use Rattle.writers.proofs.BodyLaws.{body-laid}
use Rattle.writers.proofs.PartLaws.{sequence-poured}
use Rattle.writers.proofs.parts.pour_sequence.Goals as goal

ruleset own = (sequence-poured, rules)

pub returns : goal.returns
unfolding primary_body info_body logical_body unallocated_body terminating_body
returns c = let made = body-laid 5 (c.args.location + 2) _ _ c.partition_body.ensures c.seal_sector-fourth.ensures in search own

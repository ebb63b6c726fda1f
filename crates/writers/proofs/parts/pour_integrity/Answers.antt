-- `writers::parts::pour_integrity` meets its contract: one descriptor behind another, of which the constants are the bodies of the definition. Assumes nothing.
use Rattle.std.proofs.Common.{rules}
use Rattle.writers.specs.Layout.{terminating_body, anchor_body, anchor_at}
use Rattle.writers.proofs.BodyLaws.{body-laid}
use Rattle.writers.proofs.PartLaws.{integrity-poured}
use Rattle.writers.proofs.parts.pour_integrity.Goals as goal

ruleset own = (integrity-poured, rules)

pub returns : goal.returns
unfolding terminating_body anchor_body anchor_at
returns c = let made = body-laid 9 64 _ _ c.integrity_body.ensures c.seal_sector-second.ensures in search own

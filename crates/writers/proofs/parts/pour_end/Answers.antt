-- `writers::parts::pour_end` meets its contract: zeros, and the anchor behind them. Assumes nothing.
use Rattle.std.proofs.Common.{rules}
use Rattle.writers.specs.Layout.{anchor_body, anchor_at}
use Rattle.writers.proofs.PartLaws.{end-poured}
use Rattle.writers.proofs.parts.pour_end.Goals as goal

ruleset own = (end-poured, rules)

pub returns : goal.returns
unfolding anchor_body anchor_at
returns c = search own

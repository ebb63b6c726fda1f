-- `layouts::runs::plan_entry` meets its contract: no slot, or one run at most. Assumes nothing.
use borrow.Author.Rules.{rules}
use Rattle.layouts.proofs.RunListLaws.{entry-full, entry_done}
use Rattle.layouts.proofs.runs.plan_entry.Goals as goal

ruleset plans = (entry-full, entry_done, rules)

pub returns : goal.returns
returns c = search plans

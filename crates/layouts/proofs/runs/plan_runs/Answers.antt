-- `layouts::runs::plan_runs` meets its contract: refused, embedded, or a chain. Assumes nothing.
use borrow.Author.Rules.{rules}
use Rattle.std.proofs.Common.{Ok, ◌∙◌, ap}
use Rattle.layouts.proofs.RunListLaws.{plan-refused, plan-in, plan-small, plan-out}
use Rattle.layouts.proofs.runs.plan_runs.Goals as goal

ruleset plans = (plan-refused, plan-in, plan-small, plan-out, rules)

pub returns-in-Err : goal.returns-in-Err
returns-in-Err c = search plans

pub returns-in-Ok-Embedded : goal.returns-in-Ok-Embedded
returns-in-Ok-Embedded c = search plans

pub returns-in-Ok-Chained : goal.returns-in-Ok-Chained
returns-in-Ok-Chained c = let e = c.in-Ok-Chained.is ∙ ap Ok c.in-Ok-Chained.field-0-is in search plans

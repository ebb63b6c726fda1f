-- `layouts::runs::plan_chain` meets its contract: refused, more runs than slots, or a listing of them all. Assumes nothing.
use borrow.Author.Rules.{rules}
use Rattle.layouts.proofs.RunListLaws.{chain-little, chain-refused, chain-full, chain-done}
use Rattle.layouts.proofs.runs.plan_chain.Goals as goal

ruleset plans = (chain-little, chain-refused, chain-full, chain-done, rules)

pub returns-then-room-runs : goal.returns-then-room-runs
returns-then-room-runs c = search plans

pub returns-in-Err : goal.returns-in-Err
returns-in-Err c = search plans

pub returns-else-room-runs : goal.returns-else-room-runs
returns-else-room-runs c = search plans

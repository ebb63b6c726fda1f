-- `layouts::runs::file_runs` meets its contract: what is stored and what is left to store are all there is. Assumes nothing.
use borrow.Author.Rules.{rules}
use Rattle.layouts.proofs.RunListLaws.{stores-start, stores-end, stores-slot, stores-long, stores-below, stores-adds, stores-next}
use Rattle.layouts.proofs.runs.file_runs.Goals as goal

ruleset stores = (stores-start, stores-end, stores-slot, stores-long, stores-below, stores-adds, stores-next, rules)

pub loop-i-init : goal.loop-i-init
loop-i-init c = search stores

pub loop-i-preserved : goal.loop-i-preserved
loop-i-preserved c = search stores

pub returns : goal.returns
returns c = search stores

-- `directories::walks::walk` meets its contract: every place on the walk leads to the same end. Assumes nothing.
use borrow.Author.Rules.{rules}
use Rattle.directories.proofs.WalkLaws.{walk-starts, walk-next, walk-nearer, walk_ends}
use Rattle.directories.proofs.LeftLaws.{leaves-start, leaves-next, leaves-end}
use Rattle.directories.proofs.walks.walk.Goals as goal

ruleset walks = (walk-starts, walk-next, walk-nearer, walk_ends, leaves-start, leaves-next, leaves-end, rules)

pub loop-next-init : goal.loop-next-init
loop-next-init c = search walks

pub loop-next-smaller : goal.loop-next-smaller
loop-next-smaller c = search walks

pub loop-next-preserved : goal.loop-next-preserved
loop-next-preserved c = (search walks, search rules, search walks)

pub returns-in-Ends-clause-walks : goal.returns-in-Ends-clause-walks
returns-in-Ends-clause-walks c = search walks

pub returns-in-Ends-clause-work_after : goal.returns-in-Ends-clause-work_after
returns-in-Ends-clause-work_after c = search walks

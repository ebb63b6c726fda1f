-- `drives::turns::find_extent` meets its contract: the extents that are left give what all of them give. Assumes nothing.
use borrow.Author.Rules.{rules}
use Rattle.drives.proofs.TurnLaws.{seeks-starts, seeks-on, seeks-found, seeks-ends}
use Rattle.drives.proofs.turns.find_extent.Goals as goal

ruleset seeks = (seeks-starts, seeks-on, seeks-found, seeks-ends, rules)

pub loop-i-init : goal.loop-i-init
loop-i-init c = search seeks

pub returns-in-Some : goal.returns-in-Some
returns-in-Some c = search seeks

pub loop-i-preserved : goal.loop-i-preserved
loop-i-preserved c = search seeks

pub returns : goal.returns
returns c = search seeks

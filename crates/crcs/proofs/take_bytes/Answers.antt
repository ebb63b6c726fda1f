-- `crcs::take_bytes` meets its contract: what is left gives what the whole gives. Assumes nothing.
use borrow.Author.Rules.{rules}
use Rattle.crcs.proofs.LoopLaws.{taken_start, taken_next, taken-end}
use Rattle.crcs.proofs.take_bytes.Goals as goal

ruleset bytes = (taken_start, taken_next, taken-end, rules)

pub loop-b-preserved : goal.loop-b-preserved
loop-b-preserved c = search bytes

pub returns : goal.returns
returns c = search bytes

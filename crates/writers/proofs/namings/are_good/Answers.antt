-- `writers::namings::are_good` meets its contract: the names left say what all say. Assumes nothing.
use Rattle.std.proofs.Common.{rules}
use Rattle.writers.proofs.NameLaws.{judge-unended, judge-starts, judge-bad, judge-again, judge-next, judge-ends}
use Rattle.writers.proofs.namings.are_good.Goals as goal
use Rattle.writers.proofs.namings.are_good.Goals.{then-not-is_good-via-then-not-is_good, then-not-is_good-via-else-not-is_good+then-is_among}

ruleset own = (judge-unended, judge-starts, judge-bad, judge-again, judge-next, judge-ends, rules)

pub returns-then-not-is_ended : goal.returns-then-not-is_ended
returns-then-not-is_ended c = search own

pub loop-name-init : goal.loop-name-init
loop-name-init c = search own

pub returns-then-not-is_good : goal.returns-then-not-is_good
returns-then-not-is_good c = elim c.then-not-is_good.branch [
  | then-not-is_good-via-then-not-is_good w ↦ judge-bad c.loop-name.invariant c.in-Some.ensures.steps c.is_good.ensures w.if-not-is_good.true
  | then-not-is_good-via-else-not-is_good+then-is_among w ↦ judge-again c.loop-name.invariant c.in-Some.ensures.steps c.is_good.ensures w.if-not-is_good.false w.is_among.ensures w.if-is_among.true
]

pub loop-name-preserved : goal.loop-name-preserved
loop-name-preserved c = judge-next c.loop-name.invariant c.in-Some.ensures.steps c.is_good.ensures c.if-not-is_good.false c.is_among.ensures c.if-is_among.false

pub returns : goal.returns
returns c = search own

-- `probes::probe` meets its contract: the five laws of the probe. Assumes nothing.
use borrow.Author.Rules.{rules}
use Rattle.probes.proofs.ProbeLaws.{probe-starts, probe-next, probe-stops, probe-gone, probe-ends}
use Rattle.probes.proofs.probe.Goals as goal

ruleset probes = (probe-starts, probe-next, probe-stops, probe-gone, probe-ends, rules)

pub loop-s-init : goal.loop-s-init
loop-s-init c = search probes

pub returns-then-held_from-eq0 : goal.returns-then-held_from-eq0
returns-then-held_from-eq0 c = search probes

pub returns-in-Over : goal.returns-in-Over
returns-in-Over c = search probes

pub loop-s-preserved : goal.loop-s-preserved
loop-s-preserved c = search probes

pub returns : goal.returns
returns c = search probes

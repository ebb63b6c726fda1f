-- `probes::probe` meets its contract: the five laws of the probe. Assumes nothing.
use Rattle.probes.proofs.ProbeLaws.{Probing}
use Rattle.probes.proofs.probe.Given as goal

abbrev pub invariant-loop-s : goal.invariant-loop-s
invariant-loop-s l = Probing l.image l.began l.named l.s

-- `volumes::sequences::scan_sequence` meets its contract: the laws of the scan. Assumes nothing.
use Rattle.volumes.proofs.SequenceLaws.{Scanning}
use Rattle.volumes.proofs.sequences.scan_sequence.Given as goal

abbrev pub invariant-loop-i : goal.invariant-loop-i
invariant-loop-i l = Scanning l.image l.how l.wanted l.first l.n l.kept l.i

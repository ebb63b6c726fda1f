-- `volumes::sequences::scan_sequence` meets its contract: the laws of the scan. Assumes nothing.
use borrow.Author.Rules.{rules}
use Rattle.volumes.proofs.SequenceLaws.{scan-next, scan-over, scan-fails, scan-gone, scan-ends}
use Rattle.volumes.proofs.sequences.scan_sequence.Goals as goal

ruleset scans = (scan-next, scan-over, scan-fails, scan-gone, scan-ends, rules)

pub returns-then-held_from-eq0 : goal.returns-then-held_from-eq0
returns-then-held_from-eq0 c = search scans

pub returns-in-Ok-false : goal.returns-in-Ok-false
returns-in-Ok-false c = search scans

pub returns-in-Err : goal.returns-in-Err
returns-in-Err c = search scans

pub loop-i-preserved : goal.loop-i-preserved
loop-i-preserved c = search scans

pub returns : goal.returns
returns c = search scans

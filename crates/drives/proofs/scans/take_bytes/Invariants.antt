-- `drives::scans::take_bytes` meets its contract: what is taken and what is yet to come lead to what all of it leads to. Assumes nothing.
use Rattle.drives.proofs.ScanLaws.{Along}
use Rattle.drives.proofs.scans.take_bytes.Given as goal

abbrev pub invariant-loop-b : goal.invariant-loop-b
invariant-loop-b l = Along l.kind l.initial.row l.initial.s l.bytes l.row l.s l.b-index

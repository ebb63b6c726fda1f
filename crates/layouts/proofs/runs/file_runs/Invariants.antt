-- `layouts::runs::file_runs` meets its contract: what is stored and what is left to store are all there is. Assumes nothing.
use Rattle.layouts.proofs.RunListLaws.{Stores}
use Rattle.layouts.proofs.runs.file_runs.Given as goal

abbrev pub invariant-loop-i : goal.invariant-loop-i
invariant-loop-i l = Stores l.image l.initial.l l.initial.row l.row l.l l.n l.i

-- `writers::are_files` meets its contract: each return is a case of `good_files`. Assumes nothing.
use Rattle.std.proofs.Common.{rules}
use Rattle.writers.proofs.CallLaws.{files-many, files-unlike, files-short}
use Rattle.writers.proofs.are_files.Goals as goal
use Rattle.writers.proofs.are_files.Goals.{then-count-le64, else-count-le64}

ruleset own = (files-many, files-unlike, files-short, rules)

pub returns-then-count-lengths : goal.returns-then-count-lengths
returns-then-count-lengths c = elim c.if-count-le64.branch [ then-count-le64 w ↦ search own | else-count-le64 w ↦ search own ]

pub returns-else-count-lengths : goal.returns-else-count-lengths
returns-else-count-lengths c = elim c.if-count-le64.branch [ then-count-le64 w ↦ search own | else-count-le64 w ↦ search own ]

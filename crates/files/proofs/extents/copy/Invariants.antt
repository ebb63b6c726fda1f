-- `files::extents::copy` meets its contract: what is stored and what the rest will store are what the whole stores. Assumes nothing.
use Rattle.chains.specs.Inner.Walks.{weight}
use Rattle.files.proofs.CopyLaws.{Copying}
use Rattle.files.proofs.extents.copy.Given as goal

abbrev pub invariant-loop-next : goal.invariant-loop-next
invariant-loop-next l = Copying l.image l.mount l.kind l.want l.initial.out l.initial.c l.out l.c l.filled

abbrev pub decreases-loop-next : goal.decreases-loop-next
decreases-loop-next l = weight l.c

-- `volumes::openings::kept_answer` meets its contract: the tests say which case of `mountable` holds. Assumes nothing.
use borrow.Author.Tests.{not-true, not-false}
use mathlib.Core.Path.{refl}
use Rattle.disc.proofs.PickLaws.{picks}
use Rattle.volumes.specs.Inner.Steps.{mountable}
use Rattle.volumes.proofs.openings.kept_answer.Goals as goal
use Rattle.volumes.proofs.openings.kept_answer.Goals.{then-not-kept-via-then-not-kept, then-not-kept-via-else-not-kept+then-not-kept-2, then-not-kept-via-else-not-kept+else-not-kept-2+then-not-kept-3}

ruleset tests = (not-true, not-false, refl, picks)

pub returns-then-not-kept : goal.returns-then-not-kept
unfolding mountable
returns-then-not-kept c = elim c.then-not-kept.branch [
  | then-not-kept-via-then-not-kept w ↦ search tests
  | then-not-kept-via-else-not-kept+then-not-kept-2 w ↦ search tests
  | then-not-kept-via-else-not-kept+else-not-kept-2+then-not-kept-3 w ↦ search tests
]

pub returns-then-kept-ne2048 : goal.returns-then-kept-ne2048
unfolding mountable
returns-then-kept-ne2048 c = search tests

pub returns : goal.returns
unfolding mountable
returns c = search tests

-- `directories::walks::walk` meets its contract: every place on the walk leads to the same end. Assumes nothing.
use mathlib.Core.Path.{◌≡◌}
use Prim.Native.Nat.{◌-◌}
use lib.ListN.{length}
use Rattle.disc.specs.Images.{disc}
use Rattle.directories.specs.Inner.WorkSpaces.{path_leaves, place_leaves}
use Rattle.directories.specs.declared.walks.Turn.TheVariants.{Goes}
use Rattle.directories.proofs.WalkLaws.{Walking}
use Rattle.directories.proofs.walks.walk.Given as goal

abbrev pub invariant-loop-next : goal.invariant-loop-next
invariant-loop-next l = Walking (disc l.image) l.matching l.mount (length l.initial.work) l.initial.p.icb l.path l.p × (length l.work ≡ length l.initial.work) × (place_leaves (disc l.image) l.matching l.mount l.path (Goes l.p) l.work ≡ path_leaves (disc l.image) l.matching l.mount l.initial.p.icb l.path l.initial.work)

abbrev pub decreases-loop-next : goal.decreases-loop-next
decreases-loop-next l = length l.path - l.p.from

-- `cue_stacks::stacks::read_items` meets its contract: every place among the items leads to the same. Assumes nothing.
use mathlib.Core.Path.{◌≡◌}
use lib.ListN.{length}
use Rattle.disc.specs.Ran.{ran}
use Rattle.disc.specs.Images.{disc}
use Rattle.directories.specs.Lookups.{read_path_of}
use Rattle.cue_stacks.specs.Inner.Turns.{turns_left}
use Rattle.cue_stacks.proofs.TurnLaws.{Reading}
use Rattle.cue_stacks.proofs.stacks.read_items.Given as goal

abbrev pub invariant-loop-p : goal.invariant-loop-p
invariant-loop-p l =
    Reading (λ path. ran (disc l.image) (read_path_of l.matching l.mount (length l.initial.work) l.root path)) l.paths l.initial.out l.initial.lengths l.initial.answers l.p l.out l.lengths l.answers × (length l.work ≡ length l.initial.work)

abbrev pub decreases-loop-p : goal.decreases-loop-p
decreases-loop-p l = turns_left (length l.paths) l.p

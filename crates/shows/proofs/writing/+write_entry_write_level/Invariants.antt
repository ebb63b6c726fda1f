-- `shows::writing::write_entry` and `shows::writing::write_level` meet their contracts, together: they call each other with the levels left falling, which the
-- writer of an entry takes as one less. Assumes nothing.
use Rattle.std.proofs.Common.{suc, ◌+◌, ◌-◌, ◌*◌, ◌≡◌, ◌≤◌, length, take}
use Rattle.disc.specs.Images.{disc}
use Rattle.shows.specs.Shows.{nodes_at}
use Rattle.shows.proofs.WriteLaws.{Writing}
use Rattle.shows.proofs.writing.+write_entry_write_level.Given as goal

abbrev pub decreases-write_entry : goal.decreases-write_entry
decreases-write_entry l = 2 * l.left + 1

abbrev pub decreases-write_level : goal.decreases-write_level
decreases-write_level l = 2 * l.left

-- whatever writes the rest of the entries from here writes the whole directory
abbrev pub invariant-write_level-loop-at : goal.invariant-write_level-loop-at
invariant-write_level-loop-at l =
    Writing (disc l.image) (nodes_at l.mount l.below (suc l.level) (length l.initial.work - l.n)) l.level (take l.n l.initial.work) l.from l.initial.out l.to l.out l.at
    × (take l.n l.work ≡ take l.n l.initial.work) × (length l.work ≡ length l.initial.work) × (l.n ≤ length l.initial.work)

abbrev pub decreases-write_level-loop-at : goal.decreases-write_level-loop-at
decreases-write_level-loop-at l = l.n + 3 - l.at

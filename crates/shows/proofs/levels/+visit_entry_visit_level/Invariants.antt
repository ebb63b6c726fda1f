-- `shows::levels::visit_entry` and `shows::levels::visit_level` meet their contracts, together: they call each other with the levels left falling, which the
-- visitor of an entry takes as one less. Assumes nothing.
use Rattle.std.proofs.Common.{◌+◌, ◌-◌, ◌*◌, ◌≡◌, ◌≤◌, length, take}
use Rattle.disc.specs.Images.{disc}
use Rattle.shows.specs.Inner.Placings.{node_placed}
use Rattle.shows.proofs.LoopLaws.{Listing, beneath}
use Rattle.shows.proofs.levels.+visit_entry_visit_level.Given as goal

abbrev pub decreases-visit_entry : goal.decreases-visit_entry
decreases-visit_entry l = 2 * l.left + 1

abbrev pub decreases-visit_level : goal.decreases-visit_level
decreases-visit_level l = 2 * l.left

-- whatever visits the rest of the entries from here visits the whole directory
abbrev pub invariant-visit_level-loop-at : goal.invariant-visit_level-loop-at
invariant-visit_level-loop-at l =
    Listing (disc l.image) (node_placed (disc l.image) l.mount l.initial.q.most) (beneath l.mount l.below (length l.initial.work - l.n)) (take l.n l.initial.work) l.initial.q l.initial.tally l.q l.tally l.at
    × (take l.n l.work ≡ take l.n l.initial.work) × (length l.work ≡ length l.initial.work) × (length l.tally ≡ length l.initial.tally) × (l.n ≤ length l.initial.work)

abbrev pub decreases-visit_level-loop-at : goal.decreases-visit_level-loop-at
decreases-visit_level-loop-at l = l.n + 3 - l.at

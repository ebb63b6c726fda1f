-- `shows::whole::show_within` meets its contract: the refusals of the tree, then that of too little room, then the records. Assumes nothing.
use borrow.Author.Rules.{rules}
use Rattle.shows.proofs.ShowLaws.{show-refused, show-full, show-done}
use Rattle.shows.proofs.whole.show_within.Goals as goal

pub returns-then-measured-ne-DONE : goal.returns-then-measured-ne-DONE
returns-then-measured-ne-DONE c = show-refused _ _ _ _ _ _ c.requires.0 c.requires.1 _ c.walk-measured.ensures c.if-measured-ne-DONE.true c.refusal.ensures (search rules)

pub returns-then-out-measured : goal.returns-then-out-measured
returns-then-out-measured c = show-full _ _ _ _ _ _ c.requires.0 c.requires.1 _ c.walk-measured.ensures c.if-measured-ne-DONE.false c.if-out-measured.true c.number.ensures c.refusal-then-out-measured.ensures

pub returns : goal.returns
returns c = show-done _ _ _ _ _ _ c.requires.0 c.requires.1 _ c.walk-measured.ensures c.if-measured-ne-DONE.false c.if-out-measured.false c.well_formed.1.1.1.1.1.0.1 c.work-1.given c.write_level.ensures

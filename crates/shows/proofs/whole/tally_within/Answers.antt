-- `shows::whole::tally_within` meets its contract: no place, the tree refused, its reads over what it left, or its figures. Assumes nothing.
use borrow.Author.Rules.{rules}
use Rattle.shows.proofs.LentLaws.{tallied-none, tallied-refused, tallied-over, tallied-done}
use Rattle.shows.proofs.whole.tally_within.Goals as goal

ruleset tallies = (tallied-none, tallied-refused, tallied-over, rules)

pub returns-then-tally-ne-PLACE : goal.returns-then-tally-ne-PLACE
returns-then-tally-ne-PLACE c = search tallies

pub returns-then-visited-ne-DONE : goal.returns-then-visited-ne-DONE
returns-then-visited-ne-DONE c = search tallies

pub returns-then-left_of-sectors_in : goal.returns-then-left_of-sectors_in
returns-then-left_of-sectors_in c = search tallies

pub returns : goal.returns
returns c = tallied-done _ _ _ _ _ c.args.tally.now c.if-tally-ne-PLACE.false c.clear_figures.ensures c.walk-visited.ensures c.if-visited-ne-DONE.false c.left_of.ensures c.sectors_in.ensures c.if-left_of-sectors_in.false

-- `shows::tallies::tally_file` meets its contract: what the file's sizes tell of it, or nothing any more. Assumes nothing.
use borrow.Author.Rules.{rules}
use Rattle.shows.proofs.TallyLaws.{file-none, file-left}
use Rattle.shows.proofs.tallies.tally_file.Goals as goal

ruleset tallies = (file-none, file-left, rules)

pub returns-then-most-sectors_in : goal.returns-then-most-sectors_in
returns-then-most-sectors_in c = search tallies

pub returns : goal.returns
returns c = search tallies

-- `shows::tallies::tally_entry` meets its contract: nothing where no place is lent, else a directory or a file. Assumes nothing.
use borrow.Author.Rules.{rules}
use Rattle.shows.proofs.TallyLaws.{entry-none, entry-directory, entry-file}
use Rattle.shows.proofs.tallies.tally_entry.Goals as goal

pub returns-then-tally-ne-PLACE : goal.returns-then-tally-ne-PLACE
returns-then-tally-ne-PLACE c = search (entry-none, rules)

pub returns-then-directory : goal.returns-then-directory
returns-then-directory c = search (entry-directory, rules)

pub returns : goal.returns
returns c = search (entry-file, rules)

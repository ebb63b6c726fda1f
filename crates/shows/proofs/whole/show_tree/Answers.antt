-- `shows::whole::show_tree` meets its contract: a number of levels that is 0 or over 16 is refused at once. Assumes nothing.
use borrow.Author.Rules.{rules}
use Rattle.shows.proofs.ShowLaws.{show-zero, show-over}
use Rattle.shows.proofs.whole.show_tree.Goals as goal

pub returns-then-levels-eq0 : goal.returns-then-levels-eq0
returns-then-levels-eq0 c = search (show-zero, rules)

pub returns-then-levels-gt-MOST_LEVELS : goal.returns-then-levels-gt-MOST_LEVELS
returns-then-levels-gt-MOST_LEVELS c = search (show-over, rules)

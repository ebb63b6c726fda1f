-- `shows::whole::tally_tree` meets its contract: the work space is cleared last. Assumes nothing.
use borrow.Author.Rules.{rules}
use Rattle.shows.proofs.LentLaws.{tallied-cleared}
use Rattle.shows.proofs.whole.tally_tree.Goals as goal

pub returns : goal.returns
returns c = search (tallied-cleared, rules)

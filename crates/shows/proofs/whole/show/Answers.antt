-- `shows::whole::show` meets its contract: the work space is cleared last. Assumes nothing.
use borrow.Author.Rules.{rules}
use Rattle.disc.proofs.MoveLaws.{zeros_of}
use Rattle.shows.proofs.whole.show.Goals as goal

pub returns : goal.returns
returns c = record { replied = search rules; work_after = search (zeros_of, rules) }

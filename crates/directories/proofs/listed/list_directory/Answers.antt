-- `directories::listed::list_directory` meets its contract: the work space is cleared last. Assumes nothing.
use borrow.Author.Rules.{rules}
use Rattle.disc.proofs.MoveLaws.{zeros_of}
use Rattle.directories.proofs.listed.list_directory.Goals as goal

pub returns : goal.returns
returns c = record { replied = search rules; work_after = search (zeros_of, rules) }

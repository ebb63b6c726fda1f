-- `directories::spaces::read_directory` meets its contract: a file that does not fit is refused by 6. Assumes nothing.
use borrow.Author.Rules.{rules}
use Rattle.directories.proofs.SpaceLaws.{read-within}
use Rattle.directories.proofs.spaces.read_directory.Goals as goal

ruleset reads = (read-within, rules)

pub read_file-requires : goal.read_file-requires
read_file-requires c = search reads

pub shape_of-work : goal.shape_of-work
shape_of-work c = search reads

pub returns : goal.returns
returns c = search reads

-- `crcs::crc` meets its contract: bytes behind none. Assumes nothing.
use borrow.Author.Rules.{rules}
use Rattle.crcs.specs.Crcs.{crc_of}
use Rattle.crcs.proofs.crc.Goals as goal

pub returns : goal.returns
unfolding crc_of
returns c = search rules

-- `volumes::openings::file_set_on` meets its contract: where the file set descriptor stands says which case of the definition holds. Assumes nothing.
use borrow.Author.Rules.{rules}
use Rattle.volumes.proofs.OpeningLaws.{mount-nowhere}
use Rattle.volumes.proofs.openings.file_set_on.Goals as goal

pub returns-in-None : goal.returns-in-None
returns-in-None c = search (mount-nowhere, rules)

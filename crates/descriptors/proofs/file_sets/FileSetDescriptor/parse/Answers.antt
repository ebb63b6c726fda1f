-- `descriptors::file_sets::FileSetDescriptor::parse` meets its contract: the gate's answer says which case of the definition holds. Assumes nothing.
use borrow.Author.Rules.{rules}
use Rattle.disc.proofs.PassLaws.{passed}
use Rattle.descriptors.proofs.FileSetLaws.{file-set-no, file-set-yes}
use Rattle.descriptors.proofs.file_sets.FileSetDescriptor.parse.Goals as goal

pub returns-in_err-t : goal.returns-in_err-t
returns-in_err-t c = passed c.from_residual.ensures.1 (file-set-no _ _ c.read_head.ensures c.in_err-t.was)

pub returns : goal.returns
returns c = search (file-set-yes, rules)

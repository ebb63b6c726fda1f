-- `tags::AllocationExtentDescriptor::parse` meets its contract: the gate's answer says which case of `read_aed` holds. Assumes nothing.
use borrow.Author.Rules.{rules}
use Rattle.disc.proofs.PassLaws.{passed}
use Rattle.tags.proofs.HeadLaws.{aed-no, aed-yes}
use Rattle.tags.proofs.AllocationExtentDescriptor.parse.Goals as goal

ruleset headers = (passed, aed-no, aed-yes, rules)

pub returns : goal.returns
returns c = search headers

pub returns-in_err-t : goal.returns-in_err-t
returns-in_err-t c = passed c.from_residual.ensures.1 (aed-no _ _ c.read_head.ensures c.in_err-t.was)

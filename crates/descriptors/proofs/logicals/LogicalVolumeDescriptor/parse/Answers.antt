-- `descriptors::logicals::LogicalVolumeDescriptor::parse` meets its contract: the gate's answer says which case of the definition holds. Assumes nothing.
use borrow.Author.Rules.{rules}
use Rattle.disc.proofs.PassLaws.{passed}
use Rattle.tags.proofs.HeadLaws.{head-long}
use Rattle.descriptors.proofs.VolumeLaws.{logical-no, logical-yes}
use Rattle.descriptors.proofs.logicals.LogicalVolumeDescriptor.parse.Goals as goal

pub logical_behind-requires : goal.logical_behind-requires
logical_behind-requires c = search (head-long, rules)

pub returns-in_err-read_head : goal.returns-in_err-read_head
returns-in_err-read_head c = passed c.from_residual.ensures.1 (logical-no _ _ c.read_head.ensures c.in_err-read_head.was)

pub returns : goal.returns
returns c = logical-yes _ _ c.read_head.ensures c.in_ok-read_head.was c.logical_behind.ensures

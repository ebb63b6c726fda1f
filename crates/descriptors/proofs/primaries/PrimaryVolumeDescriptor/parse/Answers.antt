-- `descriptors::primaries::PrimaryVolumeDescriptor::parse` meets its contract: the gate's answer says which case of the definition holds. Assumes nothing.
use borrow.Author.Rules.{rules}
use Rattle.disc.proofs.PassLaws.{passed}
use Rattle.tags.proofs.HeadLaws.{head-long}
use Rattle.descriptors.proofs.VolumeLaws.{primary-no, primary-yes}
use Rattle.descriptors.proofs.primaries.PrimaryVolumeDescriptor.parse.Goals as goal

pub primary_behind-requires : goal.primary_behind-requires
primary_behind-requires c = search (head-long, rules)

pub returns-in_err-read_head : goal.returns-in_err-read_head
returns-in_err-read_head c = passed c.from_residual.ensures.1 (primary-no _ _ c.read_head.ensures c.in_err-read_head.was)

pub returns : goal.returns
returns c = primary-yes _ _ c.read_head.ensures c.in_ok-read_head.was c.primary_behind.ensures

-- `descriptors::partitions::PartitionDescriptor::parse` meets its contract: the gate's answer says which case of the definition holds. Assumes nothing.
use borrow.Author.Rules.{rules}
use Rattle.disc.proofs.PassLaws.{passed}
use Rattle.descriptors.proofs.VolumeLaws.{partition-no, partition-yes}
use Rattle.descriptors.proofs.partitions.PartitionDescriptor.parse.Goals as goal

pub returns-in_err-t : goal.returns-in_err-t
returns-in_err-t c = passed c.from_residual.ensures.1 (partition-no _ _ c.read_head.ensures c.in_err-t.was)

pub returns : goal.returns
returns c = search (partition-yes, rules)

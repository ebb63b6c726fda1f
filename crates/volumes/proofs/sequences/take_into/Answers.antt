-- `volumes::sequences::take_into` meets its contract: the id says which case of the definition holds. Assumes nothing.
use borrow.Author.Rules.{rules}
use Rattle.volumes.proofs.TurnLaws.{went, failed, id-primary, id-partition, id-logical, id-terminating, id_other}
use Rattle.volumes.proofs.sequences.take_into.Goals as goal

ruleset ids = (went, failed, id-primary, id-partition, id-logical, id-terminating, id_other, rules)

pub returns-in_ok-take_primary-in-1 : goal.returns-in_ok-take_primary-in-1
returns-in_ok-take_primary-in-1 c = search ids

pub returns-in_err-take_primary-in-1 : goal.returns-in_err-take_primary-in-1
returns-in_err-take_primary-in-1 c = search ids

pub returns-in_ok-take_partition-in-5 : goal.returns-in_ok-take_partition-in-5
returns-in_ok-take_partition-in-5 c = search ids

pub returns-in_err-take_partition-in-5 : goal.returns-in_err-take_partition-in-5
returns-in_err-take_partition-in-5 c = search ids

pub returns-in_ok-take_logical-in-6 : goal.returns-in_ok-take_logical-in-6
returns-in_ok-take_logical-in-6 c = search ids

pub returns-in_err-take_logical-in-6 : goal.returns-in_err-take_logical-in-6
returns-in_err-take_logical-in-6 c = search ids

pub returns-in-8 : goal.returns-in-8
returns-in-8 c = search ids

pub returns-in_default : goal.returns-in_default
returns-in_default c = search ids

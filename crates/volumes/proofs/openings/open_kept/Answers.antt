-- `volumes::openings::open_kept` meets its contract: how the volume is read says which case of the definition holds. Assumes nothing.
use borrow.Author.Rules.{rules}
use Rattle.volumes.proofs.OpeningLaws.{mount-refused, mount-leads}
use Rattle.volumes.proofs.openings.open_kept.Goals as goal

ruleset mounts = (mount-refused, mount-leads, rules)

pub returns-in-Err : goal.returns-in-Err
returns-in-Err c = search mounts

pub returns-in-Ok : goal.returns-in-Ok
returns-in-Ok c = search mounts

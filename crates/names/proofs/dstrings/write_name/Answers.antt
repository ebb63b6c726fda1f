-- `names::dstrings::write_name` meets its contract: the name is refused, has no room, or is written. Assumes nothing.
use borrow.Author.Rules.{rules}
use Rattle.names.proofs.WriteLaws.{wrote_none, wrote-full, wrote-all}
use Rattle.names.proofs.dstrings.write_name.Goals as goal

ruleset writes = (wrote_none, wrote-full, wrote-all, rules)

pub returns-then-out-n : goal.returns-then-out-n
returns-then-out-n c = search writes

pub returns-in-Err : goal.returns-in-Err
returns-in-Err c = search writes

pub returns-else-out-n : goal.returns-else-out-n
returns-else-out-n c = search writes

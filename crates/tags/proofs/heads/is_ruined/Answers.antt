-- `tags::heads::is_ruined` meets its contract: by the tag, and the body behind it. Assumes nothing.
use borrow.Author.Rules.{rules}
use Rattle.tags.proofs.HeadLaws.{ruined-not, ruined-by}
use Rattle.tags.proofs.heads.is_ruined.Goals as goal

ruleset ruins = (ruined-not, ruined-by, rules)

pub returns-in-Err : goal.returns-in-Err
returns-in-Err c = search ruins

pub returns-in-Ok : goal.returns-in-Ok
returns-in-Ok c = search ruins

-- `tags::heads::read_head` meets its contract: each return is a case of `read_head`. Assumes nothing.
use borrow.Author.Rules.{rules}
use Rattle.tags.proofs.HeadLaws.{head-short, head_plain, head-ruined, head-right}
use Rattle.tags.proofs.heads.read_head.Goals as goal
use Rattle.tags.proofs.heads.read_head.Goals.{then-check+then-id-lt256+else-is_ruined, then-check+else-id-lt256+else-is_ruined-2, else-check}

ruleset heads = (head-short, head_plain, head-ruined, head-right, rules)

pub returns-then-s-size : goal.returns-then-s-size
returns-then-s-size c = search heads

pub returns-then-is_ruined : goal.returns-then-is_ruined
returns-then-is_ruined c = search heads

pub returns-then-is_ruined-2 : goal.returns-then-is_ruined-2
returns-then-is_ruined-2 c = search heads

pub returns : goal.returns
returns c = elim c.if-check.branch [ then-check+then-id-lt256+else-is_ruined w ↦ search heads | then-check+else-id-lt256+else-is_ruined-2 w ↦ search heads | else-check w ↦ search heads ]

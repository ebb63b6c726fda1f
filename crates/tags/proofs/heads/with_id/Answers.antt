-- `tags::heads::with_id` meets its contract: each return is a case of `with_id`. Assumes nothing.
use borrow.Author.Rules.{rules}
use Rattle.tags.proofs.HeadLaws.{id-refused, id_other, id_same}
use Rattle.tags.proofs.heads.with_id.Goals as goal

ruleset ids = (id-refused, id_other, id_same, rules)

pub returns-then-t-id : goal.returns-then-t-id
returns-then-t-id c = search ids

pub returns-in_err-t : goal.returns-in_err-t
returns-in_err-t c = search ids

pub returns : goal.returns
returns c = search ids

-- `writers::namings::is_ended` meets its contract: the last byte tells. Assumes nothing.
use Rattle.std.proofs.Common.{rules}
use borrow.Author.Tests.{tests}
use Rattle.writers.proofs.NameLaws.{ended-is}
use Rattle.writers.proofs.namings.is_ended.Goals as goal

pub returns : goal.returns
returns c = ended-is (λ x k. search (rules, tests)) c.args.names.now c.last.result c.last.ensures.value c.is_none_or.ensures

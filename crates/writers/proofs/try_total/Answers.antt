-- `writers::try_total` meets its contract: each return is a case of `total_of`. Assumes nothing.
use Rattle.std.proofs.Common.{rules}
use borrow.Author.Tests.{not-true, not-false}
use Rattle.writers.proofs.CallLaws.{total-bad, total-files, total-done, good-few}
use Rattle.writers.proofs.try_total.Goals as goal

ruleset own = (total-bad, total-files, total-done, good-few, not-true, not-false, rules)

pub returns-then-not-are_good : goal.returns-then-not-are_good
returns-then-not-are_good c = search own

pub returns-then-not-are_files : goal.returns-then-not-are_files
returns-then-not-are_files c = search own

pub blocks_of-requires : goal.blocks_of-requires
blocks_of-requires c = good-few c.args.names.now c.args.lengths.now c.are_files.ensures c.if-not-are_files.false

pub returns : goal.returns
returns c = search own

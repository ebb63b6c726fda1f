-- `directories::walks::beyond` meets its contract: by the two tests. Assumes nothing.
use borrow.Author.Rules.{rules}
use borrow.Author.Tests.{not-true, not-false}
use Rattle.directories.proofs.WalkLaws.{beyond-refused, beyond-lost, beyond-on}
use Rattle.directories.proofs.walks.beyond.Goals as goal

ruleset goes = (beyond-refused, beyond-lost, beyond-on, not-true, not-false, rules)

pub no_long-requires : goal.no_long-requires
no_long-requires c = search goes

pub stopped-requires : goal.stopped-requires
stopped-requires c = search goes

pub returns-then-entry-ne-DONE : goal.returns-then-entry-ne-DONE
returns-then-entry-ne-DONE c = search goes

pub lost-requires : goal.lost-requires
lost-requires c = search goes

pub returns-then-not-entry : goal.returns-then-not-entry
returns-then-not-entry c = search goes

pub returns : goal.returns
returns c = search goes

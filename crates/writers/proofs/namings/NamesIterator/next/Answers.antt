-- `Names::next` meets the contract of an iterator: the first name, and what is left behind it. Assumes nothing.
use Rattle.std.proofs.Common.{rules}
use Rattle.writers.proofs.NameLaws.{name-split, names-none}
use Rattle.writers.proofs.namings.NamesIterator.next.Goals as goal

ruleset own = (name-split, names-none, rules)

pub returns-then-is_empty-clause-steps : goal.returns-then-is_empty-clause-steps
returns-then-is_empty-clause-steps c = search own

pub returns-clause-steps : goal.returns-clause-steps
returns-clause-steps c = search own

pub returns-clause-goes : goal.returns-clause-goes
returns-clause-goes c = search own

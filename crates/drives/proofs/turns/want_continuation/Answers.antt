use borrow.Author.Rules.{rules}
use Rattle.drives.proofs.TurnLaws.{continue-short, continue-long, continue-at}
use Rattle.drives.proofs.turns.want_continuation.Goals as goal

ruleset wants = (continue-short, continue-long, continue-at, rules)

pub over-requires : goal.over-requires
over-requires c = search wants

pub returns-then-length-lt-HEADER : goal.returns-then-length-lt-HEADER
returns-then-length-lt-HEADER c = search wants

pub over-requires-then-length-gt-LONGEST : goal.over-requires-then-length-gt-LONGEST
over-requires-then-length-gt-LONGEST c = search wants

pub returns-then-length-gt-LONGEST : goal.returns-then-length-gt-LONGEST
returns-then-length-gt-LONGEST c = search wants

pub sectors_for-requires : goal.sectors_for-requires
sectors_for-requires c = search wants

pub overflow_sub-x : goal.overflow_sub-x
overflow_sub-x c = search wants

pub overflow_cast-x : goal.overflow_cast-x
overflow_cast-x c = search wants

pub overflow_sub-x-2 : goal.overflow_sub-x-2
overflow_sub-x-2 c = search wants

pub returns : goal.returns
returns c = search wants

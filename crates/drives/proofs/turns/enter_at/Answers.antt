use borrow.Author.Rules.{rules}
use Rattle.drives.proofs.TurnLaws.{at_done, at-skips, at_some}
use Rattle.drives.proofs.turns.enter_at.Goals as goal

ruleset enters = (at_done, at-skips, at_some, rules)

pub returns-then-r-eq0 : goal.returns-then-r-eq0
returns-then-r-eq0 c = search enters

pub returns-then-size-eq0 : goal.returns-then-size-eq0
returns-then-size-eq0 c = search enters

pub overflow_sub-x : goal.overflow_sub-x
overflow_sub-x c = search enters

pub overflow_cast-x : goal.overflow_cast-x
overflow_cast-x c = search enters

pub returns : goal.returns
returns c = search enters

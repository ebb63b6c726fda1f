use borrow.Author.Rules.{rules}
use Rattle.drives.proofs.TurnLaws.{accept-refused, accept-full, accept-continues, accept-ends}
use Rattle.drives.proofs.turns.accept.Goals as goal

ruleset accepts = (accept-refused, accept-full, accept-continues, accept-ends, rules)

pub over-requires : goal.over-requires
over-requires c = search accepts

pub returns-then-s-gt2 : goal.returns-then-s-gt2
returns-then-s-gt2 c = search accepts

pub over-requires-then-s : goal.over-requires-then-s
over-requires-then-s c = search accepts

pub returns-then-s : goal.returns-then-s
returns-then-s c = search accepts

pub continue_chain-requires : goal.continue_chain-requires
continue_chain-requires c = search accepts

pub returns-then-s-eq2 : goal.returns-then-s-eq2
returns-then-s-eq2 c = search accepts

pub find_extent-requires : goal.find_extent-requires
find_extent-requires c = search accepts

pub returns : goal.returns
returns c = search accepts

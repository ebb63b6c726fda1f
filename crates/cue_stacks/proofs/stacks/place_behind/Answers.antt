-- `cue_stacks::stacks::place_behind` meets its contract: going on where there is another zero, and another place in both rows. Assumes nothing.
use borrow.Author.Rules.{rules}
use Rattle.cue_stacks.proofs.TurnLaws.{behind-last, behind-next, next_fits}
use Rattle.cue_stacks.proofs.stacks.place_behind.Goals as goal

ruleset behinds = (behind-last, behind-next, next_fits, rules)

pub overflow_add-next : goal.overflow_add-next
overflow_add-next c = search behinds

pub returns-then-is_last : goal.returns-then-is_last
returns-then-is_last c = search behinds

pub returns-else-is_last : goal.returns-else-is_last
returns-else-is_last c = search behinds

-- Written out, so that a wrong `is_last` is refused here and not where it is called.
use borrow.Author.Rules.{rules}
use Rattle.cue_stacks.specs.Inner.Turns.{is_last}
use Rattle.cue_stacks.proofs.stacks.is_last.Goals as goal

pub returns : goal.returns
unfolding is_last
returns c = search rules

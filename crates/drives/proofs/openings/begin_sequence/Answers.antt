use borrow.Author.Rules.{rules}
use Rattle.drives.proofs.OpeningLaws.{begin-none, begin-some}
use Rattle.drives.proofs.openings.begin_sequence.Goals as goal

ruleset begins = (begin-none, begin-some, rules)

pub nothing_kept-kept-requires : goal.nothing_kept-kept-requires
nothing_kept-kept-requires c = search begins

pub behind_sequence-requires : goal.behind_sequence-requires
behind_sequence-requires c = search begins

pub returns-then-n-eq0 : goal.returns-then-n-eq0
returns-then-n-eq0 c = search begins

pub overflow_sub-n : goal.overflow_sub-n
overflow_sub-n c = search begins

pub wanting-requires : goal.wanting-requires
wanting-requires c = search begins

pub returns : goal.returns
returns c = search begins

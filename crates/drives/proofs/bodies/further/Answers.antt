use borrow.Author.Rules.{rules}
use Rattle.drives.proofs.BodyLaws.{further-last, further-next}
use Rattle.drives.proofs.bodies.further.Goals as goal

ruleset furthers = (further-last, further-next, rules)

pub finish-requires : goal.finish-requires
finish-requires c = search furthers

pub returns-then-r-eq0 : goal.returns-then-r-eq0
returns-then-r-eq0 c = search furthers

pub overflow_add-x : goal.overflow_add-x
overflow_add-x c = search furthers

pub overflow_sub-x : goal.overflow_sub-x
overflow_sub-x c = search furthers

pub returns : goal.returns
returns c = search furthers

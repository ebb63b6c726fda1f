-- `cue_stacks::stacks::read_all` meets its contract: 12 where the rows have too few places, else every item is read. Assumes nothing.
use borrow.Author.Rules.{rules}
use Rattle.disc.proofs.MoveLaws.{zeros_of}
use Rattle.cue_stacks.proofs.TurnLaws.{all-refused, some-places, all_read_lem}
use Rattle.cue_stacks.proofs.stacks.read_all.Goals as goal

ruleset reads = (zeros_of, all-refused, some-places, all_read_lem, rules)

pub items_behind-behind-requires : goal.items_behind-behind-requires
items_behind-behind-requires c = search reads

pub min-requires : goal.min-requires
min-requires c = search reads

pub clear-requires : goal.clear-requires
clear-requires c = search reads

pub number-requires : goal.number-requires
number-requires c = search reads

pub refusal-requires : goal.refusal-requires
refusal-requires c = search reads

pub shape_of-work-then-min-behind : goal.shape_of-work-then-min-behind
shape_of-work-then-min-behind c = search reads

pub returns-then-min-behind : goal.returns-then-min-behind
returns-then-min-behind c = record { answers_after = search reads; work_after = search reads }

pub clear-requires-2 : goal.clear-requires-2
clear-requires-2 c = search reads

pub shape_of-out : goal.shape_of-out
shape_of-out c = search reads

pub shape_of-lengths : goal.shape_of-lengths
shape_of-lengths c = search reads

pub shape_of-answers : goal.shape_of-answers
shape_of-answers c = search reads

pub shape_of-work : goal.shape_of-work
shape_of-work c = search reads

pub returns : goal.returns
returns c = record { answers_after = search reads; work_after = search reads }

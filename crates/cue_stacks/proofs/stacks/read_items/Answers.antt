-- `cue_stacks::stacks::read_items` meets its contract: every place among the items leads to the same. Assumes nothing.
use borrow.Author.Rules.{rules}
use Rattle.cue_stacks.proofs.TurnLaws.{read-starts, read-on, read-ends}
use Rattle.cue_stacks.proofs.stacks.read_items.Goals as goal

ruleset reads = (read-starts, read-ends, rules)

pub loop-p-init : goal.loop-p-init
loop-p-init c = search reads

pub read_item-p-requires : goal.read_item-p-requires
read_item-p-requires c = search reads

pub loop-p-smaller : goal.loop-p-smaller
loop-p-smaller c = search reads

pub loop-p-preserved : goal.loop-p-preserved
loop-p-preserved c = (read-on _ _ _ _ _ _ _ _ c.loop-p.invariant.1 c.loop-p.invariant.0 c.read_item-p.ensures, search rules)

pub shape_of-out : goal.shape_of-out
shape_of-out c = search reads

pub shape_of-lengths : goal.shape_of-lengths
shape_of-lengths c = search reads

pub shape_of-answers : goal.shape_of-answers
shape_of-answers c = search reads

pub shape_of-work : goal.shape_of-work
shape_of-work c = search reads

pub returns : goal.returns
returns c = search reads

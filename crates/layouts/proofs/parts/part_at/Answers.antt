-- `layouts::parts::part_at` meets its contract: refused, in extents, or embedded. Assumes nothing.
use borrow.Author.Rules.{rules}
use Rattle.layouts.proofs.PartLaws.{part-refused, place-refused, part_out, place_out, part_in_lem, place_in}
use Rattle.layouts.proofs.parts.part_at.Goals as goal

ruleset parts = (part-refused, place-refused, part_out, place_out, part_in_lem, place_in, rules)

pub resolve-requires : goal.resolve-requires
resolve-requires c = search parts

pub number-requires : goal.number-requires
number-requires c = search parts

pub refusal-requires : goal.refusal-requires
refusal-requires c = search parts

pub returns-in-Err : goal.returns-in-Err
returns-in-Err c = search parts

pub returns-in-Ok-Chained : goal.returns-in-Ok-Chained
returns-in-Ok-Chained c = search parts

pub returns-in-Ok-Embedded : goal.returns-in-Ok-Embedded
returns-in-Ok-Embedded c = search parts

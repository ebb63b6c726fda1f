-- `names::fields::write_field` meets its contract: a law for each length. Assumes nothing.
use borrow.Author.Rules.{rules}
use Rattle.names.proofs.NameLaws.{front_long, front-wrote, front-left}
use Rattle.names.proofs.fields.write_field.Goals as goal

ruleset fronts = (front_long, front-wrote, front-left, rules)

pub measured-requires : goal.measured-requires
measured-requires c = search fronts

pub enum_known-n : goal.enum_known-n
enum_known-n c = search fronts

pub slice_bounds-write_name-end : goal.slice_bounds-write_name-end
slice_bounds-write_name-end c = search fronts

pub write_name-requires : goal.write_name-requires
write_name-requires c = search fronts

pub enum_told-1 : goal.enum_told-1
enum_told-1 c = search fronts

pub refusal-requires : goal.refusal-requires
refusal-requires c = search fronts

pub shape_of-out : goal.shape_of-out
shape_of-out c = search fronts

pub returns-in-Some : goal.returns-in-Some
returns-in-Some c = search fronts

pub returns-in-None : goal.returns-in-None
returns-in-None c = search fronts

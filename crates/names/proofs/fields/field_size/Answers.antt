-- `names::fields::field_size` meets its contract: a law for each length. Assumes nothing.
use borrow.Author.Rules.{rules}
use Rattle.names.proofs.NameLaws.{front_long, front-size, front-none}
use Rattle.names.proofs.fields.field_size.Goals as goal

ruleset fronts = (front_long, front-size, front-none, rules)

pub measured-requires : goal.measured-requires
measured-requires c = search fronts

pub enum_known-n : goal.enum_known-n
enum_known-n c = search fronts

pub slice_bounds-name_size-end : goal.slice_bounds-name_size-end
slice_bounds-name_size-end c = search fronts

pub name_size-requires : goal.name_size-requires
name_size-requires c = search fronts

pub enum_told-1 : goal.enum_told-1
enum_told-1 c = search fronts

pub returns-in-Some : goal.returns-in-Some
returns-in-Some c = search fronts

pub returns-in-None : goal.returns-in-None
returns-in-None c = search fronts

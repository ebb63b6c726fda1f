-- `names::dstrings::put_name` meets its contract: a law for each form. Assumes nothing.
use borrow.Author.Rules.{rules}
use Rattle.names.proofs.NameLaws.{has_body, write-empty, write-units, write-bad}
use Rattle.names.proofs.dstrings.put_name.Goals as goal

ruleset writes = (has_body, write-empty, write-units, write-bad, rules)

pub form_of-requires : goal.form_of-requires
form_of-requires c = search writes

pub enum_told-1 : goal.enum_told-1
enum_told-1 c = search writes

pub enum_known-step : goal.enum_known-step
enum_known-step c = search writes

pub put_text-requires : goal.put_text-requires
put_text-requires c = search writes

pub enum_told-in-Bad : goal.enum_told-in-Bad
enum_told-in-Bad c = search writes

pub returns-in-Empty : goal.returns-in-Empty
returns-in-Empty c = search writes

pub shape_of-out : goal.shape_of-out
shape_of-out c = search writes

pub returns-in-Units : goal.returns-in-Units
returns-in-Units c = search writes

pub returns-in-Bad : goal.returns-in-Bad
returns-in-Bad c = search writes

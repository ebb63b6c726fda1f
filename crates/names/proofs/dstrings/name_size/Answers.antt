-- `names::dstrings::name_size` meets its contract: a law for each form. Assumes nothing.
use borrow.Author.Rules.{rules}
use Rattle.names.proofs.NameLaws.{has_body, size-empty, size-units, size-bad}
use Rattle.names.proofs.dstrings.name_size.Goals as goal

ruleset sizes = (has_body, size-empty, size-units, size-bad, rules)

pub form_of-requires : goal.form_of-requires
form_of-requires c = search sizes

pub enum_told-1 : goal.enum_told-1
enum_told-1 c = search sizes

pub enum_known-step : goal.enum_known-step
enum_known-step c = search sizes

pub text_size-requires : goal.text_size-requires
text_size-requires c = search sizes

pub enum_told-in-Bad : goal.enum_told-in-Bad
enum_told-in-Bad c = search sizes

pub returns-in-Empty : goal.returns-in-Empty
returns-in-Empty c = search sizes

pub returns-in-Units : goal.returns-in-Units
returns-in-Units c = search sizes

pub returns-in-Bad : goal.returns-in-Bad
returns-in-Bad c = search sizes

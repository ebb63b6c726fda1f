-- `names::dstrings::form_of` meets its contract: a law for each compression id. Assumes nothing.
use borrow.Author.Rules.{rules}
use Rattle.names.proofs.NameLaws.{form-empty, form-none, form-bytes, form-odd, form-pairs, form-bad}
use Rattle.names.proofs.dstrings.form_of.Goals as goal

ruleset forms = (form-empty, form-none, form-bytes, form-odd, form-pairs, form-bad, rules)

pub returns-then-s-eq0 : goal.returns-then-s-eq0
returns-then-s-eq0 c = search forms

pub returns-then-is_nameless : goal.returns-then-is_nameless
returns-then-is_nameless c = search forms

pub returns-then-id-eq8 : goal.returns-then-id-eq8
returns-then-id-eq8 c = search forms

pub returns-then-s-eq0-2 : goal.returns-then-s-eq0-2
returns-then-s-eq0-2 c = search forms

pub returns-then-id-eq16 : goal.returns-then-id-eq16
returns-then-id-eq16 c = search forms

pub returns : goal.returns
returns c = search forms

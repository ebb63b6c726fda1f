-- `names::fields::measured` meets its contract: a law for each answer. Assumes nothing.
use borrow.Author.Rules.{rules}
use Rattle.names.proofs.NameLaws.{field-empty, field-bad, field-front}
use Rattle.names.proofs.fields.measured.Goals as goal

ruleset fields = (field-empty, field-bad, field-front, rules)

pub returns-then-f-eq0 : goal.returns-then-f-eq0
returns-then-f-eq0 c = search fields

pub returns-then-last-n : goal.returns-then-last-n
returns-then-last-n c = search fields

pub returns : goal.returns
returns c = search fields

-- `names::matching::is_named` meets its contract: a law for each form. Assumes nothing.
use borrow.Author.Rules.{rules}
use Rattle.names.proofs.NameLaws.{has_body}
use Rattle.names.proofs.MatchLaws.{named-long, named-bad, named-empty, named-text}
use Rattle.names.proofs.matching.is_named.Goals as goal

ruleset matches = (named-long, named-bad, named-empty, has_body, named-text, rules)

pub returns-then-s-gt255 : goal.returns-then-s-gt255
returns-then-s-gt255 c = search matches

pub returns-in-Bad : goal.returns-in-Bad
returns-in-Bad c = search matches

pub returns-in-Empty : goal.returns-in-Empty
returns-in-Empty c = search matches

pub returns-in-Units : goal.returns-in-Units
returns-in-Units c = search matches

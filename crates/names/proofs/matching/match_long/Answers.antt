-- `names::matching::match_long` meets its contract: a law for each byte at which the comparison ends. Assumes nothing.
use borrow.Author.Rules.{rules}
use borrow.Author.Tests.{not-true, not-false}
use Rattle.names.proofs.MatchLaws.{two-stop, two-go, three-stop, three-stop-later, three-go}
use Rattle.names.proofs.matching.match_long.Goals as goal

ruleset longs = (two-stop, two-go, three-stop, three-stop-later, three-go, not-true, not-false, rules)

pub returns-then-not-p : goal.returns-then-not-p
returns-then-not-p c = search longs

pub returns-then-u-lt2048 : goal.returns-then-u-lt2048
returns-then-u-lt2048 c = search longs

pub returns-then-not-p-2 : goal.returns-then-not-p-2
returns-then-not-p-2 c = search longs

pub returns-then-not-q : goal.returns-then-not-q
returns-then-not-q c = search longs

pub returns : goal.returns
returns c = search longs

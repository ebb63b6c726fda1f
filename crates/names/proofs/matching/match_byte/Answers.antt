-- `names::matching::match_byte` meets its contract: past the component's end, and before it. Assumes nothing.
use borrow.Author.Rules.{rules}
use Rattle.names.proofs.MatchLaws.{byte-none, byte-some}
use Rattle.names.proofs.matching.match_byte.Goals as goal

ruleset bytes = (byte-none, byte-some, rules)

pub returns-then-t-at : goal.returns-then-t-at
returns-then-t-at c = search bytes

pub returns : goal.returns
returns c = search bytes

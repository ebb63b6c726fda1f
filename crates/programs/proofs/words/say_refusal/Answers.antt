-- `programs::words::say_refusal` meets its contract: the number is the refusal's. Assumes nothing.
use borrow.Author.Rules.{rules}
use Rattle.programs.proofs.WordLaws.{decimal-same}
use Rattle.programs.proofs.words.say_refusal.Goals as goal

ruleset digits = (decimal-same, rules)

pub returns : goal.returns
returns c = search digits

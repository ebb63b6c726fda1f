-- `programs::words::say_partition` meets its contract: each return is a case of `PartitionDigits`. Assumes nothing.
use borrow.Author.Rules.{rules}
use Rattle.programs.proofs.WordLaws.{unnamed-digits, named-digits}
use Rattle.programs.proofs.words.say_partition.Goals as goal

ruleset digits = (unnamed-digits, named-digits, rules)

pub returns-in-Some : goal.returns-in-Some
returns-in-Some c = search digits

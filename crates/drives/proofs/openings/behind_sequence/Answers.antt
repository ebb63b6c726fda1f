use borrow.Author.Rules.{rules}
use Rattle.drives.proofs.OpeningLaws.{sequence-not, sequence-nowhere, sequence-at}
use Rattle.drives.proofs.openings.behind_sequence.Goals as goal

ruleset places = (sequence-not, sequence-nowhere, sequence-at, rules)

pub returns-in-Err : goal.returns-in-Err
returns-in-Err c = search places

pub returns-in-None : goal.returns-in-None
returns-in-None c = search places

pub returns-in-Some : goal.returns-in-Some
returns-in-Some c = search places

-- `chains::continuations::next_area` meets its contract: where it stands, and its checks. Assumes nothing.
use borrow.Author.Rules.{rules}
use Rattle.disc.proofs.PlaceLaws.{stands-low}
use Rattle.chains.proofs.FollowLaws.{next-nowhere, next-there}
use Rattle.chains.proofs.continuations.next_area.Goals as goal

ruleset nexts = (next-nowhere, next-there, stands-low, rules)

pub returns-in-None : goal.returns-in-None
returns-in-None c = search nexts

pub returns-in-Some : goal.returns-in-Some
returns-in-Some c = search nexts

-- `files::icbs::locate` meets its contract: the ICB's length, its place, the entry. Assumes nothing.
use borrow.Author.Rules.{rules}
use Rattle.disc.proofs.PlaceLaws.{in-low}
use Rattle.files.proofs.EntryLaws.{locate-zero, locate-nowhere, locate-at}
use Rattle.files.proofs.icbs.locate.Goals as goal

ruleset locates = (locate-zero, locate-nowhere, locate-at, in-low, rules)

pub returns-then-icb-eq0 : goal.returns-then-icb-eq0
returns-then-icb-eq0 c = search locates

pub returns-in-None : goal.returns-in-None
returns-in-None c = search locates

pub returns-in-Some : goal.returns-in-Some
returns-in-Some c = search locates

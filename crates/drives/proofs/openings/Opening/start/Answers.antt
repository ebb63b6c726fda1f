use borrow.Author.Rules.{rules}
use Rattle.drives.proofs.OpeningLaws.{stands-anchor}
use Rattle.drives.proofs.StartLaws.{anchor-is}
use Rattle.drives.proofs.openings.Opening.start.Goals as goal

ruleset starts = (stands-anchor, anchor-is, rules)

pub nothing_kept-requires : goal.nothing_kept-requires
nothing_kept-requires c = search starts

pub wanting-requires : goal.wanting-requires
wanting-requires c = search starts

pub returns : goal.returns
returns c = search starts

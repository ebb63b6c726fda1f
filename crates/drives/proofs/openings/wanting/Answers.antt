use borrow.Author.Rules.{rules}
use Rattle.drives.proofs.OpeningLaws.{place_is}
use Rattle.drives.proofs.openings.wanting.Goals as goal

ruleset places = (place_is, rules)

pub refused-requires : goal.refused-requires
refused-requires c = search places

pub returns : goal.returns
returns c = search places

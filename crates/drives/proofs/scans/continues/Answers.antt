use borrow.Author.Rules.{rules}
use Rattle.drives.proofs.ScanLaws.{continues-is}
use Rattle.drives.proofs.scans.continues.Goals as goal

ruleset closes = (continues-is, rules)

pub number_in-requires : goal.number_in-requires
number_in-requires c = search closes

pub returns : goal.returns
returns c = search closes

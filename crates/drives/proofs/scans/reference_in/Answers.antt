use borrow.Author.Rules.{rules}
use Rattle.drives.proofs.ScanLaws.{reference-low, reference-high}
use Rattle.drives.proofs.scans.reference_in.Goals as goal

ruleset refs = (reference-low, reference-high, rules)

pub overflow_cast-result : goal.overflow_cast-result
overflow_cast-result c = search refs

pub returns-then-n-lt65536 : goal.returns-then-n-lt65536
returns-then-n-lt65536 c = search refs

pub returns : goal.returns
returns c = search refs

use borrow.Author.Rules.{rules}
use Rattle.drives.proofs.ScanLaws.{reference-unnamed, reference-named}
use Rattle.drives.proofs.scans.number_in.Goals as goal

ruleset refs = (reference-unnamed, reference-named, rules)

pub enum_told-1 : goal.enum_told-1
enum_told-1 c = search refs

pub enum_known-r : goal.enum_known-r
enum_known-r c = search refs

pub overflow_cast-result : goal.overflow_cast-result
overflow_cast-result c = search refs

pub returns-in-None : goal.returns-in-None
returns-in-None c = search refs

pub returns-in-Some : goal.returns-in-Some
returns-in-Some c = search refs

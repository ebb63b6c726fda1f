use borrow.Author.Rules.{rules}
use Rattle.drives.proofs.ScanLaws.{words_are}
use Rattle.drives.proofs.scans.words.Goals as goal

ruleset words = (words_are, rules)

pub overflow_cast-result : goal.overflow_cast-result
overflow_cast-result c = search words

pub number_in-requires : goal.number_in-requires
number_in-requires c = search words

pub returns : goal.returns
returns c = search words

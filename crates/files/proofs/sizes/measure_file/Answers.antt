-- Written out, so that a wrong `measure_file` is refused here and not where it is called.
use borrow.Author.Rules.{rules}
use Rattle.files.proofs.MeasuredLaws.{measured-says}
use Rattle.files.proofs.sizes.measure_file.Goals as goal

ruleset weighs = (measured-says, rules)

pub weigh_file-w-requires : goal.weigh_file-w-requires
weigh_file-w-requires c = search weighs

pub returns : goal.returns
returns c = search weighs

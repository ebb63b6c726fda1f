-- `files::sizes::size_file` meets its contract: what was begun and what is left behind it are all. Assumes nothing.
use borrow.Author.Rules.{rules}
use Rattle.files.proofs.MeasuredLaws.{sizes-add, sizes-hops, sizes-done}
use Rattle.files.proofs.sizes.size_file.Goals as goal

ruleset weighs = (sizes-add, sizes-hops, sizes-done, rules)

pub returns : goal.returns
returns c = search weighs

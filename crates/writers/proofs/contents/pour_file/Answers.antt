-- `writers::contents::pour_file` meets its contract: a file, and zeros behind it; nothing where there is no room. Assumes nothing.
use Rattle.std.proofs.Common.{rules}
use Rattle.writers.proofs.FileLaws.{file-none, file-poured}
use Rattle.writers.proofs.contents.pour_file.Goals as goal

ruleset own = (file-none, file-poured, rules)

pub returns-then-image-at : goal.returns-then-image-at
returns-then-image-at c = search own

pub returns : goal.returns
returns c = search own

-- `writers::contents::pour_files` meets its contract: what is left to pour is what the files left are. Assumes nothing.
use Rattle.std.proofs.Common.{rules}
use Rattle.writers.proofs.FileLaws.{files-next, files-done}
use Rattle.writers.proofs.contents.pour_files.Goals as goal

ruleset own = (files-next, files-done, rules)

pub loop-length-preserved : goal.loop-length-preserved
loop-length-preserved c = search own

pub returns : goal.returns
returns c = search own

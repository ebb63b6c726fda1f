-- `writers::parts::pour_recognition` meets its contract: one part behind another. Assumes nothing.
use Rattle.std.proofs.Common.{rules}
use Rattle.writers.proofs.PartLaws.{recognition-poured}
use Rattle.writers.proofs.parts.pour_recognition.Goals as goal

ruleset own = (recognition-poured, rules)

pub returns : goal.returns
returns c = search own

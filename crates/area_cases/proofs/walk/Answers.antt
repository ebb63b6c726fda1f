-- `area_cases::walk` is safe and ends: each step leaves fewer bytes. Assumes nothing.
use borrow.Author.Rules.{rules}
use Rattle.areas.proofs.AreaLaws.{ahead-less}
use Rattle.area_cases.proofs.walk.Goals as goal

ruleset steps = (ahead-less, rules)

pub loop-e-smaller : goal.loop-e-smaller
loop-e-smaller g c = search steps

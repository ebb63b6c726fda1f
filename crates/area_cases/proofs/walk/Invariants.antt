-- `area_cases::walk` is safe and ends: each step leaves fewer bytes. Assumes nothing.
use Rattle.area_cases.proofs.walk.Given as goal

abbrev pub decreases-loop-e : goal.decreases-loop-e
decreases-loop-e g l = l.c.left

-- `crc_cases::pattern` meets its contract: storing a byte keeps the length. Assumes nothing.
use Rattle.std.proofs.Common.{◌≡◌, length}
use Rattle.crc_cases.proofs.pattern.Given as goal

abbrev pub invariant-loop-i : goal.invariant-loop-i
invariant-loop-i l = 4100 ≡ length l.made

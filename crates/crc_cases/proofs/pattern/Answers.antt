-- `crc_cases::pattern` meets its contract: storing a byte keeps the length. Assumes nothing.
use mathlib.Core.Path.{sym}
use Prim.Native.Nat.{ℕ}
use lib.ListN.{length-replicate}
use Rattle.crc_cases.proofs.pattern.Goals as goal

pub loop-i-init : goal.loop-i-init
loop-i-init c = sym (length-replicate {A = ℕ} 4100 0)

-- `programs::lent::mebibyte` meets its contract: the array has as many bytes as its type says, all zero. Assumes nothing.
use mathlib.Core.Path.{refl, sym}
use Prim.Native.Nat.{ℕ}
use lib.ListN.{length-replicate}
use Rattle.programs.proofs.lent.mebibyte.Goals as goal

pub returns : goal.returns
returns c = record { value = sym (length-replicate {A = ℕ} 1048576 0); value_2 = refl }

-- `crcs::take_fours` meets its contract: what is left gives what the whole gives. Assumes nothing.
use native.Mathlib.Omega.{arith}
use Rattle.crcs.proofs.LoopLaws.{fours-next, fours-end}
use Rattle.crcs.proofs.take_fours.Goals as goal

pub loop-b0-preserved : goal.loop-b0-preserved
loop-b0-preserved c = fours-next _ _ _ _ _ _ c.loop-b0.invariant c.as_chunks.ensures.front _ (omega (arith, c.as_chunks.ensures.front_len)) c.take_four-c.ensures

pub returns : goal.returns
returns c =
    fours-end _ _ _ _ _ _ c.loop-b0.invariant (omega (arith, c.as_chunks.ensures.front_len)) (omega (arith, c.as_chunks.ensures.front_len)) c.as_chunks.ensures.back c.take_bytes.ensures

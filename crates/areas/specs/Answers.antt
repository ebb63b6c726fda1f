-- The answer number and the values of each enum answer: 0 and what was read, or the refusal's number and zeros. RULES 12.3.
use Rattle.std.specs.Prelude.{Option, Some, None}
use Rattle.disc.specs.Refusals.{number}
use Rattle.disc.specs.Replies.{Answer}
use Rattle.areas.specs.declared.AllocExtent.{AllocExtent}
use Rattle.areas.specs.declared.AdContinuation.{AdContinuation}
use Rattle.areas.specs.declared.AdStep.{AdStep}
use Rattle.areas.specs.declared.AdStep.TheVariants.{Extent, Continuation as Continues, End as Ends, Refused as Refuses}
use Rattle.areas.specs.declared.AdEnding.{AdEnding}
use Rattle.areas.specs.declared.AdEnding.TheVariants.{End, Continuation, Refused}

-- what a step gives: an extent, or where the next area is, or neither
pub record StepValue : Type 0 where
  pub extent : Option AllocExtent
  pub continuation : Option AdContinuation

abbrev pub step_answer : AdStep → Answer StepValue
step_answer (Extent e c) = record { number = 0; value = record { extent = Some e; continuation = None } }
step_answer (Continues a) = record { number = 0; value = record { extent = None; continuation = Some a } }
step_answer Ends = record { number = 0; value = record { extent = None; continuation = None } }
step_answer (Refuses r) = record { number = number r; value = record { extent = None; continuation = None } }

abbrev pub ending_answer : AdEnding → Answer (Option AdContinuation)
ending_answer End = record { number = 0; value = None }
ending_answer (Continuation a) = record { number = 0; value = Some a }
ending_answer (Refused r) = record { number = number r; value = None }

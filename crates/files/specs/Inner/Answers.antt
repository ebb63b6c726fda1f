-- The answer number and the values of the enum answers: RULES 12.3.
use Rattle.std.specs.Prelude.{ℕ, Option, Some, None, Result, Ok, Err}
use Rattle.disc.specs.Refusals.{number}
use Rattle.disc.specs.Replies.{Answer}
use Rattle.files.specs.declared.icbs.FilePlace.{FilePlace}
use Rattle.disc.specs.declared.refusals.CountedRefusal.{CountedRefusal}
use Rattle.files.specs.declared.resolves.Resolved.TheVariants.{Embedded, Chained}
use Rattle.files.specs.declared.resolves.Resolved.{Resolved}

-- where a file's entry leads, and how many sectors were asked for
pub record Led : Type 0 where
  pub place : Option FilePlace
  pub sectors : ℕ

abbrev pub place_answer : Result FilePlace CountedRefusal → Answer Led
place_answer (Ok p) = record { number = 0; value = record { place = Some p; sectors = 1 } }
place_answer (Err e) = record { number = number e.why; value = record { place = None; sectors = e.count } }

abbrev pub resolved_answer : Result Resolved CountedRefusal → Answer Led
resolved_answer (Ok (Embedded p)) = record { number = 0; value = record { place = Some p; sectors = 1 } }
resolved_answer (Ok (Chained p n)) = record { number = 0; value = record { place = Some p; sectors = n } }
resolved_answer (Err e) = record { number = number e.why; value = record { place = None; sectors = e.count } }

-- What a call that writes into lent memory reports and leaves there. RULES 1.5 to 1.7, 10.3 and 10.4.
use Rattle.std.specs.Prelude.{ℕ, ◌≡◌, List, ◌++◌, length, drop, leb, Result, Ok, Err}
use Rattle.disc.specs.Choice.{pick}
use Rattle.disc.specs.Refusals.{number}
use Rattle.disc.specs.Counts.{reported}
use Rattle.disc.specs.Ask.{Outcome}
use Rattle.disc.specs.Ask.Outcome.{answered, refused}
use Rattle.disc.specs.Ran.{Ran}
use Rattle.disc.specs.declared.refusals.Refusal.{Refusal}
use Rattle.disc.specs.declared.replies.Reply.{Reply}

-- an answer by its number (RULES 1.1) and its value
pub record Answer (A : Type 0) : Type 0 where
  pub number : ℕ
  pub value : A

-- an outcome as the code returns it
abbrev pub returned : {A : Type 0} → Outcome A → Result A Refusal
returned (answered a) = Ok a
returned (refused r) = Err r

-- the answer number of an outcome
abbrev pub answer_of : {A : Type 0} → Outcome A → ℕ
answer_of (answered a) = 0
answer_of (refused r) = number r

-- the answer number with the value, or with `nothing` where it is refused
abbrev pub answer_in : {A : Type 0} → A → Outcome A → Answer A
answer_in nothing (answered a) = record { number = 0; value = a }
answer_in nothing (refused r) = record { number = number r; value = nothing }

-- the same of what the code returned
abbrev pub answer_from : {A : Type 0} → A → Result A Refusal → Answer A
answer_from nothing (Ok a) = record { number = 0; value = a }
answer_from nothing (Err r) = record { number = number r; value = nothing }

-- the reply where there is room for `room` elements, bytes or slots: more are refused by `full`, after every other refusal
abbrev pub reply_by : {A : Type 0} → Refusal → ℕ → ℕ → Outcome (List A) → Reply
reply_by full room count (refused r) = record { answer = number r; count = count; length = 0 }
reply_by full room count (answered b) =
    pick (leb (length b) room)
    (record { answer = 0; count = count; length = length b })
    (record { answer = number full; count = count; length = 0 })

abbrev pub reply_of : {A : Type 0} → Refusal → ℕ → Ran (List A) → Reply
reply_of full room r = reply_by full room (reported r.count) r.outcome

-- the reply where no output is lent and room is taken as enough: the length alone
abbrev pub measured_by : {A : Type 0} → ℕ → Outcome (List A) → Reply
measured_by count (refused r) = record { answer = number r; count = count; length = 0 }
measured_by count (answered b) = record { answer = 0; count = count; length = length b }

abbrev pub measured_of : {A : Type 0} → Ran (List A) → Reply
measured_of r = measured_by (reported r.count) r.outcome

-- what was lent, with the answer over its front; a refusal changes nothing
abbrev pub left_by : {A : Type 0} → List A → Outcome (List A) → List A
left_by lent (refused r) = lent
left_by lent (answered b) = pick (leb (length b) (length lent)) (b ++ drop (length b) lent) lent

-- the reply, and what is left of the memory
pub record Replied {A : Type 0} (full : Refusal) (r : Ran (List A)) (before after : List A) (reply : Reply) : Type 0 where
  pub says : reply ≡ reply_of full (length before) r
  pub leaves : after ≡ left_by before r.outcome

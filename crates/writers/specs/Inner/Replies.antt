-- What a call answers: the sectors of the image, or a refusal.
use Rattle.std.specs.Prelude.{ℕ, Result, Ok, Err}
use Rattle.disc.specs.declared.refusals.Refusal.{Refusal}
use Rattle.writers.specs.Refusing.{refused_by}
use Rattle.writers.specs.declared.WriteReply.{WriteReply}

abbrev pub reply_of : Result ℕ Refusal → WriteReply
reply_of (Ok sectors) = record { answer = 0; sectors = sectors }
reply_of (Err why) = refused_by why

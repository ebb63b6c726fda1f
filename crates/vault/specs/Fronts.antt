-- What a call that answers with bytes or slots leaves of what it was lent: RULES 10.3.
use Rattle.std.specs.Prelude.{◌≡◌, List, length, take, drop}
use Rattle.disc.specs.Ask.{Outcome}
use Rattle.disc.specs.Ask.Outcome.{answered}
use Rattle.disc.specs.declared.replies.Reply.{Reply}

-- `left` is as long as `lent`: its front is the answer where the call is done, and from `reply.length` on, which is 0 for a refusal, nothing has
-- changed
pub record Fronted {A : Type 0} (came : Outcome (List A)) (lent : List A) (reply : Reply) (left : List A) : Type 0 where
  pub long : length left ≡ length lent
  pub behind : drop reply.length left ≡ drop reply.length lent
  pub refused_none : (reply.answer ≡ 0 → ⊥) → reply.length ≡ 0
  pub front : (b : List A) → came ≡ answered b → reply.answer ≡ 0 → take reply.length left ≡ b

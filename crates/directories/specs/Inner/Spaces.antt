-- A directory's bytes in the work space.
use Rattle.std.specs.Prelude.{ℕ, ◌≡◌, List, ◌++◌, length, drop}
use Rattle.disc.specs.Refusals.{number}
use Rattle.disc.specs.Counts.{reported}
use Rattle.disc.specs.Ask.{Outcome}
use Rattle.disc.specs.Ask.Outcome.{answered, refused}
use Rattle.disc.specs.Ran.{Ran}
use Rattle.disc.specs.declared.replies.Reply.{Reply}

abbrev pub reply_to : Outcome (List ℕ) → ℕ → Reply
reply_to (answered b) n = record { answer = 0; count = n; length = length b }
reply_to (refused r) n = record { answer = number r; count = n; length = 0 }

abbrev pub on_front : Outcome (List ℕ) → List ℕ → List ℕ
on_front (answered b) d = b ++ drop (length b) d
on_front (refused r) d = d

pub record Reads (r : Ran (List ℕ)) (before after : List ℕ) (reply : Reply) : Type 0 where
  pub says : reply ≡ reply_to r.outcome (reported r.count)
  pub leaves : after ≡ on_front r.outcome before

-- What decoding a d-string leaves: RULES 10.6.
use Rattle.std.specs.Prelude.{ℕ, List, ltb}
use Rattle.disc.specs.Choice.{pick}
use Rattle.disc.specs.Moves.{over}
use Rattle.disc.specs.Refusals.{number}
use Rattle.disc.specs.Ask.{Outcome}
use Rattle.disc.specs.Ask.Outcome.{answered, refused}
use Rattle.disc.specs.declared.refusals.Refusal.TheVariants.{NoRoom}

-- All that a call leaves: the answer number, the length of the name, and the lent output.
pub record Decoded : Type 0 where
  pub answer : ℕ
  pub length : ℕ
  pub out : List ℕ

-- By a name or its refusal: the name is written over the front of the output, unless it has more bytes than the output.
unfoldable pub decoded : Outcome (List ℕ) → List ℕ → Decoded
decoded (refused why) out = record { answer = number why; length = 0; out = out }
decoded (answered name) out =
    pick (ltb (lib.ListN.length out) (lib.ListN.length name)) (record { answer = number NoRoom; length = 0; out = out })
    (record { answer = 0; length = lib.ListN.length name; out = over name out })

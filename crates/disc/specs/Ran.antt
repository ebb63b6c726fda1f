-- The run of a call: its outcome on a disc, with how many sectors it asked for.
use Rattle.std.specs.Prelude.{ℕ, ◌+◌, List, map, length}
use Rattle.disc.specs.Ask.{Disc, Ask, Outcome, asked}
use Rattle.disc.specs.Ask.Outcome.{answered, refused}

pub record Ran (A : Type 0) : Type 0 where
  pub outcome : Outcome A
  pub count : ℕ

unfoldable pub ran : {A : Type 0} → Disc → Ask A → Ran A
ran d m = record { outcome = Rattle.disc.specs.Ask.outcome d m; count = length (asked d m) }

-- the same outcome, with n more sectors counted
abbrev pub after : {A : Type 0} → ℕ → Ran A → Ran A
after n r = record { outcome = r.outcome; count = n + r.count }

-- go on with what was answered after n sectors, or stay refused
abbrev pub onward : {A B : Type 0} → Outcome A → ℕ → (A → Ran B) → Ran B
onward (answered a) n f = after n (f a)
onward (refused r) n f = record { outcome = refused r; count = n }

-- one run after another, counts added
abbrev pub followed : {A B : Type 0} → Ran A → (A → Ran B) → Ran B
followed r f = onward r.outcome r.count f

-- an outcome known from bytes at hand: no sector is asked for
abbrev pub told : {A : Type 0} → Outcome A → Ran A
told o = record { outcome = o; count = 0 }

-- f of each element that was answered
abbrev pub each_in : {A B : Type 0} → (A → B) → Outcome (List A) → Outcome (List B)
each_in f (answered l) = answered (map f l)
each_in f (refused r) = refused r

abbrev pub each : {A B : Type 0} → (A → B) → Ran (List A) → Ran (List B)
each f r = record { outcome = each_in f r.outcome; count = r.count }

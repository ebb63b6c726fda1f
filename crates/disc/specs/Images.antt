-- A lent image as a disc, and n sectors in turn: RULES 2.1 and 2.5.
use Rattle.std.specs.Prelude.{Bool, true, false, List, [], ◌++◌, ℕ, zero, suc, ◌+◌, ◌-◌, ◌*◌, ◌/◌, length, take, drop, leb}
use Rattle.disc.specs.Choice.{pick}
use Rattle.disc.specs.Ask.{Disc, Ask, Outcome, then}
use Rattle.disc.specs.Ask.Held.{holds, lacks}
use Rattle.disc.specs.Ask.Ask.{done, ask}
use Rattle.disc.specs.Ask.Outcome.{answered, refused}

-- sector s is there if bytes 2,048 s to 2,048 s + 2,047 all are
abbrev pub there : List ℕ → ℕ → Bool
there image s = leb (2048 * s + 2048) (length image)

unfoldable pub disc : List ℕ → Disc
disc image s = pick (there image s) (holds (take 2048 (drop (2048 * s) image))) lacks

-- n sectors from `first` on, asked for in turn and joined
unfoldable pub sectors : ℕ → ℕ → Ask (List ℕ)
sectors zero first = done []
sectors (suc n) first = ask first (λ b. then (sectors n (first + 1)) (λ rest. done (b ++ rest)))

-- how many sectors n bytes take
abbrev pub sectors_for : ℕ → ℕ
sectors_for n = (n + 2047) / 2048

-- how many sectors an image has from `first` on
abbrev pub held_from : List ℕ → ℕ → ℕ
held_from image first = length image / 2048 - first

-- the bytes of an answer; none where the call was refused
abbrev pub bytes_of : Outcome (List ℕ) → List ℕ
bytes_of (answered b) = b
bytes_of (refused r) = []

abbrev pub is_answered : {A : Type 0} → Outcome A → Bool
is_answered (answered a) = true
is_answered (refused r) = false

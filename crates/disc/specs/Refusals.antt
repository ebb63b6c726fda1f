-- The answer number of each refusal: the table of RULES 1.1.
use Rattle.std.specs.Prelude.{ℕ, eqb}
use Rattle.disc.specs.Choice.{pick}
use Rattle.disc.specs.declared.refusals.Refusal.{Refusal}
use Rattle.disc.specs.declared.refusals.Refusal.TheVariants.{Io, Malformed, NotBluray, Unsupported, NoRoom, NoWork, NoSlot, Ambiguous, BadCrc, TooDeep, TooMany, BadName, BadFiles, BadShelf, OverBudget}

-- 0 is kept for "done", and 8 is struck
abbrev pub number : Refusal → ℕ
number Io = 1
number Malformed = 2
number NotBluray = 3
number Unsupported = 4
number NoRoom = 5
number NoWork = 6
number NoSlot = 7
number Ambiguous = 9
number BadCrc = 10
number TooDeep = 11
number TooMany = 12
number BadName = 13
number BadFiles = 14
number BadShelf = 15
number OverBudget = 16

-- the refusal with this number; any number of no refusal, which no step gives, counts as `Io`
unfoldable pub refusal_of : ℕ → Refusal
refusal_of n =
    pick (eqb n 2) Malformed
    (pick (eqb n 3) NotBluray
    (pick (eqb n 4) Unsupported
    (pick (eqb n 5) NoRoom
    (pick (eqb n 6) NoWork
    (pick (eqb n 7) NoSlot
    (pick (eqb n 9) Ambiguous
    (pick (eqb n 10) BadCrc
    (pick (eqb n 11) TooDeep
    (pick (eqb n 12) TooMany
    (pick (eqb n 13) BadName
    (pick (eqb n 14) BadFiles
    (pick (eqb n 15) BadShelf
    (pick (eqb n 16) OverBudget
    Io)))))))))))))

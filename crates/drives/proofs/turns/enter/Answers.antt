use borrow.Author.Rules.{rules}
use Rattle.disc.proofs.PlaceLaws.{stands-low}
use Rattle.drives.proofs.TurnLaws.{enter-type, enter-nowhere, enter-there}
use Rattle.drives.proofs.turns.enter.Goals as goal

ruleset enters = (enter-type, enter-nowhere, enter-there, stands-low, rules)

pub bounds-w-1 : goal.bounds-w-1
bounds-w-1 c = search enters

pub returns-then-w-ne0 : goal.returns-then-w-ne0
returns-then-w-ne0 c = search enters

pub bounds-w-3 : goal.bounds-w-3
bounds-w-3 c = search enters

pub reference_in-requires : goal.reference_in-requires
reference_in-requires c = search enters

pub bounds-w-2 : goal.bounds-w-2
bounds-w-2 c = search enters

pub placed-requires : goal.placed-requires
placed-requires c = search enters

pub bounds-w-0 : goal.bounds-w-0
bounds-w-0 c = search enters

pub enter_at-requires : goal.enter_at-requires
enter_at-requires c = search enters

pub returns-in-None : goal.returns-in-None
returns-in-None c = search enters

pub returns-in-Some : goal.returns-in-Some
returns-in-Some c = search enters

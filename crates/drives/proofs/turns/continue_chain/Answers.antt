use borrow.Author.Rules.{rules}
use Rattle.disc.proofs.PlaceLaws.{stands-low}
use Rattle.drives.proofs.TurnLaws.{chain-none, chain-nowhere, chain-there}
use Rattle.drives.proofs.turns.continue_chain.Goals as goal

ruleset chains = (chain-none, chain-nowhere, chain-there, stands-low, rules)

pub over-requires : goal.over-requires
over-requires c = search chains

pub returns-then-r-eq0 : goal.returns-then-r-eq0
returns-then-r-eq0 c = search chains

pub reference_in-requires : goal.reference_in-requires
reference_in-requires c = search chains

pub placed-requires : goal.placed-requires
placed-requires c = search chains

pub enum_told-1 : goal.enum_told-1
enum_told-1 c = search chains

pub over-requires-in-None : goal.over-requires-in-None
over-requires-in-None c = search chains

pub enum_known-first : goal.enum_known-first
enum_known-first c = search chains

pub want_continuation-requires : goal.want_continuation-requires
want_continuation-requires c = search chains

pub returns-in-None : goal.returns-in-None
returns-in-None c = search chains

pub returns-in-Some : goal.returns-in-Some
returns-in-Some c = search chains

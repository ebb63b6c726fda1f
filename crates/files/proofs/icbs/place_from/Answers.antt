-- `files::icbs::place_from` meets its contract: the sector, the entry. Assumes nothing.
use borrow.Author.Rules.{rules}
use Rattle.files.proofs.EntryLaws.{from-missing, locate-room, from-entry}
use Rattle.files.proofs.icbs.place_from.Goals as goal

ruleset places = (from-missing, locate-room, from-entry, rules)

pub returns-then-held_from-eq0 : goal.returns-then-held_from-eq0
returns-then-held_from-eq0 c = search places

pub place_in-requires : goal.place_in-requires
place_in-requires c = search places

pub returns : goal.returns
returns c = search places

-- `files::icbs::place_in` meets its contract: both answers of the entry's parser. Assumes nothing.
use borrow.Author.Rules.{rules}
use Rattle.files.proofs.EntryLaws.{place_none, place_found, place-adds}
use Rattle.files.proofs.icbs.place_in.Goals as goal

ruleset places = (place_none, place_found, place-adds, rules)

pub overflow_add-result : goal.overflow_add-result
overflow_add-result c = search places

pub returns-in-Err : goal.returns-in-Err
returns-in-Err c = search places

pub returns-in-Ok : goal.returns-in-Ok
returns-in-Ok c = search places

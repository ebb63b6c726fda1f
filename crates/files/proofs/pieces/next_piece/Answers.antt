-- `files::pieces::next_piece` meets its contract: a step of the cursor, and what its extent gives. Assumes nothing.
use borrow.Author.Rules.{rules}
use Rattle.files.proofs.TurnLaws.{gives-end, gives-hop, gives-refused, gives-piece}
use Rattle.files.proofs.pieces.next_piece.Goals as goal

ruleset turns = (gives-end, gives-hop, gives-refused, gives-piece, rules)

pub returns-in-Ends : goal.returns-in-Ends
returns-in-Ends c = search turns

pub returns-in-Hops : goal.returns-in-Hops
returns-in-Hops c = search turns

pub returns-in-Err : goal.returns-in-Err
returns-in-Err c = search turns

pub returns-in-Ok : goal.returns-in-Ok
returns-in-Ok c = search turns

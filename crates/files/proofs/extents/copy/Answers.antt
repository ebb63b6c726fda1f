-- `files::extents::copy` meets its contract: what is stored and what the rest will store are what the whole stores. Assumes nothing.
use borrow.Author.Rules.{rules}
use Rattle.files.proofs.CopyLaws.{copy-starts, copy-end, copy-refused, copy-hop, copy-hop-less, copy-less, copy-room, copy-adds, copy-source, copy-target, copy-enough, copy-next}
use Rattle.files.proofs.extents.copy.Goals as goal

ruleset copies = (copy-starts, copy-end, copy-refused, copy-hop, copy-hop-less, copy-less, copy-room, copy-adds, copy-source, copy-target, copy-enough, copy-next, rules)

pub returns-in-End : goal.returns-in-End
returns-in-End c = search copies

pub returns-in-Refused : goal.returns-in-Refused
returns-in-Refused c = search copies

pub loop-next-smaller-in-Hop : goal.loop-next-smaller-in-Hop
loop-next-smaller-in-Hop c = search copies

pub loop-next-preserved-in-Hop : goal.loop-next-preserved-in-Hop
loop-next-preserved-in-Hop c = search copies

pub copy_piece-requires : goal.copy_piece-requires
copy_piece-requires c = search copies

pub overflow_add-filled : goal.overflow_add-filled
overflow_add-filled c = search copies

pub returns-then-want-filled : goal.returns-then-want-filled
returns-then-want-filled c = search copies

pub loop-next-smaller : goal.loop-next-smaller
loop-next-smaller c = search copies

pub loop-next-preserved : goal.loop-next-preserved
loop-next-preserved c = copy-next _ _ _ _ _ _ _ _ _ c.loop-next.invariant c.next_piece.ensures c.in-Piece.is c.copy_piece.ensures (search rules)

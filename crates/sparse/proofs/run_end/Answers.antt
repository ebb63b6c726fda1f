-- `sparse::run_end` meets its contract: what is left of the bytes says which case of the definition holds. Assumes nothing.
use borrow.Author.Rules.{rules}
use Rattle.sparse.proofs.RunLaws.{end-past, end-headless, end_short, end_whole}
use Rattle.sparse.proofs.run_end.Goals as goal

ruleset ends = (end-past, end-headless, end_short, end_whole, rules)

pub returns-then-packed-i : goal.returns-then-packed-i
returns-then-packed-i c = search ends

pub returns-then-rest-lt8 : goal.returns-then-rest-lt8
returns-then-rest-lt8 c = search ends

pub returns-then-rest-n : goal.returns-then-rest-n
returns-then-rest-n c = search ends

pub returns : goal.returns
returns c = search ends

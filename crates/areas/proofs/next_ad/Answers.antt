-- `areas::next_ad` meets its contract: each return is a case of `next_of`. Assumes nothing.
use native.Mathlib.Omega.{arith}
use borrow.Author.Rules.{rules}
use Rattle.areas.proofs.AreaLaws.{next-short, next_past, next-stop, next-data, next-continued, next-compressed, small_size}
use Rattle.areas.proofs.next_ad.Goals as goal

ruleset nexts = (next-short, next_past, next-stop, next-data, next-continued, next-compressed, rules)

pub returns-then-left-size : goal.returns-then-left-size
returns-then-left-size c = search nexts

pub returns-then-s-at : goal.returns-then-s-at
returns-then-s-at c = search nexts

pub overflow_add-result : goal.overflow_add-result
overflow_add-result c = omega (arith, small_size _ c.size_of-size.ensures)

pub returns-in-Stop : goal.returns-in-Stop
returns-in-Stop c = search nexts

pub returns-in-Data : goal.returns-in-Data
returns-in-Data c = search nexts

pub returns-in-Continued : goal.returns-in-Continued
returns-in-Continued c = search nexts

pub returns-in-Compressed : goal.returns-in-Compressed
returns-in-Compressed c = search nexts

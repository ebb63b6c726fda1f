-- `figures::total` meets its contract: 15 where the row has too few places, else the place behind is cleared and added to. Assumes nothing.
use borrow.Author.Rules.{rules}
use Rattle.figures.proofs.TotalLaws.{total-few, total_kept, total-answers, total-done}
use Rattle.figures.proofs.total.Goals as goal

ruleset totals = (total-few, total_kept, total-answers, total-done, rules)

pub returns : goal.returns
returns c = (search totals, total-done c.args.places.now c.args.n (search rules) c.clear_figures.ensures c.add_places.ensures)

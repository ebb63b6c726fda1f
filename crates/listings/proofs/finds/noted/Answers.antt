-- `listings::finds::noted` meets its contract: by the two tests. Assumes nothing.
use borrow.Author.Rules.{rules}
use Rattle.listings.proofs.EntryLaws.{noted-settled, noted-none, noted-this}
use Rattle.listings.proofs.finds.noted.Goals as goal

ruleset notes = (noted-settled, noted-none, noted-this, rules)

pub returns-then-is_settled : goal.returns-then-is_settled
returns-then-is_settled c = search notes

pub returns-then-answers_to : goal.returns-then-answers_to
returns-then-answers_to c = search notes

pub returns : goal.returns
returns c = search notes

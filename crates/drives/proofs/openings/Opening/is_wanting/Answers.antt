use borrow.Author.Rules.{rules}
use Rattle.drives.proofs.OpeningLaws.{wanting-over, wanting-far, wanting-near}
use Rattle.drives.proofs.openings.Opening.is_wanting.Goals as goal

ruleset wanting = (wanting-over, wanting-far, wanting-near, rules)

pub returns-then-self-ge-OPENING_OVER : goal.returns-then-self-ge-OPENING_OVER
returns-then-self-ge-OPENING_OVER c = search wanting

pub returns-then-self-ge-MOST_SECTORS : goal.returns-then-self-ge-MOST_SECTORS
returns-then-self-ge-MOST_SECTORS c = search wanting

pub overflow_cast-result : goal.overflow_cast-result
overflow_cast-result c = search wanting

pub overflow_add-result : goal.overflow_add-result
overflow_add-result c = search wanting

pub returns : goal.returns
returns c = search wanting

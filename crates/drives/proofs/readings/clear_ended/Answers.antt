use borrow.Author.Rules.{rules}
use Rattle.drives.proofs.ReadLaws.{clear-not, clear-ended}
use Rattle.drives.proofs.readings.clear_ended.Goals as goal

ruleset clears = (clear-not, clear-ended, rules)

pub is_wanting-requires : goal.is_wanting-requires
is_wanting-requires c = search clears

pub returns-then-is_wanting : goal.returns-then-is_wanting
returns-then-is_wanting c = search clears

pub clear_row-requires : goal.clear_row-requires
clear_row-requires c = search clears

pub shape_of-row : goal.shape_of-row
shape_of-row c = search clears

pub returns : goal.returns
returns c = search clears

use borrow.Author.Rules.{rules}
use mathlib.Core.Path.{sym, ◌∙◌}
use borrow.Author.Tests.{not-true, not-false}
use Rattle.drives.proofs.ReadLaws.{read_stays, read-lost, read_taken}
use Rattle.drives.proofs.readings.Reading.step.Goals as goal

ruleset steps = (read_stays, read-lost, not-true, not-false, rules)

pub is_wanting-requires : goal.is_wanting-requires
is_wanting-requires c = search steps

pub returns-then-not-is_wanting : goal.returns-then-not-is_wanting
returns-then-not-is_wanting c = search steps

pub add_counts-requires : goal.add_counts-requires
add_counts-requires c = search steps

pub clear_row-requires : goal.clear_row-requires
clear_row-requires c = search steps

pub over-requires : goal.over-requires
over-requires c = search steps

pub shape_of-row-then-sector-ne2048 : goal.shape_of-row-then-sector-ne2048
shape_of-row-then-sector-ne2048 c = search steps

pub returns-then-sector-ne2048 : goal.returns-then-sector-ne2048
returns-then-sector-ne2048 c = let e = c.is_wanting.ensures in let h = c.if-not-is_wanting.false in let q = c.add_counts.ensures in let l = c.if-sector-ne2048.true in let z = c.clear_row.ensures in let p = c.over.ensures in search steps

pub taken-x-requires : goal.taken-x-requires
taken-x-requires c = let e = c.is_wanting.ensures in let h = c.if-not-is_wanting.false in (search rules, sym e ∙ h)

pub clear_ended-requires : goal.clear_ended-requires
clear_ended-requires c = search steps

pub shape_of-row : goal.shape_of-row
shape_of-row c = search steps

pub shape_of-out : goal.shape_of-out
shape_of-out c = search steps

pub returns : goal.returns
returns c = let e = c.is_wanting.ensures in let h = c.if-not-is_wanting.false in let q = c.add_counts.ensures in let l = c.if-sector-ne2048.false in let p = c.taken-x.ensures in let z = c.clear_ended.ensures in read_taken _ _ _ _ e h q _ _ l _ (search rules) (search rules) p _ z

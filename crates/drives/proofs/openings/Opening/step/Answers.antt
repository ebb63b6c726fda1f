use borrow.Author.Rules.{rules}
use borrow.Author.Tests.{not-true, not-false}
use Rattle.drives.proofs.OpeningLaws.{step_stays, step-lost, step-taken, wanting-is}
use Rattle.drives.proofs.openings.Opening.step.Goals as goal

ruleset steps = (step_stays, step-lost, step-taken, wanting-is, not-true, not-false, rules)

pub is_wanting-requires : goal.is_wanting-requires
is_wanting-requires c = search steps

pub returns-then-not-is_wanting : goal.returns-then-not-is_wanting
returns-then-not-is_wanting c = search steps

pub add_counts-count-requires : goal.add_counts-count-requires
add_counts-count-requires c = search steps

pub refused-requires : goal.refused-requires
refused-requires c = search steps

pub over-requires : goal.over-requires
over-requires c = search steps

pub returns-then-sector-ne2048 : goal.returns-then-sector-ne2048
returns-then-sector-ne2048 c = search steps

pub taken-requires : goal.taken-requires
taken-requires c = search steps

pub returns : goal.returns
returns c = search steps

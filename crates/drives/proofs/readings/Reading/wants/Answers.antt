use borrow.Author.Rules.{rules}
use borrow.Author.Tests.{not-true, not-false}
use Rattle.drives.proofs.StepLaws.{wants-none, wants-at}
use Rattle.drives.proofs.readings.Reading.wants.Goals as goal

ruleset wants = (wants-none, wants-at, not-true, not-false, rules)

pub is_wanting-requires : goal.is_wanting-requires
is_wanting-requires c = search wants

pub returns-then-not-is_wanting : goal.returns-then-not-is_wanting
returns-then-not-is_wanting c = search wants

pub returns : goal.returns
returns c = search wants

-- `tags::DescriptorTag::is_in_place` meets its contract: the tests on the id say which case of `place_of` holds.
-- Assumes nothing.
use borrow.Author.Rules.{rules}
use Rattle.tags.proofs.PlaceChecks.{place-partition, place_other}
use Rattle.tags.proofs.DescriptorTag.is_in_place.Goals as goal

ruleset checks = (place-partition, place_other, rules)

pub returns-then-is_of_partition : goal.returns-then-is_of_partition
returns-then-is_of_partition c = search checks

pub returns : goal.returns
returns c = search checks

-- `listings::matchings::matching_of` meets its contract: its tests are the definition's. Assumes nothing.
use Rattle.disc.proofs.PickLaws.{picks}
use Rattle.listings.specs.Listings.{matching_of}
use Rattle.listings.proofs.matchings.matching_of.Goals as goal

pub returns-then-number-eq-CASE_IGNORED : goal.returns-then-number-eq-CASE_IGNORED
unfolding matching_of
returns-then-number-eq-CASE_IGNORED c = search picks

pub returns-then-number-eq-AS_WRITTEN : goal.returns-then-number-eq-AS_WRITTEN
unfolding matching_of
returns-then-number-eq-AS_WRITTEN c = search picks

pub returns : goal.returns
unfolding matching_of
returns c = search picks

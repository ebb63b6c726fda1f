-- `descriptors::recognition::identity_of` meets its contract: each test says which case of `identity_of` holds. Assumes nothing.
use borrow.Author.Rules.{rules}
use Rattle.disc.proofs.PickLaws.{picks}
use Rattle.descriptors.specs.Recognition.{identity_of}
use Rattle.descriptors.proofs.recognition.identity_of.Goals as goal

pub returns-then-is_identified : goal.returns-then-is_identified
unfolding identity_of
returns-then-is_identified c = search picks

pub returns-then-is_nsr : goal.returns-then-is_nsr
unfolding identity_of
returns-then-is_nsr c = search picks

pub returns-then-is_identified-2 : goal.returns-then-is_identified-2
unfolding identity_of
returns-then-is_identified-2 c = search picks

pub returns-then-is_other : goal.returns-then-is_other
unfolding identity_of
returns-then-is_other c = search picks

pub returns : goal.returns
unfolding identity_of
returns c = search picks

-- `areas::descriptor_of` meets its contract: each test says which case of the definition holds. Assumes nothing.
use Rattle.disc.proofs.PickLaws.{picks}
use Rattle.areas.specs.Areas.{descriptor_of}
use Rattle.areas.proofs.descriptor_of.Goals as goal

pub returns-then-stored-eq0 : goal.returns-then-stored-eq0
unfolding descriptor_of
returns-then-stored-eq0 c = search picks

pub returns-then-stored-eq3 : goal.returns-then-stored-eq3
unfolding descriptor_of
returns-then-stored-eq3 c = search picks

pub returns-then-whole : goal.returns-then-whole
unfolding descriptor_of
returns-then-whole c = search picks

pub returns : goal.returns
unfolding descriptor_of
returns c = search picks

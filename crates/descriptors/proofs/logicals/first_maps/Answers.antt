-- `descriptors::logicals::first_maps` meets its contract: what there is of the table is copied over zeros. Assumes nothing.
use borrow.Author.Rules.{rules}
use Rattle.descriptors.proofs.VolumeLaws.{maps-copied}
use Rattle.descriptors.proofs.logicals.first_maps.Goals as goal

pub returns : goal.returns
returns c = search (maps-copied, rules)

-- `entries::icb_tags::IcbTag::parse` meets its contract: each answer's test says which case of the definition holds. Assumes nothing.
use Rattle.disc.proofs.PickLaws.{picks}
use Rattle.entries.specs.IcbTags.{read_icb_tag}
use Rattle.entries.proofs.icb_tags.IcbTag.parse.Goals as goal

pub returns-then-s-lt20 : goal.returns-then-s-lt20
unfolding read_icb_tag
returns-then-s-lt20 c = search picks

pub returns : goal.returns
unfolding read_icb_tag
returns c = search picks

use borrow.Author.Rules.{rules}
use Rattle.disc.proofs.ImageLaws.{sector-missing, sector-there}
use Rattle.disc.proofs.images.sector_at.Goals as goal

ruleset sector = (sector-missing, sector-there, rules)

pub returns-then-image-s : goal.returns-then-image-s
returns-then-image-s c = search sector

pub returns : goal.returns
returns c = search sector

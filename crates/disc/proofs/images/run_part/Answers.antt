use borrow.Author.Rules.{rules}
use Rattle.disc.proofs.ImageLaws.{part_none, part-short, part-whole}
use Rattle.disc.proofs.images.run_part.Goals as goal

ruleset parts = (part_none, part-short, part-whole, rules)

pub returns-then-n-eq0 : goal.returns-then-n-eq0
returns-then-n-eq0 c = search parts

pub returns-then-held-n : goal.returns-then-held-n
returns-then-held-n c = search parts

pub returns : goal.returns
returns c = search parts

-- `tags::DescriptorTag::has_right_body` meets its contract: each return is a case of `body_right`. Assumes nothing.
use borrow.Author.Rules.{rules}
use Rattle.tags.proofs.BodyLaws.{right-short, right-summed}
use Rattle.tags.proofs.DescriptorTag.has_right_body.Goals as goal

ruleset bodies = (right-short, right-summed, rules)

pub returns-then-s-end : goal.returns-then-s-end
returns-then-s-end c = search bodies

pub returns : goal.returns
returns c = search bodies

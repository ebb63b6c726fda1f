-- `entries::icb_tags::icb_tag_at` meets its contract: each field is what the call that read it ensures. Assumes nothing.
use borrow.Author.Rules.{rules}
use Rattle.entries.proofs.FieldLaws.{icb-tag-fields}
use Rattle.entries.proofs.icb_tags.icb_tag_at.Goals as goal

pub returns : goal.returns
returns c = search (icb-tag-fields, rules)

-- `writers::structures::identifier_body` meets its contract: the name behind its length. Assumes nothing.
use Rattle.std.proofs.Common.{◌∙◌, ap}
use Rattle.std.proofs.lemmas.List.Edits.{sets}
use Rattle.writers.proofs.BodyLaws.{long-ends}
use Rattle.writers.proofs.structures.identifier_body.Goals as goal

pub returns : goal.returns
returns c = long-ends c.args.block c.args.name.now c.requires (c.put.ensures.bytes ∙ ap (sets _ 8) c.to_le_bytes.ensures) c.put-2.ensures

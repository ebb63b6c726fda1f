-- `areas::long_descriptor` meets its contract: what the descriptor says is what `descriptor_of` ensures of the one that was read. Assumes nothing.
use mathlib.Core.Path.{ap, ◌∙◌}
use Rattle.areas.specs.Areas.{long_descriptor}
use Rattle.areas.proofs.long_descriptor.Goals as goal

pub returns : goal.returns
returns c = c.descriptor_of.ensures ∙ ap long_descriptor c.long_at-a.ensures

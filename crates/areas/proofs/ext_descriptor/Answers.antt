-- `areas::ext_descriptor` meets its contract: what the descriptor says is what `descriptor_of` ensures of the one that was read. Assumes nothing.
use mathlib.Core.Path.{ap, ◌∙◌}
use Rattle.areas.specs.Areas.{ext_descriptor}
use Rattle.areas.proofs.ext_descriptor.Goals as goal

pub returns : goal.returns
returns c = c.descriptor_of.ensures ∙ ap ext_descriptor c.ext_at-a.ensures

-- `areas::short_descriptor` meets its contract: what the descriptor says is what `descriptor_of` ensures of the one that was read. Assumes nothing.
use mathlib.Core.Path.{ap, ◌∙◌}
use Rattle.areas.specs.Areas.{short_descriptor}
use Rattle.areas.proofs.short_descriptor.Goals as goal

pub returns : goal.returns
returns c = c.descriptor_of.ensures ∙ ap short_descriptor c.short_at-a.ensures

-- What the contract of a private function cites.
use Rattle.std.specs.Prelude.{Bool, true, false, ◌&&◌}
use Rattle.descriptors.specs.declared.recognition.Structure.{Structure}
use Rattle.descriptors.specs.declared.recognition.Structure.TheVariants.{Beginning, Nsr, Terminating, Other, Unknown}
use Rattle.probes.specs.declared.Seen.{Seen}
use Rattle.probes.specs.declared.Seen.TheVariants.{Over, On}

-- what one sector tells the probe
abbrev pub step_of : Structure → Bool → Bool → Seen
step_of Beginning began named = On true named
step_of Nsr began named = On began true
step_of Terminating began named = Over (began && named)
step_of Other began named = On began named
step_of Unknown began named = Over false

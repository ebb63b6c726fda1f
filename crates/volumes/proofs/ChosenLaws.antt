-- The choices as one number: the sums of two. Assumes nothing.
use Rattle.std.specs.Prelude.{Some}
use mathlib.Core.Path.{◌≡◌, refl}
use mathlib.Core.Bool.{true, false}
use Rattle.volumes.specs.Choices.{how_of}

pub checked-maps-chosen : how_of 3 ≡ Some (record { highest = false; checked = true; maps = true })
checked-maps-chosen = refl

pub highest-checked-chosen : how_of 5 ≡ Some (record { highest = true; checked = true; maps = false })
highest-checked-chosen = refl

pub highest-maps-chosen : how_of 6 ≡ Some (record { highest = true; checked = false; maps = true })
highest-maps-chosen = refl

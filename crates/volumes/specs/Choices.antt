-- The choices on opening as one number, a bit to a choice: RULES 5.23.
use Rattle.std.specs.Prelude.{ℕ, ◌/◌, ◌%◌, eqb, Option, Some, None}
use Rattle.disc.specs.Choice.{pick}
use Rattle.disc.specs.Ask.{Ask}
use Rattle.disc.specs.Ask.Ask.{refuse}
use Rattle.disc.specs.declared.refusals.Refusal.TheVariants.{Unsupported}
use Rattle.volumes.specs.Openings.{opening}
use Rattle.volumes.specs.declared.openings.How.{How}
use Rattle.volumes.specs.declared.openings.VolumeRecord.{VolumeRecord}

-- 1 chooses that bodies are checked, 2 that references go through the maps, 4 the highest number; the bits from 8 on are of no choice
abbrev pub how_of : ℕ → Option How
how_of n = pick (eqb (n / 8) 0) (Some (record { highest = eqb (n / 4) 1; checked = eqb (n % 2) 1; maps = eqb (n / 2 % 2) 1 })) None

-- opening by choices, or by a number of none, which is refused before any sector
abbrev pub opening_by : Option How → Ask VolumeRecord
opening_by (Some how) = opening how
opening_by None = refuse Unsupported

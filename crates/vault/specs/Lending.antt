-- The list of sectors of a show with no budget, and how many it wants: the count of that show.
use Rattle.std.specs.Prelude.{List, ℕ, min, length}
use Rattle.disc.specs.Ask.{asked}
use Rattle.disc.specs.Budgets.{unlimited}
use Rattle.disc.specs.Images.{disc}
use Rattle.volumes.specs.declared.openings.VolumeRecord.{VolumeRecord}
use Rattle.vault.specs.Calls.{showing}

abbrev pub show_list : List ℕ → VolumeRecord → ℕ → List ℕ → List ℕ
show_list image v levels work = asked (disc image) (showing v levels unlimited (length work))

abbrev pub show_wants : List ℕ → VolumeRecord → ℕ → List ℕ → ℕ
show_wants image v levels work = min (length (show_list image v levels work)) unlimited

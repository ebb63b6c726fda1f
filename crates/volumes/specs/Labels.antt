-- The label of a volume: RULES 5.16.
use Rattle.std.specs.Prelude.{ℕ, List}
use Rattle.disc.specs.Ask.{Ask, Outcome, then, ended}
use Rattle.names.specs.Names.{name_of_field}
use Rattle.volumes.specs.declared.openings.VolumeRecord.{VolumeRecord}
use Rattle.volumes.specs.declared.openings.How.{How}
use Rattle.volumes.specs.Openings.{opening}

-- the name in the label's recorded field, as UTF-8
abbrev pub label_of : VolumeRecord → Outcome (List ℕ)
label_of v = name_of_field v.label

-- the label call opens the image and answers the name; opening has refused a label that is none
unfoldable pub labelling : How → Ask (List ℕ)
labelling how = then (opening how) (λ v. ended (label_of v))

-- A volume that was opened without the check of bodies, as if with it.
use Rattle.disc.specs.declared.places.Mount.{Mount}
use Rattle.volumes.specs.declared.openings.VolumeRecord.{VolumeRecord}

-- a mount, and a volume, with bodies checked in every call
abbrev pub checked_mount : Mount → Mount
checked_mount m = record {
  start = m.start;
  partition = m.partition;
  checked = 1;
  maps = m.maps;
  volumes = m.volumes;
  numbers = m.numbers;
  starts = m.starts;
}

abbrev pub as_checked : VolumeRecord → VolumeRecord
as_checked v = record { mount = checked_mount v.mount; root = v.root; label = v.label }

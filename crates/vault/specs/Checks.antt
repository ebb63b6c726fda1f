-- The calls without the check of bodies.
use Rattle.std.specs.Prelude.{true, Bool, false, eqb, length}
use Rattle.disc.specs.Ask.{Ask, then, ended}
use Rattle.disc.specs.Ask.Ask.{done}
use Rattle.disc.specs.Choice.{pick}
use Rattle.disc.specs.Places.{unchecked, is_checked}
use Rattle.volumes.specs.Checks.{as_checked}
use Rattle.volumes.specs.Labels.{labelling}
use Rattle.volumes.specs.Openings.{opening}
use Rattle.volumes.specs.declared.openings.How.{How}
use Rattle.volumes.specs.declared.openings.Opened.{Opened}
use Rattle.volumes.specs.declared.openings.VolumeRecord.{VolumeRecord}
use Rattle.listings.specs.Listings.{listing as listing_in}
use Rattle.vault.specs.Calls.{path_reading, showing, finding, listing, parting, extent_listing, run_listing, seeking, reading}
use Rattle.vault.specs.Public.{Call}
use Rattle.vault.specs.Public.Call.{finds, fails_at, labels, runs, opens, parts, lists, measures, shows, reads, reads_path, extents, fails, parts_at, lists_bytes}

-- the choice with the check, and without
abbrev pub checked_by : Bool → Bool → How
checked_by h maps = record { highest = h; checked = true; maps = maps }

abbrev pub plain_by : Bool → Bool → How
plain_by h maps = record { highest = h; checked = false; maps = maps }

-- what opening without the check gives, with the volume marked as checked
abbrev pub as_opened : Opened → Opened
as_opened o = record { answer = o.answer; count = o.count; volume = pick (eqb o.answer 0) (as_checked o.volume) o.volume }

-- a volume whose bodies aren't checked
abbrev pub plainly : VolumeRecord → VolumeRecord
plainly v = record { mount = unchecked v.mount; root = v.root; label = v.label }

-- a choice of opening without the check
abbrev pub unheeding : How → How
unheeding how = record { highest = how.highest; checked = false; maps = how.maps }

-- each call without the check
abbrev pub plain : {A R : Type 0} → Call A R → Ask A
plain (opens how) = then (opening (unheeding how)) (λ v. done (as_checked v))
plain (labels how out) = labelling (unheeding how)
plain (reads v icb out) = reading (plainly v) icb
plain (measures v icb) = reading (plainly v) icb
plain (parts v icb) = parting (plainly v) icb
plain (parts_at v icb) = parting (plainly v) icb
plain (extents f v icb row) = extent_listing (plainly v) icb
plain (runs v icb row) = run_listing (plainly v) icb
plain (lists v icb out work) = listing (plainly v) (length work) icb
plain (lists_bytes v bytes out) = ended (listing_in (is_checked (plainly v).mount) bytes)
plain (shows v levels most out work) = showing (plainly v) levels most (length work)
plain (finds v path matching work) = finding (plainly v) (length work) path matching
plain (fails v path matching work) = seeking (plainly v) (length work) path matching
plain (fails_at v path matching work) = seeking (plainly v) (length work) path matching
plain (reads_path v path matching out work) = path_reading (plainly v) (length work) path matching

-- Every field of the state in which an opening and a read begin. RULES 14.1 to 14.5.
use Rattle.std.specs.Prelude.{ℕ, false, replicate, eqb, Option, Some, None}
use Rattle.disc.specs.Choice.{pick}
use Rattle.disc.specs.Places.{icb_placed}
use Rattle.disc.specs.declared.places.Mount.{Mount}
use Rattle.records.specs.declared.allocations.LongAd.{LongAd}
use Rattle.volumes.specs.Sequences.{nothing}
use Rattle.volumes.specs.Openings.{no_volume}
use Rattle.files.specs.Files.{entry_mount}
use Rattle.drives.specs.Openings.{anchor_phase}
use Rattle.drives.specs.Readings.{entry_phase, reading_over}
use Rattle.drives.specs.declared.openings.Opening.{Opening}
use Rattle.drives.specs.declared.scans.Scan.{Scan}
use Rattle.drives.specs.declared.readings.Body.{Body}
use Rattle.drives.specs.declared.readings.Reading.{Reading}

-- before the anchor, which is in sector 256
abbrev pub at_anchor : Opening
at_anchor = record { phase = anchor_phase; at = 256; left = 0; kept = nothing; opened = record { answer = 0; count = 0; volume = no_volume } }

-- nothing has been listed, and no continuation has begun to arrive
abbrev pub empty_scan : Scan
empty_scan = record { listed = 0; full = false; closed = 0; carried = 0; carry = replicate 20 0; next_length = 0; next_block = 0; next_reference = 0 }

abbrev pub empty_body : Body
empty_body = record { tagged = false; headed = false; crc = 0; summed = 0; body_left = 0; area_left = 0 }

-- the sector of the entry is wanted; nothing is known yet but how it is read
abbrev pub wants_entry : Mount → ℕ → Reading
wants_entry m at = record {
  phase = entry_phase;
  at = at;
  left = 0;
  mount = m;
  kind = 0;
  hops = 0;
  missing = 0;
  size = 0;
  next = 0;
  scan = empty_scan;
  body = empty_body;
  answer = 0;
  count = 0;
  length = 0;
}

-- a read that has ended: the phase and the answer are new
abbrev pub ended_with : Reading → ℕ → Reading
ended_with r number = record {
  phase = reading_over;
  at = r.at;
  left = r.left;
  mount = r.mount;
  kind = r.kind;
  hops = r.hops;
  missing = r.missing;
  size = r.size;
  next = r.next;
  scan = r.scan;
  body = r.body;
  answer = number;
  count = r.count;
  length = r.length;
}

-- before the file entry, where it stands on this volume; an entry that stands nowhere is 4
abbrev pub at_entry_sector : Mount → Option ℕ → Reading
at_entry_sector m None = ended_with (wants_entry m 0) 4
at_entry_sector m (Some at) = wants_entry m at

-- an ICB without a length is 2
unfoldable pub start_of : Mount → LongAd → Reading
start_of m icb =
    pick (eqb icb.length 0) (ended_with (wants_entry (entry_mount m icb) 0) 2)
    (at_entry_sector (entry_mount m icb) (icb_placed m icb.location.partition_ref icb.location.block))

-- What a sector leads to once it has arrived: for the contracts of private functions.
use Rattle.std.specs.Prelude.{ℕ, ◌+◌, ◌-◌, ◌≤◌, ◌≡◌, true, false, List, length, take, eqb, leb, Result}
use Rattle.disc.specs.Choice.{pick}
use Rattle.disc.specs.Places.{is_checked}
use Rattle.disc.specs.declared.places.Mount.{Mount}
use Rattle.entries.specs.FileEntries.{read_entry}
use Rattle.files.specs.Files.{located}
use Rattle.drives.specs.Feeds.{Feed, following, settled_in}
use Rattle.drives.specs.Feeds.Feed.{over, put}
use Rattle.drives.specs.FileFeeds.{extent_feed, entry_feed}
use Rattle.drives.specs.Readings.{behind_extent, entry_phase, header_phase, continuation_phase, is_wanting, Goes}
use Rattle.drives.specs.Inner.Turns.{ReadingStands}
use Rattle.drives.specs.Inner.Bodies.{no_body, head_behind, part_behind}
use Rattle.drives.specs.Inner.Scans.{begun}
use Rattle.drives.specs.declared.readings.Reading.{Reading}
use Rattle.entries.specs.declared.file_entries.FileEntry.{FileEntry}
use Rattle.disc.specs.declared.refusals.Refusal.{Refusal}

-- before the entry's sector: nothing is known yet but where it stands and how it is read
abbrev pub beginning : Mount → ℕ → Reading
beginning m at = record {
  phase = entry_phase;
  at = at;
  left = 0;
  mount = m;
  kind = 0;
  hops = 0;
  missing = 0;
  size = 0;
  next = 0;
  scan = begun 0;
  body = no_body;
  answer = 0;
  count = 0;
  length = 0;
}

-- behind the entry's sector
unfoldable pub entry_behind : Reading → Result FileEntry Refusal → List ℕ → Feed
entry_behind r e b = following (located r.at b e) (entry_feed r.mount)

-- behind a sector of an extent: its bytes, and what follows them
unfoldable pub bytes_behind : Reading → List (List ℕ) → List ℕ → Feed
bytes_behind r row b =
    pick (leb r.missing (length (take r.size b))) over
    (extent_feed r.left (r.at + 1) (r.size - 2048) (r.missing - length (take r.size b)) (behind_extent r row))

unfoldable pub extent_behind : Reading → List (List ℕ) → List ℕ → Feed
extent_behind r row b = put (take r.missing (take r.size b)) (bytes_behind r row b)

-- behind the sector that is wanted
unfoldable pub wanted_behind : Reading → List (List ℕ) → List ℕ → Feed
wanted_behind r row b =
    pick (eqb r.phase entry_phase) (entry_behind r (read_entry (is_checked r.mount) b) b)
    (pick (eqb r.phase header_phase) (head_behind r row b)
    (pick (eqb r.phase continuation_phase) (part_behind r row b)
    (extent_behind r row b)))

-- with its bytes in the output
pub record Arrives (f : Feed) (r : Reading) (out : List ℕ) (row row' : List (List ℕ)) (x : Reading) (out' : List ℕ) : Type 0 where
  pub goes : Goes (settled_in false (length row) (length out - r.length) f) r.count r.length out x row' out'
  pub inside : r.scan.listed ≤ length row → is_wanting x ≡ true → x.scan.listed ≤ length row'

-- the same state with n bytes more at the output, and n fewer missing
abbrev pub filled_by : Reading → ℕ → Reading
filled_by r n = record {
  phase = r.phase;
  at = r.at;
  left = r.left;
  mount = r.mount;
  kind = r.kind;
  hops = r.hops;
  missing = r.missing - n;
  size = r.size;
  next = r.next;
  scan = r.scan;
  body = r.body;
  answer = r.answer;
  count = r.count;
  length = r.length + n;
}

-- behind the bytes of a sector of an extent
pub record Nexts (r : Reading) (row : List (List ℕ)) (here : ℕ) (x y : Reading) : Type 0 where
  pub stands : (b : List ℕ) → length b ≡ 2048 → ReadingStands row (bytes_behind r row b) x y

-- Behind the file entry's sector: what the private functions say.
use Rattle.std.specs.Prelude.{ℕ, ◌+◌, List}
use Rattle.entries.specs.declared.file_entries.FileEntry.{FileEntry}
use Rattle.chains.specs.Chains.{most_continuations}
use Rattle.files.specs.Files.{Located}
use Rattle.drives.specs.Feeds.{Feed}
use Rattle.drives.specs.Feeds.Feed.{over, put}
use Rattle.drives.specs.FileFeeds.{chain_feed}
use Rattle.drives.specs.Readings.{area_of}
use Rattle.drives.specs.Inner.Arrivals.{Arrives}
use Rattle.drives.specs.declared.scans.Scan.{Scan}
use Rattle.drives.specs.declared.readings.Reading.{Reading}

-- the entry in its sector
abbrev pub located_in : Reading → FileEntry → List ℕ → Located
located_in r e b = record { at = r.at; sector = b; entry = e }

-- its descriptors are of this kind, and so many bytes are missing; up to 32 continuations may follow
abbrev pub of_entry : Reading → ℕ → ℕ → Scan → Reading
of_entry r kind missing s = record {
  phase = r.phase;
  at = r.at;
  left = r.left;
  mount = r.mount;
  kind = kind;
  hops = most_continuations;
  missing = missing;
  size = r.size;
  next = r.next;
  scan = s;
  body = r.body;
  answer = r.answer;
  count = r.count;
  length = r.length;
}

-- what follows the area in its entry
abbrev pub chain_of : Reading → ℕ → ℕ → List ℕ → Feed
chain_of r kind missing area = chain_feed r.mount kind most_continuations missing (area_of kind area).extents (area_of kind area).ending

-- with n bytes more at the output
abbrev pub longer_by : Reading → ℕ → Reading
longer_by r n = record {
  phase = r.phase;
  at = r.at;
  left = r.left;
  mount = r.mount;
  kind = r.kind;
  hops = r.hops;
  missing = r.missing;
  size = r.size;
  next = r.next;
  scan = r.scan;
  body = r.body;
  answer = r.answer;
  count = r.count;
  length = r.length + n;
}

-- the bytes of an embedded file, which need no row
pub record Embeds (r : Reading) (bytes out : List ℕ) (x : Reading) (out' : List ℕ) : Type 0 where
  pub arrives : (row : List (List ℕ)) → Arrives (put bytes over) r out row row x out'

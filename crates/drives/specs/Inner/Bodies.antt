-- A continuation whose sectors come one at a time: what the private functions say.
use Rattle.std.specs.Prelude.{ℕ, ◌+◌, ◌-◌, ◌≤◌, ◌≡◌, Bool, true, false, not, ◌&&◌, List, [], ◌++◌, length, take, drop, eqb, leb, Result, Ok, Err}
use Rattle.disc.specs.Choice.{pick}
use Rattle.disc.specs.Images.{sectors}
use Rattle.disc.specs.Places.{is_checked}
use Rattle.records.specs.Bytes.{u32at}
use Rattle.crcs.specs.Crcs.{crc_from}
use Rattle.tags.specs.Tags.{read_aed}
use Rattle.tags.specs.declared.DescriptorTag.{DescriptorTag}
use Rattle.chains.specs.Chains.{area_in}
use Rattle.drives.specs.Feeds.{Feed, following, naming, settled_in, crowded_by}
use Rattle.drives.specs.Feeds.Feed.{name}
use Rattle.drives.specs.FileFeeds.{named_by, chain_feed}
use Rattle.drives.specs.Readings.{extents_in, ending_of, padded, rest_of, is_right, headed, named_in, behind_area, is_wanting, left_of, number_of}
use Rattle.drives.specs.Inner.Turns.{quiet}
use Rattle.drives.specs.declared.scans.Scan.{Scan}
use Rattle.drives.specs.declared.readings.Body.{Body}
use Rattle.drives.specs.declared.readings.Reading.{Reading}
use Rattle.disc.specs.declared.refusals.Refusal.{Refusal}
use Rattle.disc.specs.declared.refusals.Refusal.TheVariants.{Malformed, BadCrc}

-- ---- the header's verdict, once all has come

abbrev pub is_wrong : Bool → Body → Bool
is_wrong check b = check && not (is_right b [])

abbrev pub judged : Bool → Body → Result (Unit {0}) Refusal
judged check b = pick b.tagged (pick (is_wrong check b) (Err BadCrc) (pick b.headed (Ok tt) (Err Malformed))) (Err Malformed)

unfoldable pub finished : Reading → List (List ℕ) → Feed
finished r row =
    crowded_by r.scan.full
    (headed (is_checked r.mount) r.body []
    (chain_feed r.mount r.kind r.hops r.missing (extents_in row r.scan.listed) (ending_of r.scan)))

-- ---- what its sectors say of its body

-- it is a header, and its area fits the continuation
abbrev pub is_header : DescriptorTag → ℕ → List ℕ → Bool
is_header t size s = eqb t.id 258 && leb (24 + u32at s 20) size

-- the first: of a good tag the id, the CRC and its length (3/7.2), and the area's length
abbrev pub body_of : DescriptorTag → ℕ → List ℕ → Body
body_of t size s = record {
  tagged = true;
  headed = is_header t size s;
  crc = t.crc;
  summed = crc_from 0 (take t.crc_length (drop 16 s));
  body_left = t.crc_length - 2032;
  area_left = pick (is_header t size s) (u32at s 20 - 2024) 0;
}

abbrev pub no_body : Body
no_body = record { tagged = false; headed = false; crc = 0; summed = 0; body_left = 0; area_left = 0 }

abbrev pub body_in : Result DescriptorTag Refusal → ℕ → List ℕ → Body
body_in (Ok t) size s = body_of t size s
body_in (Err r) size s = no_body

-- a further one
abbrev pub body_behind : Body → List ℕ → Body
body_behind b s = record {
  tagged = b.tagged;
  headed = b.headed;
  crc = b.crc;
  summed = crc_from b.summed (take b.body_left s);
  body_left = b.body_left - 2048;
  area_left = b.area_left - 2048;
}

-- ---- what is left behind a sector

-- behind bytes of it, all of its others being `more`
abbrev pub behind_bytes : Reading → List (List ℕ) → List ℕ → Feed
behind_bytes r row more =
    headed (is_checked r.mount) r.body more
    (behind_area r (extents_in row r.scan.listed) (rest_of r.kind r.scan (padded r.body.area_left more)))

-- n sectors of it from `at` on
unfoldable pub in_body : Reading → List (List ℕ) → ℕ → ℕ → Feed
in_body r row n at = naming (named_in r row) (sectors n at) (behind_bytes r row)

-- behind a further sector, and behind the first
unfoldable pub part_behind : Reading → List (List ℕ) → List ℕ → Feed
part_behind r row b =
    crowded_by r.scan.full
    (name (named_in r row b)
    (naming (λ more. named_in r row (b ++ more)) (sectors r.left (r.at + 1)) (λ more. behind_bytes r row (b ++ more))))

unfoldable pub head_behind : Reading → List (List ℕ) → List ℕ → Feed
head_behind r row b =
    name (named_by r.kind r.size (extents_in row r.scan.listed) b)
    (naming (λ more. named_by r.kind r.size (extents_in row r.scan.listed) (b ++ more)) (sectors r.left (r.at + 1)) (λ more.
    following (area_in r.kind r.size (b ++ more) (read_aed (is_checked r.mount) (b ++ more)))
    (behind_area r (extents_in row r.scan.listed))))

-- a state with another place in the area and in the body
abbrev pub with_parts : Reading → Scan → Body → Reading
with_parts r s b = record {
  phase = r.phase;
  at = r.at;
  left = r.left;
  mount = r.mount;
  kind = r.kind;
  hops = r.hops;
  missing = r.missing;
  size = r.size;
  next = r.next;
  scan = s;
  body = b;
  answer = r.answer;
  count = r.count;
  length = r.length;
}

pub record Parts (r : Reading) (s : Scan) (b : Body) (x : Reading) : Type 0 where
  pub is : x ≡ with_parts r s b

-- where the row was written meanwhile
pub record Lands (row : List (List ℕ)) (f : Feed) (r : Reading) (row' : List (List ℕ)) (x : Reading) : Type 0 where
  pub long : length row' ≡ length row
  pub left : (room : ℕ) → settled_in false (length row) room f ≡ quiet (left_of x row')
  pub answer : x.answer ≡ number_of (left_of x row')
  pub count : x.count ≡ r.count
  pub filled : x.length ≡ r.length
  pub inside : r.scan.listed ≤ length row → is_wanting x ≡ true → x.scan.listed ≤ length row'

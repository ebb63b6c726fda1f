-- A file's read, fed a sector at a time: the place in its feed that a state stands for with the row in which its extents wait, and a step.
-- RULES 6 and 7, 14.1 to 14.9.
use Rattle.std.specs.Prelude.{ℕ, suc, ◌+◌, ◌-◌, ◌*◌, ◌≤◌, ◌≡◌, Bool, true, false, not, ◌&&◌, List, ◌++◌, map, length, get_or, take, drop, replicate, eqb, ltb, leb, Option, Some, None}
use Rattle.disc.specs.Choice.{pick}
use Rattle.disc.specs.Counts.{reported}
use Rattle.disc.specs.Refusals.{number, refusal_of}
use Rattle.disc.specs.Ask.{then}
use Rattle.disc.specs.Images.{sectors}
use Rattle.disc.specs.Places.{is_checked}
use Rattle.disc.specs.declared.refusals.Refusal.TheVariants.{Malformed, Unsupported, BadCrc}
use Rattle.crcs.specs.Crcs.{crc_from}
use Rattle.tags.specs.Tags.{read_aed}
use Rattle.areas.specs.declared.AllocExtent.{AllocExtent}
use Rattle.areas.specs.declared.AdEnding.{AdEnding}
use Rattle.areas.specs.declared.AdEnding.TheVariants.{End, Continuation, Refused}
use Rattle.areas.specs.Areas.{size_of, extent, continuation, Area, ended, area_at}
use Rattle.chains.specs.Chains.{area_in}
use Rattle.files.specs.Files.{entry_in}
use Rattle.drives.specs.Feeds.{Feed, following, naming, crowded_by, lent, fed_by, Settled, settled_in}
use Rattle.drives.specs.Feeds.Feed.{over, stop, name, hold, put, want}
use Rattle.drives.specs.FileFeeds.{extent_feed, extents_feed, joined, named_by, chain_feed, entry_feed}
use Rattle.drives.specs.Openings.{most_sectors}
use Rattle.drives.specs.declared.scans.Scan.{Scan}
use Rattle.drives.specs.declared.readings.Body.{Body}
use Rattle.drives.specs.declared.readings.Reading.{Reading}

-- ---- the row in which extents wait (RULES 7.15)

abbrev pub reference_in : ℕ → Option ℕ
reference_in n = pick (ltb n 65536) (Some n) None

-- effective length, type, block, and reference or 65,536
abbrev pub extent_in : List ℕ → AllocExtent
extent_in w = extent (get_or w 0 0) (get_or w 1 0) (get_or w 2 0) (reference_in (get_or w 3 0))

abbrev pub extents_in : List (List ℕ) → ℕ → List AllocExtent
extents_in row n = map extent_in (take n row)

-- ---- an area that arrives in parts

-- of the bytes of an area that were all read
unfoldable pub area_of : ℕ → List ℕ → Area
area_of kind s = area_at kind s 0 (length s)

-- how it ended: 0, not yet, and 1 at a descriptor of length 0 or for want of more, 2 with a continuation, any other by 4
abbrev pub ending_of : Scan → AdEnding
ending_of s =
    pick (ltb s.closed 2) End
    (pick (eqb s.closed 2) (Continuation (continuation s.next_length (record { 0 = s.next_block }) (reference_in s.next_reference)))
    (Refused Unsupported))

-- the descriptor that has begun to arrive
abbrev pub carried_in : Scan → List ℕ
carried_in s = take s.carried s.carry

-- n bytes that are yet to come, with zeros for those that don't
abbrev pub padded : ℕ → List ℕ → List ℕ
padded n more = take n (more ++ replicate n 0)

-- what its bytes that are yet to come make of the area
unfoldable pub rest_of : ℕ → Scan → List ℕ → Area
rest_of kind s more = pick (eqb s.closed 0) (area_of kind (carried_in s ++ more)) (ended (ending_of s))

-- ---- a continuation that arrives in parts

-- the rest of its body has the CRC that the tag says
abbrev pub is_right : Body → List ℕ → Bool
is_right b more = pick (leb b.body_left (length more)) (eqb (crc_from b.summed (take b.body_left more)) b.crc) false

-- its header: a bad tag, where bodies are checked a wrong one, another id or an area that passes the continuation; f is what follows
abbrev pub headed : Bool → Body → List ℕ → Feed → Feed
headed check b more f =
    pick b.tagged
    (pick (check && not (is_right b more)) (stop BadCrc)
    (pick b.headed f (stop Malformed)))
    (stop Malformed)

-- ---- what is left

-- how many extents there are in all once the next bytes of a continuation have come
abbrev pub named_in : Reading → List (List ℕ) → List ℕ → ℕ
named_in r row more = length (joined (extents_in row r.scan.listed) (rest_of r.kind r.scan (take r.body.area_left more)))

-- behind an area
abbrev pub behind_area : Reading → List AllocExtent → Area → Feed
behind_area r es x = chain_feed r.mount r.kind r.hops r.missing (joined es x) x.ending

-- behind an extent, with what is missing then
abbrev pub behind_extent : Reading → List (List ℕ) → ℕ → Feed
behind_extent r row left = pick (leb left 0) over (extents_feed r.mount (drop r.next (extents_in row r.scan.listed)) left)

-- the phases: the entry's sector is wanted, the first one of a continuation, a further one, or one of an extent; and the one in which it has ended
abbrev pub entry_phase : ℕ
entry_phase = 0

abbrev pub header_phase : ℕ
header_phase = 1

abbrev pub continuation_phase : ℕ
continuation_phase = 2

abbrev pub extent_phase : ℕ
extent_phase = 3

abbrev pub reading_over : ℕ
reading_over = 4

-- by what it wants
unfoldable pub feed_of : Reading → List (List ℕ) → Feed
feed_of r row =
    pick (eqb r.phase entry_phase) (following (entry_in (is_checked r.mount) r.at) (entry_feed r.mount))
    (pick (eqb r.phase header_phase)
    (naming (named_by r.kind r.size (extents_in row r.scan.listed))
    (then (sectors (suc r.left) r.at) (λ s. area_in r.kind r.size s (read_aed (is_checked r.mount) s)))
    (behind_area r (extents_in row r.scan.listed)))
    (pick (eqb r.phase continuation_phase)
    (crowded_by r.scan.full
    (naming (named_in r row) (sectors (suc r.left) r.at) (λ more.
    headed (is_checked r.mount) r.body more
    (behind_area r (extents_in row r.scan.listed) (rest_of r.kind r.scan (padded r.body.area_left more))))))
    (extent_feed (suc r.left) r.at r.size r.missing (behind_extent r row))))

-- a continuation's sectors hold all of its bytes; within one less than a whole descriptor is carried, and its sectors hold the rest of the area
abbrev pub is_sound : Reading → Bool
is_sound r =
    pick (eqb r.phase header_phase) (leb r.size (2048 * (r.left + 1)))
    (pick (eqb r.phase continuation_phase) (pick (ltb r.scan.carried (size_of r.kind)) (leb r.body.area_left (2048 * (r.left + 1))) false)
    true)

-- a state that wants a sector: in one of these phases, at a place on a disc
abbrev pub is_wanting : Reading → Bool
is_wanting r = pick (ltb r.phase reading_over) (pick (ltb (r.at + r.left) most_sectors) (is_sound r) false) false

-- the sector that it wants
abbrev pub wanted_sector : Reading → ℕ
wanted_sector r = pick (is_wanting r) r.at 0

-- what is left of a state that has ended
abbrev pub end_tree : ℕ → Feed
end_tree answer = pick (eqb answer 0) over (stop (refusal_of answer))

-- whatever output it has, and however long the row is
unfoldable pub left_of : Reading → List (List ℕ) → Feed
left_of r row = pick (is_wanting r) (feed_of r row) (end_tree r.answer)

-- ---- a step

-- the answer number of what is left: 0 until it has ended
abbrev pub number_of : Feed → ℕ
number_of over = 0
number_of (stop r) = number r
number_of (name n f) = 0
number_of (hold n f) = 0
number_of (put b f) = 0
number_of (want s k) = 0

-- the bytes behind those that were filled
abbrev pub put_at : ℕ → List ℕ → List ℕ → List ℕ
put_at filled b out = take filled out ++ (b ++ drop (filled + length b) out)

-- the state, the row and the output with which it goes on: b arrived, and f is left
pub record Goes (x : Settled) (n from : ℕ) (out : List ℕ) (r : Reading) (row : List (List ℕ)) (after : List ℕ) : Type 0 where
  pub left : left_of r row ≡ x.rest
  pub answer : r.answer ≡ number_of x.rest
  pub count : r.count ≡ n
  pub filled : r.length ≡ from + length x.bytes
  pub output : after ≡ put_at from x.bytes out

-- all zero once it has ended
abbrev pub zeroed : List (List ℕ) → List (List ℕ)
zeroed row = replicate (length row) (replicate 4 0)

pub record Same (r : Reading) (row : List (List ℕ)) (out : List ℕ) (r' : Reading) (row' : List (List ℕ)) (out' : List ℕ) : Type 0 where
  pub state : r' ≡ r
  pub kept : row' ≡ row
  pub output : out' ≡ out

-- a step of a state that wants a sector takes the branch of what was lent, in the slots and the room of this step, and counts; of one that has ended it
-- changes nothing. The places below `listed` are in the row
pub record Fed (r : Reading) (sector : List ℕ) (row : List (List ℕ)) (out : List ℕ) (r' : Reading) (row' : List (List ℕ)) (out' : List ℕ) : Type 0 where
  pub slots : length row' ≡ length row
  pub room : length out' ≡ length out
  pub takes : is_wanting r ≡ true
      → Goes (settled_in false (length row) (length out - r.length) (fed_by (lent sector) (left_of r row))) (reported (r.count + 1)) r.length out r' row' out'
  pub inside : r.scan.listed ≤ length row → is_wanting r' ≡ true → r'.scan.listed ≤ length row'
  pub ends : is_wanting r ≡ true → is_wanting r' ≡ false → row' ≡ zeroed row
  pub stays : is_wanting r ≡ false → Same r row out r' row' out'

-- where it starts: whatever the output is
pub record Starts (f : Feed) (row row' : List (List ℕ)) (r : Reading) : Type 0 where
  pub left : left_of r row' ≡ f
  pub answer : r.answer ≡ number_of f
  pub count : r.count ≡ 0
  pub filled : r.length ≡ 0
  pub listed : is_wanting r ≡ true → r.scan.listed ≡ 0
  pub zeros : row' ≡ zeroed row

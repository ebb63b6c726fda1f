-- What is told of a read by steps, beside the read by its own contract: RULES 14.
use Rattle.std.specs.Prelude.{◌≡◌, false, List, ◌++◌, ℕ, ◌+◌, ◌<◌, length, take}
use Rattle.disc.specs.Counts.{reported}
use Rattle.disc.specs.Ask.{Disc, Outcome, outcome, asked, Ask}
use Rattle.disc.specs.Ask.Outcome.{answered, refused}
use Rattle.disc.specs.Ran.{ran}
use Rattle.disc.specs.Replies.{answer_of}
use Rattle.disc.specs.declared.places.Mount.{Mount}
use Rattle.disc.specs.declared.refusals.Refusal.{Refusal}
use Rattle.disc.specs.declared.replies.Reply.{Reply}
use Rattle.records.specs.declared.allocations.LongAd.{LongAd}
use Rattle.files.specs.Files.{file_bytes}
use Rattle.drives.specs.Feeds.{Feed, Grown, within, arrived, Short, short_of, End}
use Rattle.drives.specs.FileFeeds.{file_feed}
use Rattle.drives.specs.declared.readings.Reading.{Reading}
use Rattle.volumes.specs.Openings.{opened_by, opened_of, usual, opening}
use Rattle.volumes.specs.declared.openings.VolumeRecord.{VolumeRecord}
use Rattle.drives.specs.Feeds.End.{refuses, answers}
use Rattle.drives.specs.declared.openings.Opening.{Opening}

-- ---- a read in the row and the output as they were lent at first and grew

abbrev pub bounded_by : Mount → LongAd → List (List ℕ) → List ℕ → List Grown → Feed
bounded_by m icb row out gs = within false (length row) (length out) gs (file_feed m icb)

-- what they fell short of
abbrev pub shortfall : Disc → Mount → LongAd → List (List ℕ) → List ℕ → List Grown → Short
shortfall d m icb row out gs = short_of d false (length row) (length out) gs (file_feed m icb)

-- ---- a read that has ended in the state q, after the sectors ns

-- by the read's own answer, after the very sectors of its list
pub record Own (d : Disc) (m : Mount) (icb : LongAd) (ns : List ℕ) (q : Reading) : Type 0 where
  pub list : ns ≡ asked d (file_bytes m icb)
  pub answer : q.answer ≡ answer_of (outcome d (file_bytes m icb))
  pub count : q.count ≡ reported (ran d (file_bytes m icb)).count

-- answered: its bytes are those that were taken away and those in the output
pub record Done (d : Disc) (m : Mount) (icb : LongAd) (ns taken out : List ℕ) (q : Reading) : Type 0 where
  pub bytes : List ℕ
  pub reads : outcome d (file_bytes m icb) ≡ answered bytes
  pub list : ns ≡ asked d (file_bytes m icb)
  pub holds : taken ++ take q.length out ≡ bytes
  pub told : length taken + q.length ≡ length bytes

-- with the reply of the read, and the output that it leaves
pub record Equal (q : Reading) (out after : List ℕ) (reply : Reply) : Type 0 where
  pub answer : q.answer ≡ reply.answer
  pub count : q.count ≡ reply.count
  pub length : q.length ≡ reply.length
  pub output : out ≡ after

-- by 5: the read itself is refused by 5, or more bytes than there is room for arrive before a later refusal
pub data FiveBy (d : Disc) (m : Mount) (icb : LongAd) (out : List ℕ) (reply : Reply) : Type 0 where
  at_last : reply.answer ≡ 5 → FiveBy d m icb out reply
  before : {why : Refusal} → outcome d (file_bytes m icb) ≡ refused why → length out < length (arrived d (file_feed m icb)) → FiveBy d m icb out reply

-- ---- two reads

-- the same list, answer, count and bytes
pub record ReadAlike (ns ns' : List ℕ) (q q' : Reading) (b b' : List ℕ) : Type 0 where
  pub list : ns ≡ ns'
  pub answer : q.answer ≡ q'.answer
  pub count : q.count ≡ q'.count
  pub bytes : b ≡ b'

-- the same length, row and output
pub record StillAlike (q q' : Reading) (row row' : List (List ℕ)) (out out' : List ℕ) : Type 0 where
  pub length : q.length ≡ q'.length
  pub rows : row ≡ row'
  pub output : out ≡ out'

-- an outcome by how it ended and what had arrived
abbrev pub outcome_by : End → List ℕ → Outcome (List ℕ)
outcome_by answers b = answered b
outcome_by (refuses r) b = refused r

-- what a walk comes to
pub record OpeningCame (d : Disc) (t : Ask VolumeRecord) (ns : List ℕ) (m : ℕ) (q : Opening) : Type 0 where
  pub list : ns ≡ asked d t
  pub says : q.opened ≡ opened_by (reported (m + length ns)) (outcome d t)

-- from the start: the sectors wanted are the opening's list in order, and what is said at the end is what the opening of that disc says
pub record Opens (d : Disc) (ns : List ℕ) (q : Opening) : Type 0 where
  pub list : ns ≡ asked d (opening usual)
  pub says : q.opened ≡ opened_of (ran d (opening usual))

-- discs that agree on the sectors wanted give the same list, answer, count and volume
pub record OpensAlike (ns ns' : List ℕ) (q q' : Opening) : Type 0 where
  pub list : ns ≡ ns'
  pub says : q.opened ≡ q'.opened

-- The calls of the library that read an image, with their arguments and what they are lent, as one type: every promise is one theorem over it
-- (proofs/Promises.antt).
use Rattle.std.specs.Prelude.{ℕ, Bool, true, false, ◌||◌, ◌&&◌, not, List, [], ◌∷◌, length, eqb, leb}
use Rattle.disc.specs.Choice.{pick}
use Rattle.disc.specs.Ask.{Ask, ended, Outcome, asked}
use Rattle.disc.specs.Images.{disc}
use Rattle.disc.specs.Ran.{Ran, ran}
use Rattle.disc.specs.Budgets.{is_budget}
use Rattle.disc.specs.Places.{is_checked}
use Rattle.disc.specs.Replies.{measured_of}
use Rattle.disc.specs.declared.replies.Reply.{Reply}
use Rattle.records.specs.Allocations.{no_long}
use Rattle.records.specs.declared.allocations.LongAd.{LongAd}
use Rattle.areas.specs.declared.AllocExtent.{AllocExtent}
use Rattle.files.specs.Files.{Part}
use Rattle.layouts.specs.Runs.{pair_of}
use Rattle.layouts.specs.declared.runs.Run.{Run}
use Rattle.listings.specs.Listings.{listing as listing_in}
use Rattle.listings.specs.declared.matchings.Matching.{Matching}
use Rattle.listings.specs.declared.matchings.Matching.TheVariants.{CaseIgnored, AsWritten, Unambiguous}
use Rattle.volumes.specs.Openings.{opening, opened_of, no_volume}
use Rattle.volumes.specs.Labels.{labelling}
use Rattle.volumes.specs.declared.openings.How.{How}
use Rattle.volumes.specs.declared.openings.Opened.{Opened}
use Rattle.volumes.specs.declared.openings.VolumeRecord.{VolumeRecord}
use Rattle.directories.specs.Lookups.{Sought}
use Rattle.directories.specs.Lookups.Sought.{reached, lost}
use Rattle.vault.specs.Calls.{reading, parting, extent_listing, run_listing, listing, showing, seeking, finding, path_reading, Written, written, Worked, worked, Looked, looked, Lost, lost as lost_by, LostPlace, lost_place, Parted, parted, PartedPlace, parted_place, Rowed, rowed, cleared}
use Rattle.disc.specs.Ask.Outcome.{answered, refused}
use Rattle.disc.specs.Lists.{any_missing}
use Rattle.disc.specs.Refusals.{number}

-- ---- how a call reports a run

pub record Way (A R : Type 0) : Type 0 where
  pub told : Ran A → R  -- all that it leaves: answer, count and memory
  pub answer : R → ℕ
  pub count : R → ℕ
  pub bare : ℕ → ℕ → R  -- a number and a count, zeros beside them, the output as it was lent and the work space zeroed
  pub fits : A → Bool  -- whether what the questions came to can be given
  pub last : ℕ  -- the number if it can't: 5 or 7 for want of room, 3 of a component that isn't there; 0 if it always can
  pub holds : ℕ  -- the number under which something is given: under every other the call leaves what is bare

abbrev replied : ℕ → ℕ → Reply
replied a n = record { answer = a; count = n; length = 0 }

abbrev always : {A : Type 0} → A → Bool
always a = true

abbrev is_reached : Sought → Bool
is_reached (reached icb) = true
is_reached (lost c) = false

abbrev pub by_volume : Way VolumeRecord Opened
by_volume = record { told = opened_of; answer = λ r. r.answer; count = λ r. r.count; bare = λ a n. record { answer = a; count = n; volume = no_volume }; fits = always; last = 0; holds = 0 }

abbrev pub by_size : Way (List ℕ) Reply
by_size = record { told = measured_of; answer = λ r. r.answer; count = λ r. r.count; bare = replied; fits = always; last = 0; holds = 0 }

abbrev pub by_icb : List ℕ → Way LongAd Looked
by_icb work = record { told = looked work; answer = λ r. r.found.answer; count = λ r. r.found.count; bare = λ a n. record { found = record { answer = a; count = n; icb = no_long }; work = cleared work }; fits = always; last = 0; holds = 0 }

abbrev pub by_part : Way Part Parted
by_part = record { told = parted; answer = λ r. r.answer; count = λ r. r.count; bare = λ a n. record { part = []; answer = a; count = n }; fits = always; last = 0; holds = 0 }

abbrev pub by_place : Way Part PartedPlace
by_place = record { told = parted_place; answer = λ r. r.reply.answer; count = λ r. r.reply.count; bare = λ a n. record { reply = replied a n; at = 0 }; fits = always; last = 0; holds = 0 }

abbrev pub by_bytes : List ℕ → Way (List ℕ) Written
by_bytes out = record { told = written out; answer = λ r. r.reply.answer; count = λ r. r.reply.count; bare = λ a n. record { reply = replied a n; out = out }; fits = λ b. leb (length b) (length out); last = 5; holds = 0 }

abbrev pub by_work : List ℕ → List ℕ → Way (List ℕ) Worked
by_work out work = record { told = worked out work; answer = λ r. r.reply.answer; count = λ r. r.reply.count; bare = λ a n. record { reply = replied a n; out = out; work = cleared work }; fits = λ b. leb (length b) (length out); last = 5; holds = 0 }

abbrev pub by_row : {E B : Type 0} → (E → B) → List B → Way (List E) (Rowed B)
by_row f row = record { told = rowed f row; answer = λ r. r.reply.answer; count = λ r. r.reply.count; bare = λ a n. record { reply = replied a n; row = row }; fits = λ l. leb (length l) (length row); last = 7; holds = 0 }

abbrev pub by_lost : List ℕ → Way Sought Lost
by_lost work = record { told = lost_by work; answer = λ r. r.answer; count = λ r. r.count; bare = λ a n. record { component = []; answer = a; count = n; work = cleared work }; fits = is_reached; last = 3; holds = 3 }

abbrev pub by_lost_place : List ℕ → Way Sought LostPlace
by_lost_place work = record { told = lost_place work; answer = λ r. r.reply.answer; count = λ r. r.reply.count; bare = λ a n. record { reply = replied a n; at = 0; work = cleared work }; fits = is_reached; last = 3; holds = 3 }

-- the answer number for what the tree answered
abbrev pub gives : {A R : Type 0} → Way A R → A → ℕ
gives w a = pick (w.fits a) 0 w.last

-- ---- the refusals of a call's tree besides 1 (RULES 1.1): 2, and those marked here

pub record Row : Type 0 where
  pub three : Bool
  pub four : Bool
  pub six : Bool
  pub nine : Bool
  pub eleven : Bool
  pub sixteen : Bool
  pub ten : Bool

abbrev pub says : Row → ℕ → Bool
says t n = eqb n 2 || (eqb n 4 && t.four) || (eqb n 3 && t.three) || (eqb n 6 && t.six) || (eqb n 9 && t.nine) || (eqb n 11 && t.eleven) || (eqb n 16 && t.sixteen) || (eqb n 10 && t.ten)

abbrev pub third : Matching → Bool
third CaseIgnored = false
third AsWritten = false
third Unambiguous = true

abbrev of_opening : How → Row
of_opening how = record { three = true; four = true; six = false; nine = false; eleven = false; sixteen = false; ten = how.checked }

abbrev of_file : VolumeRecord → Row
of_file v = record { three = false; four = true; six = false; nine = false; eleven = false; sixteen = false; ten = is_checked v.mount }

-- a directory's bytes at hand
abbrev of_bytes : VolumeRecord → Row
of_bytes v = record { three = false; four = false; six = false; nine = false; eleven = false; sixteen = false; ten = is_checked v.mount }

abbrev of_directory : VolumeRecord → Row
of_directory v = record { three = false; four = true; six = true; nine = false; eleven = false; sixteen = false; ten = is_checked v.mount }

abbrev of_path : VolumeRecord → Matching → Row
of_path v matching = record { three = true; four = true; six = true; nine = third matching; eleven = false; sixteen = false; ten = is_checked v.mount }

-- a component that isn't there is an answer of the walk, and no refusal
abbrev of_walk : VolumeRecord → Matching → Row
of_walk v matching = record { three = false; four = true; six = true; nine = third matching; eleven = false; sixteen = false; ten = is_checked v.mount }

-- 16 where there is a budget
abbrev of_show : VolumeRecord → ℕ → Row
of_show v most = record { three = false; four = true; six = true; nine = false; eleven = true; sixteen = is_budget most; ten = is_checked v.mount }

-- ---- the calls: what their trees answer, and what they leave

pub data Call : Type 0 → Type 0 → Type 1 where
  opens : How → Call VolumeRecord Opened
  labels : How → List ℕ → Call (List ℕ) Written
  reads : VolumeRecord → LongAd → List ℕ → Call (List ℕ) Written
  measures : VolumeRecord → LongAd → Call (List ℕ) Reply
  parts : VolumeRecord → LongAd → Call Part Parted
  parts_at : VolumeRecord → LongAd → Call Part PartedPlace
  extents : {B : Type 0} → (AllocExtent → B) → VolumeRecord → LongAd → List B → Call (List AllocExtent) (Rowed B)
  runs : VolumeRecord → LongAd → List (List ℕ) → Call (List Run) (Rowed (List ℕ))
  lists : VolumeRecord → LongAd → List ℕ → List ℕ → Call (List ℕ) Worked
  lists_bytes : VolumeRecord → List ℕ → List ℕ → Call (List ℕ) Written
  shows : VolumeRecord → ℕ → ℕ → List ℕ → List ℕ → Call (List ℕ) Worked
  finds : VolumeRecord → List ℕ → Matching → List ℕ → Call LongAd Looked
  fails : VolumeRecord → List ℕ → Matching → List ℕ → Call Sought Lost
  fails_at : VolumeRecord → List ℕ → Matching → List ℕ → Call Sought LostPlace
  reads_path : VolumeRecord → List ℕ → Matching → List ℕ → List ℕ → Call (List ℕ) Worked

pub record Spec (A R : Type 0) : Type 0 where
  pub tree : Ask A
  pub row : Row
  pub way : Way A R

abbrev pub spec : {A R : Type 0} → Call A R → Spec A R
spec (opens how) = record { tree = opening how; row = of_opening how; way = by_volume }
spec (labels how out) = record { tree = labelling how; row = of_opening how; way = by_bytes out }
spec (reads v icb out) = record { tree = reading v icb; row = of_file v; way = by_bytes out }
spec (measures v icb) = record { tree = reading v icb; row = of_file v; way = by_size }
spec (parts v icb) = record { tree = parting v icb; row = of_file v; way = by_part }
spec (parts_at v icb) = record { tree = parting v icb; row = of_file v; way = by_place }
spec (extents f v icb row) = record { tree = extent_listing v icb; row = of_file v; way = by_row f row }
spec (runs v icb row) = record { tree = run_listing v icb; row = of_file v; way = by_row pair_of row }
spec (lists v icb out work) = record { tree = listing v (length work) icb; row = of_directory v; way = by_work out work }
spec (lists_bytes v bytes out) = record { tree = ended (listing_in (is_checked v.mount) bytes); row = of_bytes v; way = by_bytes out }
spec (shows v levels most out work) = record { tree = showing v levels most (length work); row = of_show v most; way = by_work out work }
spec (finds v path matching work) = record { tree = finding v (length work) path matching; row = of_path v matching; way = by_icb work }
spec (fails v path matching work) = record { tree = seeking v (length work) path matching; row = of_walk v matching; way = by_lost work }
spec (fails_at v path matching work) = record { tree = seeking v (length work) path matching; row = of_walk v matching; way = by_lost_place work }
spec (reads_path v path matching out work) = record { tree = path_reading v (length work) path matching; row = of_path v matching; way = by_work out work }

-- ---- what a call leaves on an image

module _ {A R : Type 0} (c : Call A R) where
  abbrev pub tree : Ask A
  tree = (spec c).tree

  abbrev pub way : Way A R
  way = (spec c).way

  -- the numbers that the call may answer
  abbrev pub may : ℕ → Bool
  may n = eqb n 0 || eqb n 1 || eqb n way.last || says (spec c).row n

  abbrev pub leaves : List ℕ → R
  leaves image = way.told (ran (disc image) tree)

  abbrev pub answer_on : List ℕ → ℕ
  answer_on image = way.answer (leaves image)

  abbrev pub count_on : List ℕ → ℕ
  count_on image = way.count (leaves image)

-- ---- many files in one call: the numbers of its items

-- a number is among them
abbrev pub among : ℕ → List ℕ → Bool
among k [] = false
among k (a ∷ rest) = eqb a k || among k rest

abbrev pub number_of : {A R : Type 0} → Way A R → Outcome A → ℕ
number_of w (answered a) = gives w a
number_of w (refused why) = number why

-- some sector of the list isn't wholly inside the image
abbrev pub lacking : {A : Type 0} → List ℕ → Ask A → Bool
lacking image call = any_missing image (asked (disc image) call)

abbrev pub exceeds : {A R : Type 0} → Way A R → Outcome A → Bool
exceeds w (answered a) = not (w.fits a)
exceeds w (refused why) = false

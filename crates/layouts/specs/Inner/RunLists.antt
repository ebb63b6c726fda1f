-- What the passes over a file's runs report: for the contracts of private functions.
use Rattle.std.specs.Prelude.{ℕ, min, ◌≡◌, List, [], ◌∷◌, Result, Ok, Err}
use Rattle.disc.specs.Ask.{Outcome}
use Rattle.disc.specs.Ask.Outcome.{answered, refused}
use Rattle.disc.specs.Ran.{Ran, ran, after}
use Rattle.disc.specs.Images.{disc}
use Rattle.disc.specs.Replies.{reply_of}
use Rattle.disc.specs.declared.places.Mount.{Mount}
use Rattle.disc.specs.declared.refusals.Refusal.TheVariants.{NoSlot}
use Rattle.disc.specs.declared.replies.Reply.{Reply}
use Rattle.areas.specs.declared.AllocExtent.{AllocExtent}
use Rattle.chains.specs.Inner.Walks.{left}
use Rattle.chains.specs.declared.cursors.ChainCursor.{ChainCursor}
use Rattle.files.specs.Inner.Passes.{Came}
use Rattle.files.specs.Inner.Passes.Came.{comes, stops}
use Rattle.files.specs.Inner.Wholes.{front_of}
use Rattle.files.specs.declared.icbs.FilePlace.{FilePlace}
use Rattle.layouts.specs.declared.runs.Run.{Run}
use Rattle.layouts.specs.Runs.{run_here, extents_runs}
use Rattle.layouts.specs.Inner.Lists.{stored_of}
use Rattle.layouts.specs.declared.runs.Running.{Running}
use Rattle.layouts.specs.declared.runs.RunCount.{RunCount}
use Rattle.disc.specs.declared.refusals.CountedRefusal.{CountedRefusal}

-- the run of the rest: by the extents that are left, and by a cursor
abbrev pub runs_on : List ℕ → Mount → List AllocExtent → ℕ → Ran (List Run)
runs_on image m es want = ran (disc image) (extents_runs m es want)

abbrev pub runs_at : List ℕ → Mount → ℕ → ChainCursor → ℕ → Ran (List Run)
runs_at image m kind c want = runs_on image m (left image m kind c) want

abbrev pub runs_in : Outcome (List Run) → List Run
runs_in (answered rs) = rs
runs_in (refused r) = []

-- how many there are, and the sectors asked for
abbrev pub counted_by : Result RunCount CountedRefusal → Came
counted_by (Ok x) = comes x.runs x.count
counted_by (Err e) = stops e.why e.count

-- a listing has the first of the runs that are left, and a cursor at those after it
pub record RunFront (image : List ℕ) (r : Run) (rest : List Run) (l : Running) : Type 0 where
  pub at : l.at ≡ r.at
  pub length : l.length ≡ r.length
  pub behind : runs_in (runs_at image l.mount l.kind l.behind l.want).outcome ≡ rest

pub record RunStands (image : List ℕ) (rs : List Run) (reply : Reply) (l : Running) : Type 0 where
  pub same : l.reply ≡ reply
  pub next : (r : Run) (rest : List Run) → rs ≡ r ∷ rest → RunFront image r rest l

abbrev pub RunsLeft : List ℕ → Mount → ℕ → ChainCursor → ℕ → Reply → Running → Type 0
RunsLeft image m kind c want reply l = RunStands image (runs_in (runs_at image m kind c want).outcome) reply l

-- the listing of a call whose run is r, before any run is stored
abbrev pub RunsPlanned : List ℕ → Ran (List Run) → ℕ → Running → Type 0
RunsPlanned image r room l = RunStands image (stored_of room r.outcome) (reply_of NoSlot room r) l

-- a listing of at most one run
abbrev pub alone_by : Mount → ℕ → ℕ → Reply → Running
alone_by m at n reply = record { reply = reply; mount = m; kind = 0; at = at; length = n; behind = record { at = 0; left = 0; hops = 0 }; want = 0 }

-- the run of an embedded file, and of a whole chain after n sectors
abbrev pub entry_run : FilePlace → Ran (List Run)
entry_run p = record { outcome = answered (run_here p.at (min p.size p.information)); count = 1 }

pub record EntryPlanned (p : FilePlace) (room : ℕ) (l : Running) : Type 0 where
  pub on : (image : List ℕ) → RunsPlanned image (entry_run p) room l

abbrev pub chain_runs : List ℕ → Mount → FilePlace → ℕ → Ran (List Run)
chain_runs image m p n = after n (runs_at image m p.kind (front_of p) p.information)

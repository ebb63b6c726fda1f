-- The walk along a path, as steps from place to place.
use Rattle.std.specs.Prelude.{ℕ, ◌-◌, ◌≤◌, ◌<◌, ◌≡◌, List, length, take, drop, eqb, Option}
use Rattle.disc.specs.declared.places.Mount.{Mount}
use Rattle.disc.specs.Choice.{pick}
use Rattle.disc.specs.Refusals.{number}
use Rattle.disc.specs.Counts.{reported}
use Rattle.disc.specs.Ask.{Disc, and_then}
use Rattle.disc.specs.Ran.{Ran, ran, after}
use Rattle.disc.specs.declared.refusals.Refusal.TheVariants.{NotBluray}
use Rattle.records.specs.Allocations.{no_long}
use Rattle.records.specs.declared.allocations.LongAd.{LongAd}
use Rattle.listings.specs.Entries.{Entry}
use Rattle.listings.specs.Listings.{named_of}
use Rattle.listings.specs.declared.finds.Named.{Named}
use Rattle.listings.specs.Paths.{Component, components_from}
use Rattle.listings.specs.declared.matchings.Matching.{Matching}
use Rattle.directories.specs.Lookups.{Sought, seeking, seek_path, icb_of, found_to, lost_of}
use Rattle.directories.specs.declared.lookups.Found.{Found}
use Rattle.directories.specs.declared.walks.Entered.{Entered}
use Rattle.directories.specs.declared.walks.PathPlace.{PathPlace}
use Rattle.directories.specs.declared.walks.PathEnd.{PathEnd}
use Rattle.directories.specs.declared.walks.Turn.{Turn}
use Rattle.directories.specs.declared.walks.Turn.TheVariants.{Goes, Ends}

-- what looking for a component's entry in a directory reports
abbrev pub entered_of : Ran (Option Entry) → Entered
entered_of r = record { entry = named_of r.outcome; count = reported r.count }

-- the end of a walk: its answer and, where a component was lost, that component's place
abbrev pub stopped_at : ℕ → LongAd → ℕ → ℕ → ℕ → Turn
stopped_at answer icb count from end = Ends (record { answer = answer; icb = icb; count = count; from = from; end = end })

abbrev pub lost_at : ℕ → ℕ → ℕ → Turn
lost_at count from end = stopped_at (number NotBluray) no_long count from end

-- the place after a component whose entry was looked for
unfoldable pub beyond_of : Named → ℕ → ℕ → ℕ → Turn
beyond_of e count from end =
    pick (eqb e.answer 0)
    (pick e.found
    (Goes (record { icb = e.icb; directory = e.directory; count = count; from = end }))
    (lost_at count from end))
    (stopped_at e.answer no_long count 0 0)

-- how a walk ends: what it found, and the component that it lost
pub record End : Type 0 where
  pub found : Found
  pub lost : Component

abbrev pub end_of : Ran Sought → End
end_of r = record { found = found_to (and_then r.outcome icb_of) (reported r.count); lost = lost_of r.outcome }

-- the end that a step leads to: it is there already, or the rest of the path is yet to be walked
unfoldable pub leads_to : Disc → Matching → Mount → ℕ → List ℕ → Turn → End
leads_to d matching v work path (Goes p) = end_of (after p.count (ran d (seeking matching v work (components_from p.from (drop p.from path)) p.icb p.directory)))
leads_to d matching v work path (Ends x) = record {
  found = record { answer = x.answer; count = x.count; icb = x.icb };
  lost = record { bytes = take (x.end - x.from) (drop x.from path); at = x.from };
}

-- the numbers of a place lie within the path
pub record On (path : List ℕ) (p : PathPlace) : Type 0 where
  pub within : p.from ≤ length path
  pub counted : p.count ≤ 0xffff_ffff_ffff_ffff

-- a step from p: to a place on the path, nearer its end, or to the walk's end at a part of the path
abbrev pub Comes : List ℕ → PathPlace → Turn → Type 0
Comes path p (Goes q) = (p.from < q.from) × On path q
Comes path p (Ends x) = (x.from ≤ x.end) × (x.end ≤ length path)

-- one step, that leads to the same end
pub record Steps (d : Disc) (matching : Matching) (v : Mount) (work : ℕ) (path : List ℕ) (p : PathPlace) (t : Turn) : Type 0 where
  pub same : leads_to d matching v work path t ≡ leads_to d matching v work path (Goes p)
  pub comes : Comes path p t

-- a whole walk
pub record Walks (d : Disc) (matching : Matching) (v : Mount) (work : ℕ) (root : LongAd) (path : List ℕ) (q : PathEnd) : Type 0 where
  pub found : record { answer = q.answer; count = q.count; icb = q.icb } ≡ (end_of (ran d (seek_path matching v work root path))).found
  pub lost : record { bytes = take (q.end - q.from) (drop q.from path); at = q.from } ≡ (end_of (ran d (seek_path matching v work root path))).lost
  pub ordered : q.from ≤ q.end
  pub within : q.end ≤ length path

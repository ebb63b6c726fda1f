-- The component that failed stands at its place in the path. Assumes nothing.
use Rattle.std.specs.Prelude.{Option, Some, None}
use mathlib.Core.Bool.{Bool, true, false}
use mathlib.Core.List.{List, [], ◌∷◌}
use Prim.Native.Nat.{ℕ}
use Rattle.disc.specs.declared.places.Mount.{Mount}
use Rattle.listings.specs.declared.matchings.Matching.{Matching}
use Rattle.disc.specs.Ask.{Disc, Ask, Outcome}
use Rattle.disc.specs.Ask.Outcome.{answered, refused}
use Rattle.disc.specs.Ran.{ran, onward}
use Rattle.disc.proofs.RanLaws.{ran-done, ran_then}
use Rattle.disc.proofs.PartLaws.{part_none}
use Rattle.records.specs.declared.allocations.LongAd.{LongAd}
use Rattle.identifiers.specs.Identifiers.{is_directory}
use Rattle.listings.specs.Entries.{Entry}
use Rattle.listings.specs.Paths.{Component, components, InPath}
use Rattle.listings.proofs.PathLaws.{AllInPath, components-stand}
use Rattle.directories.specs.Lookups.{Sought, entering, or_lost, seeking, seek_path, lost_of, failed_of}
use Rattle.directories.specs.Lookups.Sought.{reached, lost}

-- the component that a walk loses is one of those that it was given
module _ (d : Disc) (matching : Matching) (v : Mount) (work : ℕ) (path : List ℕ) where
  lost-stands : (cs : List Component) → AllInPath path cs → (icb : LongAd) (directory : Bool) → InPath path (lost_of (ran d (seeking matching v work cs icb directory)).outcome)
  unfolding seeking AllInPath
  lost-stands [] h icb directory = rw (ran-done d (reached icb)) (part_none path)
  lost-stands (c ∷ cs) h icb false = rw (ran-done d (lost c)) h.0
  lost-stands (c ∷ cs) h icb true =
      rw (ran_then d (entering matching v work icb c.bytes) rest)
      (by (λ e. lost-stands cs h.1 e.identifier.icb (is_directory e.identifier)) (ran d (entering matching v work icb c.bytes)).outcome (ran d (entering matching v work icb c.bytes)).count)
    where
      rest : Option Entry → Ask Sought
      rest o = or_lost c o (λ e. seeking matching v work cs e.identifier.icb (is_directory e.identifier))

      by : ((e : Entry) → InPath path (lost_of (ran d (seeking matching v work cs e.identifier.icb (is_directory e.identifier))).outcome))
          → (o : Outcome (Option Entry)) (n : ℕ) → InPath path (lost_of (onward o n (λ o. ran d (rest o))).outcome)
      by ih (answered (Some e)) n = ih e
      by ih (answered None) n = rw (ran-done d (lost c)) h.0
      by ih (refused r) n = part_none path

-- the part of the path at the place is the component
pub failed-stands : (d : Disc) (matching : Matching) (v : Mount) (work : ℕ) (root : LongAd) (path : List ℕ) → InPath path (failed_of (ran d (seek_path matching v work root path))).component
unfolding seek_path
failed-stands d matching v work root path = lost-stands d matching v work path (components path) (components-stand path) root true

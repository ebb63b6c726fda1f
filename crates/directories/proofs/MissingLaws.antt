-- A component that isn't there, wherever it stands in a path: the walk is lost at it, whatever stands behind it. Assumes nothing.
use Rattle.std.specs.Prelude.{None}
use mathlib.Core.Path.{◌≡◌, refl, ap, ◌∙◌}
use mathlib.Core.Bool.{true}
use mathlib.Core.List.{List, [], ◌∷◌, ◌++◌}
use Prim.Native.Nat.{ℕ, ◌+◌}
use native.Mathlib.Nat.{add-zero}
use Rattle.disc.specs.declared.places.Mount.{Mount}
use Rattle.disc.specs.Places.{is_checked}
use Rattle.disc.specs.Ask.{Disc}
use Rattle.disc.specs.Ask.Outcome.{answered, refused}
use Rattle.disc.specs.Ran.{Ran, ran, after}
use Rattle.disc.specs.declared.refusals.Refusal.TheVariants.{NotBluray}
use Rattle.disc.proofs.RanLaws.{ran-done, ran-known}
use Rattle.records.specs.declared.allocations.LongAd.{LongAd}
use Rattle.listings.specs.Entries.{Entry, entries}
use Rattle.listings.specs.Listings.{fold_in, all_named, chosen, find_in}
use Rattle.listings.specs.Matchings.{NoneAnswers}
use Rattle.listings.specs.Paths.{Component, components}
use Rattle.listings.specs.declared.matchings.Matching.{Matching}
use Rattle.directories.specs.Directories.{directory_bytes}
use Rattle.directories.specs.Leads.{Leads, walk}
use Rattle.directories.specs.Lookups.{Sought, entering, seek_path, icb_of, lookup_of, lost_of}
use Rattle.directories.specs.Lookups.Sought.{lost}
use Rattle.directories.proofs.PathLaws.{walk_is, leads-on}

-- where no entry answers, none is chosen
none-chosen : (matching : Matching) (name : List ℕ) (es : List Entry) → NoneAnswers (fold_in matching) name es → chosen matching (all_named (fold_in matching) name es) ≡ answered None
unfolding all_named chosen NoneAnswers
none-chosen matching name [] n = refl
none-chosen matching name (e ∷ es) n = rw n.0 (none-chosen matching name es n.1)

-- the components before it lead to a directory, of which no entry answers to it
module _ (d : Disc) (matching : Matching) (v : Mount) (work : ℕ) (cs : List Component) (c : Component) (others : List Component) (from to : LongAd)
    (l : Leads d matching v work cs from to) {b : List ℕ} (r : (ran d (directory_bytes v work to)).outcome ≡ answered b)
    {es : List Entry} (p : entries (is_checked v) b ≡ answered es) (n : NoneAnswers (fold_in matching) c.bytes es) where
  missing-here : walk d matching v work (c ∷ others) to true ≡ record { outcome = answered (lost c); count = (ran d (directory_bytes v work to)).count }
  unfolding entering find_in
  missing-here =
      walk_is d matching v work c others to
      ∙ rw (ran-known d (directory_bytes v work to) (find_in (is_checked v) matching c.bytes), r, p, none-chosen matching c.bytes es n, ran-done, add-zero)

  -- the walk is lost at it, and that directory is the last that is read
  pub missing-lost : walk d matching v work (cs ++ c ∷ others) from true
      ≡ record { outcome = answered (lost c); count = (walk d matching v work cs from true).count + (ran d (directory_bytes v work to)).count }
  missing-lost = leads-on d matching v work cs (c ∷ others) from to l ∙ ap (after (walk d matching v work cs from true).count) missing-here

  -- so a lookup of the path is 3,
  module _ (path : List ℕ) (e : components path ≡ cs ++ c ∷ others) where
    missing-sought : ran d (seek_path matching v work from path)
        ≡ record { outcome = answered (lost c); count = (walk d matching v work cs from true).count + (ran d (directory_bytes v work to)).count }
    unfolding seek_path
    missing-sought = rw e missing-lost

    pub missing-refused : ran d (lookup_of matching v work from path)
        ≡ record { outcome = refused NotBluray; count = (walk d matching v work cs from true).count + (ran d (directory_bytes v work to)).count }
    unfolding lookup_of
    missing-refused = ran-known d (seek_path matching v work from path) icb_of ∙ rw missing-sought

    -- and it is the component that failed
    pub missing-failed : lost_of (ran d (seek_path matching v work from path)).outcome ≡ c
    missing-failed = ap (λ (x : Ran Sought). lost_of x.outcome) missing-sought

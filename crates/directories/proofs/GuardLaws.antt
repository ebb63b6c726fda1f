-- A directory, its listing, and what is asked of a path, on a volume whose descriptors' bodies are checked: each is the same without that check, with every
-- descriptor marked where it is parsed, the entries of directories among them. Assumes nothing.
use Rattle.std.specs.Prelude.{Option, Some, None}
use mathlib.Core.Path.{◌≡◌}
use mathlib.Core.Bool.{Bool, true, false}
use mathlib.Core.List.{List, [], ◌∷◌}
use Prim.Native.Nat.{ℕ}
use native.Mathlib.Omega.{arith}
use lib.ListN.{length}
use lib.Dec.{leb}
use Rattle.disc.specs.declared.places.Mount.{Mount}
use Rattle.disc.specs.Places.{is_checked, unchecked}
use Rattle.disc.specs.Choice.{pick}
use Rattle.disc.specs.Ask.{ended}
use Rattle.disc.specs.Ask.Outcome.{answered, refused}
use Rattle.disc.specs.declared.refusals.Refusal.TheVariants.{NotBluray, NoWork}
use Rattle.disc.proofs.MarkedLaws.{done-guards, refuse-guards, then-guards}
use Rattle.records.specs.declared.allocations.LongAd.{LongAd}
use Rattle.identifiers.specs.Identifiers.{is_directory}
use Rattle.files.proofs.GuardLaws.{bytes-guards}
use Rattle.listings.specs.Entries.{Entry}
use Rattle.listings.specs.Paths.{Component, components}
use Rattle.listings.specs.declared.matchings.Matching.{Matching}
use Rattle.listings.proofs.GuardLaws.{find-guards, listing-guards as listed-guards}
use Rattle.directories.specs.Directories.{within, directory_bytes, listing_at}
use Rattle.directories.specs.Lookups.{Sought, entering, or_lost, seeking, seek_path, icb_of, lookup_of, read_path_of}
use Rattle.directories.specs.Lookups.Sought.{reached, lost}
use Rattle.disc.specs.Marks.{Guards}
use Rattle.tags.specs.Heads.{right_at}

module _ (m : Mount) (c : is_checked m ≡ true) (work : ℕ) where
  -- ---- a directory

  pub directory-guards : (icb : LongAd) → Guards right_at (directory_bytes m work icb) (directory_bytes (unchecked m) work icb)
  unfolding directory_bytes within
  directory-guards icb = then-guards (bytes-guards m c icb) (λ b. by b (leb (length b) work))
    where
      by : (b : List ℕ) (t : Bool) → Guards right_at (ended (pick t (answered b) (refused NoWork))) (ended (pick t (answered b) (refused NoWork)))
      by b true = done-guards b
      by b false = refuse-guards NoWork (λ n. omega arith)

  pub listing-guards : (icb : LongAd) → Guards right_at (listing_at m work icb) (listing_at (unchecked m) work icb)
  unfolding listing_at
  listing-guards icb = rw c (then-guards (directory-guards icb) listed-guards)

  -- ---- a path

  module _ (matching : Matching) where
    entering-guards : (icb : LongAd) (component : List ℕ) → Guards right_at (entering matching m work icb component) (entering matching (unchecked m) work icb component)
    unfolding entering
    entering-guards icb component = rw c (then-guards (directory-guards icb) (find-guards matching component))

    walk-guards : (cs : List Component) (icb : LongAd) (directory : Bool) → Guards right_at (seeking matching m work cs icb directory) (seeking matching (unchecked m) work cs icb directory)
    unfolding seeking
    walk-guards [] icb directory = done-guards (reached icb)
    walk-guards (x ∷ cs) icb false = done-guards (lost x)
    walk-guards (x ∷ cs) icb true = then-guards (entering-guards icb x.bytes) (by (λ e. walk-guards cs e.identifier.icb (is_directory e.identifier)))
      where
        by : ((e : Entry) → Guards right_at (seeking matching m work cs e.identifier.icb (is_directory e.identifier)) (seeking matching (unchecked m) work cs e.identifier.icb (is_directory e.identifier)))
            → (o : Option Entry)
            → Guards right_at
            (or_lost x o (λ e. seeking matching m work cs e.identifier.icb (is_directory e.identifier)))
            (or_lost x o (λ e. seeking matching (unchecked m) work cs e.identifier.icb (is_directory e.identifier)))
        by ih None = done-guards (lost x)
        by ih (Some e) = ih e

    module _ (root : LongAd) (path : List ℕ) where
      pub seeking-guards : Guards right_at (seek_path matching m work root path) (seek_path matching (unchecked m) work root path)
      unfolding seek_path
      seeking-guards = walk-guards (components path) root true

      pub lookup-guards : Guards right_at (lookup_of matching m work root path) (lookup_of matching (unchecked m) work root path)
      unfolding lookup_of
      lookup-guards = then-guards seeking-guards by
        where
          by : (s : Sought) → Guards right_at (ended (icb_of s)) (ended (icb_of s))
          by (reached icb) = done-guards icb
          by (lost x) = refuse-guards NotBluray (λ n. omega arith)

      pub path-guards : Guards right_at (read_path_of matching m work root path) (read_path_of matching (unchecked m) work root path)
      unfolding read_path_of
      path-guards = then-guards lookup-guards (λ icb. bytes-guards m c icb)

-- Which refusals a directory and a walk along a path say by themselves: those of the read, 6, 9 where a component is to match one entry alone, and 3 of one that isn't there. Assumes nothing.
use Rattle.std.specs.Prelude.{Option, Some, None}
use mathlib.Core.Path.{◌≡◌}
use mathlib.Core.Bool.{Bool, true, false}
use mathlib.Core.List.{List, [], ◌∷◌}
use Prim.Native.Nat.{ℕ}
use lib.ListN.{length}
use lib.Dec.{leb}
use Rattle.disc.specs.declared.places.Mount.{Mount}
use Rattle.disc.specs.Places.{is_checked}
use Rattle.disc.specs.Choice.{pick}
use Rattle.disc.specs.Ask.{Ask, ended}
use Rattle.disc.specs.Ask.Outcome.{answered, refused}
use Rattle.disc.specs.declared.refusals.Refusal.{Refusal}
use Rattle.disc.specs.declared.refusals.Refusal.TheVariants.{Malformed, NotBluray, Unsupported, NoWork, Ambiguous, BadCrc}
use Rattle.disc.proofs.OnlyLaws.{done-only, refuse-only, then-only}
use Rattle.records.specs.declared.allocations.LongAd.{LongAd}
use Rattle.listings.specs.Entries.{Entry}
use Rattle.listings.specs.declared.matchings.Matching.{Matching}
use Rattle.listings.specs.declared.matchings.Matching.TheVariants.{Unambiguous}
use Rattle.listings.specs.Paths.{Component, components}
use Rattle.identifiers.specs.Identifiers.{is_directory}
use Rattle.directories.specs.Directories.{within, directory_bytes, listing_at}
use Rattle.directories.specs.Lookups.{Sought, entering, or_lost, seeking, seek_path, icb_of, lookup_of, read_path_of}
use Rattle.directories.specs.Lookups.Sought.{reached, lost}
use Rattle.files.proofs.RefusingLaws.{bytes-only}
use Rattle.listings.proofs.RefusingLaws.{listed-only, named-only}
use Rattle.disc.specs.Refusing.{Refuses, Any}

-- ---- directories, for any P that has 2, 4 and 6, and 10 where bodies are checked

module _ (P : Refusal → Type 0) (malformed : P Malformed) (unsupported : P Unsupported) (full : P NoWork) where
  pub directory-only : (m : Mount) → (is_checked m ≡ true → P BadCrc) → (work : ℕ) (icb : LongAd) → Refuses P Any (directory_bytes m work icb)
  unfolding directory_bytes within
  directory-only m crc work icb = then-only (bytes-only P malformed unsupported m crc icb) (λ b q. by b (leb (length b) work))
    where
      by : (b : List ℕ) (t : Bool) → Refuses P Any (ended (pick t (answered b) (refused NoWork)))
      by b true = done-only tt
      by b false = refuse-only full

  pub listing-only : (m : Mount) → (is_checked m ≡ true → P BadCrc) → (work : ℕ) (icb : LongAd) → Refuses P Any (listing_at m work icb)
  unfolding listing_at
  listing-only m crc work icb = then-only (directory-only m crc work icb) (λ b q. listed-only P malformed (is_checked m) crc b)

  -- paths, for any P that has 9 too under the third choice of matching
  module _ (matching : Matching) (ambiguous : matching ≡ Unambiguous → P Ambiguous) (m : Mount) (crc : is_checked m ≡ true → P BadCrc) (work : ℕ) where
    entering-only : (icb : LongAd) (component : List ℕ) → Refuses P Any (entering matching m work icb component)
    unfolding entering
    entering-only icb component = then-only (directory-only m crc work icb) (λ b q. named-only P malformed (is_checked m) crc matching ambiguous component b)

    seeking-only : (cs : List Component) (icb : LongAd) (directory : Bool) → Refuses P Any (seeking matching m work cs icb directory)
    unfolding seeking
    seeking-only [] icb directory = done-only tt
    seeking-only (c ∷ cs) icb false = done-only tt
    seeking-only (c ∷ cs) icb true = then-only (entering-only icb c.bytes) (λ o q. by o _ (λ e. seeking-only cs e.identifier.icb (is_directory e.identifier)))
      where
        by : (o : Option Entry) (f : Entry → Ask Sought) → ((e : Entry) → Refuses P Any (f e)) → Refuses P Any (or_lost c o f)
        by None f h = done-only tt
        by (Some e) f h = h e

    pub seek-only : (root : LongAd) (path : List ℕ) → Refuses P Any (seek_path matching m work root path)
    unfolding seek_path
    seek-only root path = seeking-only (components path) root true

    -- and 3, of a component that isn't there
    module _ (missing : P NotBluray) where
      pub lookup-only : (root : LongAd) (path : List ℕ) → Refuses P Any (lookup_of matching m work root path)
      unfolding lookup_of seek_path
      lookup-only root path = then-only (seeking-only (components path) root true) (λ s q. by s)
        where
          by : (s : Sought) → Refuses P Any (ended (icb_of s))
          by (reached icb) = done-only tt
          by (lost c) = refuse-only missing

      pub path-only : (root : LongAd) (path : List ℕ) → Refuses P Any (read_path_of matching m work root path)
      unfolding read_path_of
      path-only root path = then-only (lookup-only root path) (λ icb q. bytes-only P malformed unsupported m crc icb)

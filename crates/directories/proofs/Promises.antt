-- What is proved of directories and paths: what the call for the component that failed asks for, that the first entry of a name wins, and what
-- the ends of a path come to; that a directory's bytes are bytes. Assumes nothing.
use Rattle.std.specs.Prelude.{Some}
use mathlib.Core.Path.{◌≡◌, ap, sym, ◌∙◌}
use mathlib.Core.Bool.{Bool, true, false}
use mathlib.Core.List.{List, [], ◌∷◌, ◌++◌}
use Prim.Native.Nat.{ℕ, ◌<◌}
use lib.ListN.{length}
use lib.Dec.{leb}
use borrow.Author.Tests.{lt-leb}
use Rattle.disc.specs.declared.places.Mount.{Mount}
use Rattle.disc.specs.Places.{is_checked}
use Rattle.listings.specs.declared.matchings.Matching.{Matching}
use Rattle.disc.specs.Choice.{pick}
use Rattle.disc.specs.Ask.{Disc, Outcome, asked, and_then}
use Rattle.disc.specs.Ask.Outcome.{answered, refused}
use Rattle.disc.specs.Images.{disc}
use Rattle.disc.specs.Ran.{Ran, ran}
use Rattle.disc.specs.declared.refusals.Refusal.TheVariants.{NoWork}
use Rattle.disc.proofs.AskLaws.{asked-known}
use Rattle.disc.proofs.RanLaws.{ran-done, never, ran-known}
use Rattle.records.specs.declared.allocations.LongAd.{LongAd}
use Rattle.files.specs.Files.{file_bytes}
use Rattle.files.proofs.ContentLaws.{content-bytes}
use Rattle.listings.specs.Entries.{Entry, entries}
use Rattle.listings.specs.Listings.{fold_in, answers_to, find_in}
use Rattle.listings.specs.Paths.{Component, front, behind, components_from, components}
use Rattle.listings.proofs.Promises.{first-wins}
use Rattle.listings.proofs.MatchingLaws.{chosen-first}
use Rattle.directories.specs.Directories.{within, directory_bytes}
use Rattle.directories.specs.Lookups.{entering, seeking, seek_path, icb_of, lookup_of}
use Rattle.directories.specs.Lookups.Sought.{reached, lost}
use Rattle.disc.specs.Parts.{Bytes}
use Rattle.listings.specs.Matchings.{NoneAnswers, takes_first}

-- the call for the component that failed asks for the lookup's sectors
pub failed-asks : (d : Disc) (matching : Matching) (v : Mount) (work : ℕ) (root : LongAd) (path : List ℕ) → asked d (lookup_of matching v work root path) ≡ asked d (seek_path matching v work root path)
unfolding lookup_of
failed-asks d matching v work root path = asked-known d (seek_path matching v work root path) icb_of

-- ---- what a path comes to

module _ (d : Disc) (v : Mount) (work : ℕ) where
  -- a directory whose bytes exceed the work space is 6, after the sectors of the read
  pub no-work : (icb : LongAd) {b : List ℕ} → (ran d (file_bytes v icb)).outcome ≡ answered b → work < length b
      → ran d (directory_bytes v work icb) ≡ record { outcome = refused NoWork; count = (ran d (file_bytes v icb)).count }
  unfolding directory_bytes within
  no-work icb {b} e h = ran-known d (file_bytes v icb) (within work) ∙ rw (e, lt-leb (length b) work h)

module _ (d : Disc) (matching : Matching) (v : Mount) (work : ℕ) where
  -- the first entry of a name wins, whatever stands behind it, under the choices that take it
  pub enters-first : takes_first matching ≡ true → (icb : LongAd) (component : List ℕ) {b : List ℕ} → (ran d (directory_bytes v work icb)).outcome ≡ answered b
      → (before : List Entry) (e : Entry) (rest : List Entry) → entries (is_checked v) b ≡ answered (before ++ e ∷ rest)
      → NoneAnswers (fold_in matching) component before → answers_to (fold_in matching) component e ≡ true
      → ran d (entering matching v work icb component) ≡ record { outcome = answered (Some e); count = (ran d (directory_bytes v work icb)).count }
  unfolding entering find_in
  enters-first f icb component {b} r before e rest k n h =
      ran-known d (directory_bytes v work icb) (find_in (is_checked v) matching component)
      ∙ rw (r, k, chosen-first matching f (fold_in matching) component (before ++ e ∷ rest), first-wins (fold_in matching) component before e rest n h)

  -- a component under what is no directory is lost before any further sector
  pub under-file : (c : Component) (cs : List Component) (icb : LongAd) → ran d (seeking matching v work (c ∷ cs) icb false) ≡ record { outcome = answered (lost c); count = 0 }
  unfolding seeking
  under-file c cs icb = ran-done d (lost c)

  -- an empty path gives the root ICB, and count 0
  pub empty-path : (root : LongAd) → ran d (lookup_of matching v work root []) ≡ record { outcome = answered root; count = 0 }
  unfolding lookup_of seek_path seeking components components_from front behind
  empty-path root = ran-known d (seek_path matching v work root []) icb_of ∙ rw (ran-done d (reached root))

-- ---- a directory's bytes are bytes where the image's are

pub directory-bytes : (image : List ℕ) → Bytes image → (v : Mount) (work : ℕ) (icb : LongAd) {b : List ℕ} → (ran (disc image) (directory_bytes v work icb)).outcome ≡ answered b → Bytes b
unfolding directory_bytes within
directory-bytes image h v work icb {b} e =
    content-bytes image h v icb
    (by (ran (disc image) (file_bytes v icb)).outcome (sym (ap (λ (r : Ran (List ℕ)). r.outcome) (ran-known (disc image) (file_bytes v icb) (within work))) ∙ e))
  where
    fits : (x : List ℕ) (t : Bool) → pick t (answered x) (refused NoWork) ≡ answered b → answered x ≡ answered b
    fits x true e = e
    fits x false e = never e

    by : (o : Outcome (List ℕ)) → and_then o (within work) ≡ answered b → o ≡ answered b
    by (answered x) e = fits x (leb (length x) work) e
    by (refused why) e = never e

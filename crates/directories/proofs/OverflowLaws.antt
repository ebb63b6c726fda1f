-- At which component of a path the work space is too small. Assumes nothing.
use Rattle.std.specs.Prelude.{Option, Some, None}
use mathlib.Core.Path.{◌≡◌, refl, sym, ap, ◌∙◌}
use mathlib.Core.Bool.{Bool, true, false}
use mathlib.Core.List.{List, [], ◌∷◌}
use Prim.Native.Nat.{ℕ, ◌+◌}
use native.Mathlib.Omega.{arith}
use lib.ListN.{length}
use lib.Dec.{leb}
use borrow.Author.Tests.{leb-false}
use Rattle.disc.specs.declared.places.Mount.{Mount}
use Rattle.disc.specs.Places.{is_checked}
use Rattle.disc.specs.Refusals.{number}
use Rattle.listings.specs.declared.matchings.Matching.{Matching}
use Rattle.disc.specs.Choice.{pick}
use Rattle.disc.specs.Ask.{Disc, Outcome, and_then}
use Rattle.disc.specs.Ask.Outcome.{answered, refused}
use Rattle.disc.specs.Ran.{Ran, ran, after, onward}
use Rattle.disc.specs.declared.refusals.Refusal.TheVariants.{NoWork}
use Rattle.disc.proofs.RanLaws.{ran-done, never, ran-known}
use Rattle.records.specs.declared.allocations.LongAd.{LongAd}
use Rattle.identifiers.specs.Identifiers.{is_directory}
use Rattle.files.specs.Files.{file_bytes}
use Rattle.listings.specs.Entries.{Entry, entries}
use Rattle.listings.specs.Listings.{fold_in, all_named, chosen, find_in}
use Rattle.listings.specs.Paths.{Component}
use Rattle.listings.proofs.Promises.{entries-refused}
use Rattle.listings.proofs.MatchingLaws.{chosen-refused}
use Rattle.directories.specs.Directories.{within, directory_bytes}
use Rattle.directories.specs.Lookups.{Sought, entering, seeking}
use Rattle.directories.proofs.Promises.{no-work}
use Rattle.directories.proofs.PathLaws.{entering-is, enters-takes, on, walk_is, leads-on}
use Rattle.directories.specs.Leads.{Leads, walk, Overflows}

module _ (d : Disc) (matching : Matching) (v : Mount) (work : ℕ) where
  -- the first directory on the way that exceeds it refuses the walk, after the sectors of its read
  pub overflows-refused : (cs : List Component) (from : LongAd) (o : Overflows d matching v work cs from)
      → walk d matching v work cs from true ≡ record { outcome = refused NoWork; count = (walk d matching v work o.before from true).count + (ran d (file_bytes v o.directory)).count }
  unfolding entering
  overflows-refused cs from o =
      rw o.parts (leads-on d matching v work o.before (o.next ∷ o.others) from o.directory o.led)
      ∙ ap (after (walk d matching v work o.before from true).count)
      (walk_is d matching v work o.next o.others o.directory
      ∙ rw (ran-known d (directory_bytes v work o.directory) (find_in (is_checked v) matching o.next.bytes), no-work d v work o.directory o.read o.exceeds))

  -- and nothing else does, where no read is refused so by itself
  module _ (other : (icb : LongAd) → (ran d (file_bytes v icb)).outcome ≡ refused NoWork → ⊥) where
    full-here : (c : Component) (others : List Component) (icb : LongAd) → (ran d (entering matching v work icb c.bytes)).outcome ≡ refused NoWork → Overflows d matching v work (c ∷ others) icb
    unfolding directory_bytes within find_in Leads
    full-here c others icb h =
        by (ran d (file_bytes v icb)).outcome refl
        (sym (ap (λ (r : Ran (List ℕ)). and_then r.outcome (find_in (is_checked v) matching c.bytes)) (ran-known d (file_bytes v icb) (within work))) ∙ sym (entering-is d matching v work icb c.bytes) ∙ h)
      where
        listed : {A : Type 0} (b : List ℕ) (p : Outcome (List Entry)) → entries (is_checked v) b ≡ p → and_then p (λ es. chosen matching (all_named (fold_in matching) c.bytes es)) ≡ refused NoWork → A
        listed b (answered es) e k = absurd (let m = (chosen-refused matching (all_named (fold_in matching) c.bytes es) k).1 in let z : ◌≡◌ {A = ℕ} 0 1 = cc in omega arith)
        listed b (refused why) e k = absurd (let z : why ≡ NoWork = cc in entries-refused (is_checked v) b (λ w. number w ≡ 6 → ⊥) (λ n. omega arith) (λ c n. omega arith) e (ap number z))

        fits : (b : List ℕ) (t : Bool) → leb (length b) work ≡ t → (ran d (file_bytes v icb)).outcome ≡ answered b
            → and_then (pick t (answered b) (refused NoWork)) (find_in (is_checked v) matching c.bytes) ≡ refused NoWork → Overflows d matching v work (c ∷ others) icb
        fits b true t r k = listed b (entries (is_checked v) b) refl k
        fits b false t r k = record { before = []; next = c; others = others; parts = refl; directory = icb; led = refl; bytes = b; read = r; exceeds = leb-false (length b) work t }

        by : (o : Outcome (List ℕ)) → (ran d (file_bytes v icb)).outcome ≡ o → and_then (and_then o (within work)) (find_in (is_checked v) matching c.bytes) ≡ refused NoWork → Overflows d matching v work (c ∷ others) icb
        by (answered b) r k = fits b (leb (length b) work) refl r k
        by (refused why) r k = absurd (other icb (let z : why ≡ NoWork = cc in rw z at r))

    pub refused-overflows : (cs : List Component) (from : LongAd) → (walk d matching v work cs from true).outcome ≡ refused NoWork → Overflows d matching v work cs from
    unfolding seeking Leads
    refused-overflows [] from h = never (let z = rw ran-done at h in sym z)
    refused-overflows (c ∷ cs) from h =
        by (ran d (entering matching v work from c.bytes)).outcome (ran d (entering matching v work from c.bytes)).count refl (λ icb k. refused-overflows cs icb k)
        (sym (ap (λ (r : Ran Sought). r.outcome) (walk_is d matching v work c cs from)) ∙ h)
      where
        file : {A : Type 0} (ds : List Component) (icb : LongAd) → (walk d matching v work ds icb false).outcome ≡ refused NoWork → A
        file [] icb k = never (let z = rw ran-done at k in sym z)
        file (x ∷ ds) icb k = never (let z = rw ran-done at k in sym z)

        into : (e : Entry) → (ran d (entering matching v work from c.bytes)).outcome ≡ answered (Some e) → ((icb : LongAd) → (walk d matching v work cs icb true).outcome ≡ refused NoWork → Overflows d matching v work cs icb)
            → (t : Bool) → is_directory e.identifier ≡ t → (walk d matching v work cs e.identifier.icb t).outcome ≡ refused NoWork → Overflows d matching v work (c ∷ cs) from
        into e q ih true t k =
            let o = ih e.identifier.icb k in
            record {
              before = c ∷ o.before;
              next = o.next;
              others = o.others;
              parts = ap (λ (x : List Component). c ∷ x) o.parts;
              directory = o.directory;
              led = record { entry = e; takes = enters-takes d matching v work from c.bytes q; directory = t; on = o.led };
              bytes = o.bytes;
              read = o.read;
              exceeds = o.exceeds;
            }
        into e q ih false t k = file cs e.identifier.icb k

        by : (o : Outcome (Option Entry)) (n : ℕ) → (ran d (entering matching v work from c.bytes)).outcome ≡ o → ((icb : LongAd) → (walk d matching v work cs icb true).outcome ≡ refused NoWork → Overflows d matching v work cs icb)
            → (onward o n (on d matching v work c cs)).outcome ≡ refused NoWork → Overflows d matching v work (c ∷ cs) from
        by (refused why) n q ih k = full-here c cs from (let z : why ≡ NoWork = cc in rw z at q)
        by (answered None) n q ih k = never (let z = rw ran-done at k in sym z)
        by (answered (Some e)) n q ih k = into e q ih (is_directory e.identifier) refl k

-- Which refusals a directory's bytes say by themselves: 2, 10 where bodies are checked, and 9 where a component is to match one entry alone. Assumes nothing.
use Rattle.std.specs.Prelude.{Option}
use mathlib.Core.Path.{◌≡◌, refl, sym, subst}
use mathlib.Core.Bool.{Bool, true}
use mathlib.Core.List.{List}
use Prim.Native.Nat.{ℕ}
use Rattle.disc.specs.Ask.{Outcome, ended, and_then}
use Rattle.disc.specs.Ask.Outcome.{answered, refused}
use Rattle.disc.specs.declared.refusals.Refusal.{Refusal}
use Rattle.disc.specs.declared.refusals.Refusal.TheVariants.{Malformed, Ambiguous, BadCrc}
use Rattle.disc.proofs.OnlyLaws.{done-only, refuse-only}
use Rattle.listings.specs.Entries.{Entry, entries}
use Rattle.listings.specs.Listings.{records, listing, fold_in, all_named, chosen, find_in}
use Rattle.listings.specs.declared.matchings.Matching.{Matching}
use Rattle.listings.specs.declared.matchings.Matching.TheVariants.{Unambiguous}
use Rattle.listings.proofs.Promises.{entries-refused}
use Rattle.listings.proofs.MatchingLaws.{chosen-refused}
use Rattle.disc.specs.Refusing.{Refuses, Any}

-- ---- a directory's bytes at hand, for any P that has 2, and 10 where bodies are checked

module _ (P : Refusal → Type 0) (malformed : P Malformed) (check : Bool) (crc : check ≡ true → P BadCrc) where
  pub listed-only : (b : List ℕ) → Refuses P Any (ended (listing check b))
  unfolding listing
  listed-only b = by (entries check b) refl
    where
      by : (o : Outcome (List Entry)) → entries check b ≡ o → Refuses P Any (ended (and_then o (λ es. answered (records es))))
      by (answered es) e = done-only tt
      by (refused why) e = refuse-only (entries-refused check b P malformed crc e)

  -- and 9 under the third choice of matching
  module _ (matching : Matching) (ambiguous : matching ≡ Unambiguous → P Ambiguous) where
    chosen-only : (xs : List Entry) → Refuses P Any (ended (chosen matching xs))
    chosen-only xs = by (chosen matching xs) refl
      where
        by : (o : Outcome (Option Entry)) → chosen matching xs ≡ o → Refuses P Any (ended o)
        by (answered o) e = done-only tt
        by (refused why) e = let r = chosen-refused matching xs e in refuse-only (subst P (sym r.1) (ambiguous r.0))

    pub named-only : (component b : List ℕ) → Refuses P Any (ended (find_in check matching component b))
    unfolding find_in
    named-only component b = by (entries check b) refl
      where
        by : (o : Outcome (List Entry)) → entries check b ≡ o → Refuses P Any (ended (and_then o (λ es. chosen matching (all_named (fold_in matching) component es))))
        by (answered es) e = chosen-only (all_named (fold_in matching) component es)
        by (refused why) e = refuse-only (entries-refused check b P malformed crc e)

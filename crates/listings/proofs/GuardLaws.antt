-- A directory's bytes with the bodies of its entries checked, deleted and parent entries among them: the same bytes without, with each entry that is
-- parsed marked. So what is answered with the check is answered the same without. Assumes nothing.
use Rattle.std.specs.Prelude.{Option}
use mathlib.Core.Path.{◌≡◌, refl, sym, ◌∙◌}
use mathlib.Core.Bool.{Bool, true, false}
use mathlib.Core.List.{List, [], ◌∷◌}
use Prim.Native.Nat.{ℕ, zero, suc, ◌-◌}
use native.Mathlib.Omega.{arith}
use lib.ListN.{length}
use lib.Dec.{ltb}
use Rattle.disc.specs.Choice.{pick}
use Rattle.disc.specs.Ask.{Outcome, outcome, ended, and_then}
use Rattle.disc.specs.Ask.Held.{lacks}
use Rattle.disc.specs.Ask.Outcome.{answered}
use Rattle.disc.proofs.MarkedLaws.{done-guards, guards-outcome, known-guards, and-guards}
use Rattle.identifiers.specs.Identifiers.{read_identifier, next_at}
use Rattle.identifiers.proofs.GuardLaws.{identifier-guards}
use Rattle.listings.specs.Entries.{Entry, entry_of, entry_read, in_front, entries_from, entries}
use Rattle.listings.specs.Listings.{records, listing, fold_in, all_named, chosen, find_in}
use Rattle.listings.specs.declared.matchings.Matching.{Matching}
use Rattle.listings.proofs.MatchingLaws.{chosen-refused}
use Rattle.disc.specs.Marks.{Guards}
use Rattle.disc.proofs.AskLaws.{outcome-ended}
use Rattle.tags.specs.Heads.{right_at}

-- ---- the entries

entry-guards : (s : List ℕ) → Guards right_at (ended (entry_read true s)) (ended (entry_read false s))
unfolding entry_read
entry-guards s = and-guards (read_identifier true s) (read_identifier false s) (λ f. answered (entry_of s f)) (λ f. answered (entry_of s f)) (identifier-guards s) (λ f. done-guards (entry_of s f))

front-guards : (e : Entry) (o o' : Outcome (List Entry)) → Guards right_at (ended o) (ended o') → Guards right_at (ended (in_front e o)) (ended (in_front e o'))
front-guards e o o' h = and-guards o o' (λ es. answered (e ∷ es)) (λ es. answered (e ∷ es)) h (λ es. done-guards (e ∷ es))

from-guards : (k : ℕ) (s : List ℕ) → Guards right_at (ended (entries_from true k s)) (ended (entries_from false k s))
unfolding entries_from
from-guards k [] = done-guards []
from-guards (suc k) (b ∷ s) = from-guards k s
from-guards zero (b ∷ s) = by (entries_from true (next_at (b ∷ s) - 1) s) (entries_from false (next_at (b ∷ s) - 1) s) (from-guards (next_at (b ∷ s) - 1) s) (ltb (length (b ∷ s)) 38)
  where
    by : (o o' : Outcome (List Entry)) → Guards right_at (ended o) (ended o') → (t : Bool)
        → Guards right_at (ended (pick t (answered []) (and_then (entry_read true (b ∷ s)) (λ e. in_front e o)))) (ended (pick t (answered []) (and_then (entry_read false (b ∷ s)) (λ e. in_front e o'))))
    by o o' h true = done-guards []
    by o o' h false = and-guards (entry_read true (b ∷ s)) (entry_read false (b ∷ s)) (λ e. in_front e o) (λ e. in_front e o') (entry-guards (b ∷ s)) (λ e. front-guards e o o' h)

pub entries-guards : (s : List ℕ) → Guards right_at (ended (entries true s)) (ended (entries false s))
unfolding entries
entries-guards s = from-guards 0 s

-- ---- what is made of them

pub listing-guards : (s : List ℕ) → Guards right_at (ended (listing true s)) (ended (listing false s))
unfolding listing
listing-guards s = and-guards (entries true s) (entries false s) (λ es. answered (records es)) (λ es. answered (records es)) (entries-guards s) (λ es. done-guards (records es))

pub find-guards : (m : Matching) (component s : List ℕ) → Guards right_at (ended (find_in true m component s)) (ended (find_in false m component s))
unfolding find_in
find-guards m component s = and-guards (entries true s) (entries false s) taken taken (entries-guards s) (λ es. known-guards (taken es) (λ why e. rw (chosen-refused m (all_named (fold_in m) component es) e).1 (λ n. omega arith)))
  where
    taken : List Entry → Outcome (Option Entry)
    taken es = chosen m (all_named (fold_in m) component es)

-- ---- what is answered with the check is answered the same without

pub entries-unchecked : (check : Bool) (s : List ℕ) {es : List Entry} → entries check s ≡ answered es → entries false s ≡ answered es
entries-unchecked false s h = h
entries-unchecked true s {es} h =
    let e : outcome (λ s. lacks) (ended (entries true s)) ≡ answered es = outcome-ended (λ s. lacks) (entries true s) ∙ h in
    sym (outcome-ended (λ s. lacks) (entries false s)) ∙ sym (guards-outcome (entries-guards s) (λ s. lacks) (rw e refl)) ∙ e

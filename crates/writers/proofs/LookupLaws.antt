-- What the vault's directory lists, and the entry of a name under every choice of matching. Assumes nothing.
use Rattle.std.specs.Prelude.{Some}
use mathlib.Core.Path.{◌≡◌, refl, ap, sym, ◌∙◌}
use mathlib.Core.Bool.{Bool, true, false}
use mathlib.Core.List.{List, [], ◌∷◌, ◌++◌}
use Prim.Native.Nat.{ℕ, suc, ◌+◌, ◌≤◌}
use native.Mathlib.Omega.{arith}
use lib.ListN.{length}
use borrow.Author.Tests.{le-ltb, le-leb}
use Rattle.disc.specs.Choice.{pick}
use Rattle.disc.specs.Ask.{Disc, ended}
use Rattle.disc.specs.Ask.Outcome.{answered}
use Rattle.disc.specs.Ran.{ran, after}
use Rattle.disc.specs.Places.{is_checked}
use Rattle.disc.specs.declared.places.Mount.{Mount}
use Rattle.disc.proofs.PickLaws.{not-both}
use Rattle.disc.proofs.RanLaws.{ran-done, ran_then}
use Rattle.records.specs.declared.allocations.LongAd.{LongAd}
use Rattle.names.specs.Names.{lower, as_is, same_name, is_named}
use Rattle.names.proofs.Promises.{same-reflexive, same-symmetric, same-lower}
use Rattle.files.specs.Files.{file_bytes}
use Rattle.listings.specs.Entries.{Entry, is_skipped, name_in}
use Rattle.listings.specs.Listings.{entry_record, records, listing, fold_in, answers_to, find_in}
use Rattle.listings.specs.Paths.{front, behind, components_from, components}
use Rattle.listings.specs.declared.matchings.Matching.{Matching}
use Rattle.listings.specs.declared.matchings.Matching.TheVariants.{CaseIgnored, AsWritten, Unambiguous}
use Rattle.listings.proofs.MatchingLaws.{only-wins}
use Rattle.directories.specs.Directories.{within, directory_bytes, listing_at}
use Rattle.directories.specs.Lookups.{entering, seeking, seek_path, icb_of, lookup_of, read_path_of}
use Rattle.writers.specs.Layout.{summed, identifier_size, names_size, directory_size, directory}
use Rattle.writers.specs.Refusing.{all_plain, is_among, are_good}
use Rattle.writers.proofs.PartLaws.{Good, good-cons, directory-long}
use Rattle.writers.proofs.DirectoryLaws.{plain-cons, plain-name, entry_for, parent_entry, file_entries, directory-entries}
use Rattle.listings.specs.Matchings.{NoneAnswers}
use Rattle.writers.specs.Vaults.{icb_at, listed}

-- ---- the listing

files-listed : (i o : ℕ) (names : List (List ℕ)) → are_good names ≡ true → records (file_entries i o names) ≡ listed i names
unfolding records entry_record is_skipped name_in file_entries listed
files-listed i o [] g = refl
files-listed i o (n ∷ ns) g =
    let q = good-cons n ns g in
    rw (plain-name n q.plain, files-listed (i + 1) (o + identifier_size (length n)) ns q.others)

pub directory-listed : (check : Bool) (names : List (List ℕ)) → are_good names ≡ true → length names ≤ 64 → names_size names ≤ 10752 → listing check (directory names) ≡ answered (listed 0 names)
unfolding listing records entry_record is_skipped
directory-listed check names g h k = rw (directory-entries check names g h k) (ap answered (files-listed 0 40 names g))

-- ---- the entry of a name

module _ (fold : ℕ → ℕ) (c : List ℕ) (o block : ℕ) (n : List ℕ) where
  answers_by : all_plain n ≡ true → length n ≤ 127 → answers_to fold c (entry_for o 0 block (8 ∷ n) (length n)) ≡ same_name fold n c
  unfolding answers_to is_skipped is_named
  answers_by p h =
      let k : suc (length n) ≤ 255 = omega arith in
      rw (le-ltb 255 (suc (length n)) k, plain-name n p)

-- names that differ with case ignored differ under every choice
apart : (m : Matching) (a b : List ℕ) → same_name lower a b ≡ false → same_name (fold_in m) a b ≡ false
apart CaseIgnored a b h = h
apart Unambiguous a b h = h
apart AsWritten a b h = by (same_name as_is a b) refl
  where
    by : (t : Bool) → same_name as_is a b ≡ t → t ≡ false
    by false e = refl
    by true e = not-both (sym h ∙ same-lower a b e)

other_way : (a b : List ℕ) → same_name lower a b ≡ false → same_name lower b a ≡ false
other_way a b h = by (same_name lower b a) refl
  where
    by : (t : Bool) → same_name lower b a ≡ t → t ≡ false
    by false e = refl
    by true e = not-both (sym h ∙ same-symmetric lower b a e)

among-cons : (n m : List ℕ) (ms : List (List ℕ)) → is_among n (m ∷ ms) ≡ false → (same_name lower n m ≡ false) × (is_among n ms ≡ false)
unfolding is_among
among-cons n m ms e = by (same_name lower n m) refl e
  where
    by : (t : Bool) → same_name lower n m ≡ t → pick t true (is_among n ms) ≡ false → (same_name lower n m ≡ false) × (is_among n ms ≡ false)
    by true f g = not-both (sym g)
    by false f g = (f, g)

among_in : (n m : List ℕ) (before after : List (List ℕ)) → is_among n (before ++ m ∷ after) ≡ false → same_name lower n m ≡ false
among_in n m [] after e = (among-cons n m after e).0
among_in n m (b ∷ before) after e = among_in n m before after (among-cons n b (before ++ m ∷ after) e).1

module _ (m : Matching) (n : List ℕ) where
  none-behind : (i o : ℕ) (ns : List (List ℕ)) → are_good ns ≡ true → is_among n ns ≡ false → NoneAnswers (fold_in m) n (file_entries i o ns)
  unfolding NoneAnswers file_entries
  none-behind i o [] g e = tt
  none-behind i o (x ∷ ns) g e =
      let q = good-cons x ns g in
      let a = among-cons n x ns e in (
        answers_by (fold_in m) n o (16 + i) x q.plain q.small ∙ apart m x n (other_way n x a.0),
        none-behind (i + 1) (o + identifier_size (length x)) ns q.others a.1,
      )

  none_before : (i o : ℕ) (before after : List (List ℕ)) → are_good (before ++ n ∷ after) ≡ true → NoneAnswers (fold_in m) n (file_entries i o before)
  unfolding NoneAnswers file_entries
  none_before i o [] after g = tt
  none_before i o (x ∷ before) after g =
      let q = good-cons x (before ++ n ∷ after) g in (
        answers_by (fold_in m) n o (16 + i) x q.plain q.small ∙ apart m x n (among_in x n before after q.once),
        none_before (i + 1) (o + identifier_size (length x)) before after q.others,
      )

good-at : (n : List ℕ) (before after : List (List ℕ)) → are_good (before ++ n ∷ after) ≡ true → Good n after
good-at n [] after g = good-cons n after g
good-at n (x ∷ before) after g = good-at n before after (good-cons x (before ++ n ∷ after) g).others

-- where the identifier of a name stands in the directory
abbrev pub place_behind : ℕ → List (List ℕ) → ℕ
place_behind o before = o + names_size before

entries-split : (i o : ℕ) (n : List ℕ) (before after : List (List ℕ))
    → file_entries i o (before ++ n ∷ after)
    ≡ file_entries i o before ++ entry_for (place_behind o before) 0 (16 + (i + length before)) (8 ∷ n) (length n) ∷ file_entries (i + length before + 1) (place_behind o before + identifier_size (length n)) after
unfolding file_entries summed
entries-split i o n [] after =
    let z : o + 0 ≡ o = omega arith in
    let y : i + 0 ≡ i = omega arith in
    rw (z, y)
entries-split i o n (x ∷ before) after =
    let z : o + identifier_size (length x) + names_size before ≡ o + (identifier_size (length x) + names_size before) = omega arith in
    let y : i + 1 + length before ≡ i + suc (length before) = omega arith in
    ap (λ l. entry_for o 0 (16 + i) (8 ∷ x) (length x) ∷ l) (rw (← z, ← y) (entries-split (i + 1) (o + identifier_size (length x)) n before after))

module _ (check : Bool) (m : Matching) (n : List ℕ) (before after : List (List ℕ)) (g : are_good (before ++ n ∷ after) ≡ true) (h : length (before ++ n ∷ after) ≤ 64) (k : names_size (before ++ n ∷ after) ≤ 10752) where
  abbrev its_entry : Entry
  its_entry = entry_for (place_behind 40 before) 0 (16 + (0 + length before)) (8 ∷ n) (length n)

  pub name-found : find_in check m n (directory (before ++ n ∷ after)) ≡ answered (Some its_entry)
  unfolding find_in NoneAnswers answers_to is_skipped
  name-found =
      let q = good-at n before after g in
      rw (directory-entries check (before ++ n ∷ after) g h k, entries-split 0 40 n before after)
      (only-wins (fold_in m) n m (parent_entry ∷ file_entries 0 40 before) its_entry (file_entries (0 + length before + 1) (place_behind 40 before + identifier_size (length n)) after)
      (refl, none_before m n 0 40 before after g)
      (answers_by (fold_in m) n (place_behind 40 before) (16 + (0 + length before)) n q.plain q.small ∙ same-reflexive (fold_in m) n)
      (none-behind m n (0 + length before + 1) (place_behind 40 before + identifier_size (length n)) after q.others q.once))

-- ---- a name is a path of one component

plain-front : (s : List ℕ) → all_plain s ≡ true → front s ≡ s
unfolding front
plain-front [] e = refl
plain-front (b ∷ s) e = let p = plain-cons b s e in rw p.2 (ap (λ l. b ∷ l) (plain-front s p.3))

plain-behind : (at : ℕ) (s : List ℕ) → all_plain s ≡ true → behind at s ≡ []
unfolding behind
plain-behind at [] e = refl
plain-behind at (b ∷ s) e = let p = plain-cons b s e in rw p.2 (plain-behind (suc at) s p.3)

pub one-component : (n : List ℕ) → all_plain n ≡ true → 1 ≤ length n → components n ≡ record { bytes = n; at = 0 } ∷ []
unfolding components components_from
one-component [] e h = absurd (omega arith)
one-component (b ∷ s) e h = rw (plain-front (b ∷ s) e, plain-behind 0 (b ∷ s) e)

-- ---- the calls, on a disc on which the root's bytes are the directory's

module _ (d : Disc) (v : Mount) (root : LongAd) (work c : ℕ) (names : List (List ℕ)) (r : ran d (file_bytes v root) ≡ record { outcome = answered (directory names); count = c })
    (room : directory_size names ≤ work) where
  bytes_run : ran d (directory_bytes v work root) ≡ record { outcome = answered (directory names); count = c + 0 }
  unfolding directory_bytes within
  bytes_run = ran_then d (file_bytes v root) (λ b. ended (within work b)) ∙ rw (r, le-leb (length (directory names)) work (omega (arith, directory-long names)), ran-done)

  -- the root lists exactly the names, in their order
  pub listing-runs : are_good names ≡ true → length names ≤ 64 → names_size names ≤ 10752 → ran d (listing_at v work root) ≡ record { outcome = answered (listed 0 names); count = c + 0 + 0 }
  unfolding listing_at
  listing-runs g h k = ran_then d (directory_bytes v work root) (λ b. ended (listing (is_checked v) b)) ∙ rw (bytes_run, directory-listed (is_checked v) names g h k, ran-done)

module _ (d : Disc) (v : Mount) (root : LongAd) (work c : ℕ) (m : Matching) (n : List ℕ) (before after : List (List ℕ))
    (r : ran d (file_bytes v root) ≡ record { outcome = answered (directory (before ++ n ∷ after)); count = c }) (room : directory_size (before ++ n ∷ after) ≤ work)
    (g : are_good (before ++ n ∷ after) ≡ true) (h : length (before ++ n ∷ after) ≤ 64) (k : names_size (before ++ n ∷ after) ≤ 10752) where
  enters : ran d (entering m v work root n) ≡ record { outcome = answered (Some (its_entry (is_checked v) m n before after g h k)); count = c + 0 + 0 }
  unfolding entering
  enters =
      ran_then d (directory_bytes v work root) (λ b. ended (find_in (is_checked v) m n b))
      ∙ rw (bytes_run d v root work c (before ++ n ∷ after) r room, name-found (is_checked v) m n before after g h k, ran-done)

  -- the name is found, under every choice of matching: the ICB of its own entry
  pub lookup-runs : ran d (lookup_of m v work root n) ≡ record { outcome = answered (icb_at (16 + (0 + length before))); count = c + 0 + 0 + 0 + 0 }
  unfolding lookup_of seek_path seeking
  lookup-runs =
      let q = good-at n before after g in
      rw (one-component n q.plain q.some)
      (ran_then d _ (λ s. ended (icb_of s)) ∙ rw (ran_then d (entering m v work root n) _, enters, ran-done, ran-done))

  -- and reading it by its name is reading by that ICB
  pub path-runs : {bytes : List ℕ} {e : ℕ} → ran d (file_bytes v (icb_at (16 + (0 + length before)))) ≡ record { outcome = answered bytes; count = e }
      → ran d (read_path_of m v work root n) ≡ record { outcome = answered bytes; count = c + 0 + 0 + 0 + 0 + e }
  unfolding read_path_of
  path-runs q = ran_then d (lookup_of m v work root n) (λ icb. file_bytes v icb) ∙ rw (lookup-runs, q)

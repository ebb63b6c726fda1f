-- The directory of the vault: what its identifiers are read as, what it lists, and which entry has a name. Assumes nothing.
use mathlib.Core.Path.{◌≡◌, refl, ap, sym, ◌∙◌}
use mathlib.Core.Bool.{Bool, true, false}
use mathlib.Core.List.{List, [], ◌∷◌, ◌++◌, append_assoc}
use Prim.Native.Nat.{ℕ, suc, ◌+◌, ◌-◌, ◌/◌, ◌≤◌, ◌<◌, ◌^◌}
use native.Mathlib.Omega.{arith}
use lib.ListN.{length, take, drop, length-append, length-replicate}
use lib.Seq.{take-append_seam}
use lib.Dec.{eqb, ltb, lit<, lit≤}
use borrow.Author.Tests.{ne_eqb, lt-ltb, le-ltb, ltb-false}
use Rattle.disc.specs.Choice.{pick}
use Rattle.disc.specs.Ask.Outcome.{answered}
use Rattle.disc.proofs.PickLaws.{not-both}
use Rattle.records.specs.Allocations.{long_of}
use Rattle.records.proofs.Numbers.{u32-le32}
use Rattle.tags.specs.Tags.{gated}
use Rattle.names.specs.Names.{until_zero, utf8, encode, name_of}
use Rattle.identifiers.specs.Identifiers.{name_at, name_end, recorded_name, next_at, rounded, identifier_of, identifier_sized, identifier_named, read_identifier}
use Rattle.listings.specs.Entries.{Entry, entry_in, entry_read, in_front, entries_from, entries as entries_of}
use Rattle.writers.specs.Layout.{zeros, tag_for, sealed, identifier_size, names_size, summed, identifier_body, identifier_at, identifiers, directory}
use Rattle.writers.specs.Refusing.{is_plain, all_plain, are_good}
use Rattle.writers.proofs.PourLaws.{sealed-long}
use Rattle.writers.proofs.PartLaws.{good-cons}
use Rattle.writers.proofs.SealLaws.{Seal, head_read}
use Rattle.writers.specs.Vaults.{icb_at}

-- ---- a name that is recorded

pub plain-cons : (b : ℕ) (s : List ℕ) → all_plain (b ∷ s) ≡ true → (0x21 ≤ b) × (b ≤ 0x7e) × (eqb b 0x2f ≡ false) × (all_plain s ≡ true)
unfolding all_plain is_plain
plain-cons b s e = by (ltb b 0x21) (ltb 0x7e b) (eqb b 0x2f) refl refl refl e
  where
    by : (x y z : Bool) → ltb b 0x21 ≡ x → ltb 0x7e b ≡ y → eqb b 0x2f ≡ z → pick (pick x false (pick y false (pick z false true))) (all_plain s) false ≡ true
        → (0x21 ≤ b) × (b ≤ 0x7e) × (eqb b 0x2f ≡ false) × (all_plain s ≡ true)
    by true y z p q r g = not-both g
    by false true z p q r g = not-both g
    by false false true p q r g = not-both g
    by false false false p q r g = (ltb-false b 0x21 p, ltb-false 0x7e b q, r, g)

-- its UTF-8 is itself
plain-text : (s : List ℕ) → all_plain s ≡ true → utf8 (until_zero s) ≡ s
unfolding utf8 until_zero encode
plain-text [] e = refl
plain-text (b ∷ s) e =
    let p = plain-cons b s e in
    rw (ne_eqb b 0 (λ z. omega (arith, p.0)), lt-ltb b 0x80 (omega (arith, p.1))) (ap (λ l. b ∷ l) (plain-text s p.3))

pub plain-name : (n : List ℕ) → all_plain n ≡ true → name_of (8 ∷ n) ≡ answered n
unfolding name_of
plain-name n e = ap answered (plain-text n e)

-- ---- an identifier, as the layout has it

module _ (o characteristics block : ℕ) (recorded : List ℕ) where
  abbrev body : List ℕ
  body = identifier_body characteristics block recorded

  abbrev whole : List ℕ
  whole = identifier_at o characteristics block recorded

  -- the entry that it is
  abbrev pub entry_for : ℕ → Entry
  entry_for size = record {
    identifier = record {
      tag = tag_for 257 (8 + o / 2048) body;
      file_version_number = 1;
      file_characteristics = characteristics;
      icb = icb_at block;
      name_at = 38;
      name_length = length recorded;
      name_size = size;
      total_size = rounded (38 + length recorded);
    };
    recorded = recorded;
  }

  body-long : length body ≡ rounded (38 + length recorded) - 16
  unfolding identifier_body
  body-long = simp (length-append, length-replicate) (omega arith)

  pub whole_long : length whole ≡ rounded (38 + length recorded)
  whole_long = omega (arith, sealed-long 257 (8 + o / 2048) body, body-long)

  pub identifier-seal : o < 2 ^ 32 → length recorded ≤ 128 → Seal 257 (8 + o / 2048) body
  identifier-seal h k = record { known = refl; id-fits = lit< tt; location-fits = omega arith; short = omega (arith, body-long) }

  module _ (rest : List ℕ) where
    recorded-is : recorded_name (whole ++ rest) ≡ recorded
    unfolding recorded_name name_at sealed identifier_body
    recorded-is = ap (take (length recorded)) (append_assoc recorded (zeros (rounded (38 + length recorded) - (38 + length recorded))) rest) ∙ take-append_seam recorded (zeros (rounded (38 + length recorded) - (38 + length recorded)) ++ rest)

    end_is : name_end (whole ++ rest) ≡ 38 + length recorded
    unfolding name_end name_at sealed identifier_body
    end_is = refl

    next-is : next_at (whole ++ rest) ≡ length whole
    unfolding next_at
    next-is = ap rounded end_is ∙ sym whole_long

    long : length (whole ++ rest) ≡ length whole + length rest
    long = rw length-append

    icb-is : block < 2 ^ 32 → long_of (whole ++ rest) 20 ≡ icb_at block
    unfolding sealed identifier_body
    icb-is h = ap icb_at (u32-le32 block h)

    identifier-is : block < 2 ^ 32 → (size : ℕ) → identifier_of (whole ++ rest) (tag_for 257 (8 + o / 2048) body) 38 (length recorded) size ≡ (entry_for size).identifier
    unfolding identifier_of sealed identifier_body
    identifier-is h size = ap (λ x. record {
      tag = tag_for 257 (8 + o / 2048) body;
      file_version_number = 1;
      file_characteristics = characteristics;
      icb = x;
      name_at = 38;
      name_length = length recorded;
      name_size = size;
      total_size = rounded (38 + length recorded);
    }) (icb-is h)

    module _ (h : o < 2 ^ 32) (k : block < 2 ^ 32) (l : length recorded ≤ 128) {name : List ℕ} (n : name_of recorded ≡ answered name) (check : Bool) where
      named-is : identifier_named (whole ++ rest) (tag_for 257 (8 + o / 2048) body) ≡ answered (entry_for (length name)).identifier
      unfolding identifier_named identifier_sized name_at sealed identifier_body
      named-is =
          let q : 38 + length recorded ≤ length (whole ++ rest) = omega (arith, long, whole_long) in
          rw (end_is, le-ltb (length (whole ++ rest)) (38 + length recorded) q, recorded-is, n) (ap answered (identifier-is k (length name)))

      pub identifier-read : read_identifier check (whole ++ rest) ≡ answered (entry_for (length name)).identifier
      unfolding read_identifier
      identifier-read =
          ap (λ t. gated t (identifier_named (whole ++ rest))) (head_read body (identifier-seal h l) rest check 38 (omega (arith, body-long)))
          ∙ named-is

      pub entry_read_lem : entry_read check (whole ++ rest) ≡ answered (entry_for (length name))
      unfolding entry_read
      entry_read_lem = ap (λ f. entry_in (whole ++ rest) f) identifier-read ∙ ap (λ r. answered (record { identifier = (entry_for (length name)).identifier; recorded = r })) recorded-is

-- ---- one behind another

skip : (check : Bool) (k rest : List ℕ) → entries_from check (length k) (k ++ rest) ≡ entries_from check 0 rest
unfolding entries_from
skip check [] rest = refl
skip check (b ∷ k) rest = skip check k rest

step : (check : Bool) (b : ℕ) (k rest : List ℕ) {e : Entry} → entry_read check (b ∷ (k ++ rest)) ≡ answered e → next_at (b ∷ (k ++ rest)) ≡ suc (length k) → 38 ≤ suc (length k)
    → entries_from check 0 (b ∷ (k ++ rest)) ≡ in_front e (entries_from check 0 rest)
unfolding entries_from
step check b k rest e n h =
    let l : 38 ≤ length (b ∷ (k ++ rest)) = omega (arith, length-append k rest) in
    let z : suc (length k) - 1 ≡ length k = omega arith in
    rw (le-ltb (length (b ∷ (k ++ rest))) 38 l, e, n, z, skip check k rest)

entries-cons : (check : Bool) (o characteristics block : ℕ) (recorded rest : List ℕ) → o < 2 ^ 32 → block < 2 ^ 32 → length recorded ≤ 128 → {name : List ℕ} → name_of recorded ≡ answered name
    → entries_from check 0 (identifier_at o characteristics block recorded ++ rest) ≡ in_front (entry_for o characteristics block recorded (length name)) (entries_from check 0 rest)
unfolding sealed
entries-cons check o characteristics block recorded rest h k l n =
    let w : length (identifier_at o characteristics block recorded) ≡ suc (length (drop 1 (identifier_at o characteristics block recorded))) = refl in
    step check 1 (drop 1 (identifier_at o characteristics block recorded)) rest (entry_read_lem o characteristics block recorded rest h k l n check)
    (next-is o characteristics block recorded rest ∙ w) (omega (arith, w, whole_long o characteristics block recorded))

-- ---- the entries of the files

unfoldable pub file_entries : ℕ → ℕ → List (List ℕ) → List Entry
file_entries i o [] = []
file_entries i o (n ∷ ns) = entry_for o 0 (16 + i) (8 ∷ n) (length n) ∷ file_entries (i + 1) (o + identifier_size (length n)) ns

pub files-entries : (check : Bool) (i o : ℕ) (names : List (List ℕ)) → are_good names ≡ true → i + length names < 2 ^ 31 → o + names_size names < 2 ^ 31
    → entries_from check 0 (identifiers i o names) ≡ answered (file_entries i o names)
unfolding identifiers file_entries summed entries_from
files-entries check i o [] g h k = refl
files-entries check i o (n ∷ ns) g h k =
    let q = good-cons n ns g in
    entries-cons check o 0 (16 + i) (8 ∷ n) (identifiers (i + 1) (o + identifier_size (length n)) ns) (omega arith) (omega arith) (omega (arith, q.small)) (plain-name n q.plain)
    ∙ rw (files-entries check (i + 1) (o + identifier_size (length n)) ns q.others (omega arith) (omega arith))

abbrev pub parent_entry : Entry
parent_entry = entry_for 0 10 2 [] 0

pub directory-entries : (check : Bool) (names : List (List ℕ)) → are_good names ≡ true → length names ≤ 64 → names_size names ≤ 10752
    → entries_of check (directory names) ≡ answered (parent_entry ∷ file_entries 0 40 names)
unfolding directory entries_of name_of
directory-entries check names g h k =
    entries-cons check 0 10 2 [] (identifiers 0 40 names) (lit< tt) (lit< tt) (lit≤ tt) {name = []} refl
    ∙ rw (files-entries check 0 40 names g (omega arith) (omega arith))

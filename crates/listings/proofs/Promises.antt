-- What is proved of a directory's bytes: the first entry of a name wins, what it is to have the name, that no name is too long for its
-- record, that each contract leaves one result, and worked cases. Assumes nothing.
use Rattle.std.specs.Prelude.{Some, None}
use mathlib.Core.Path.{◌≡◌, refl, sym, ◌∙◌}
use mathlib.Core.Bool.{Bool, true, false}
use mathlib.Core.List.{List, [], ◌∷◌, ◌++◌, map}
use Prim.Native.Nat.{ℕ, zero, suc, ◌-◌, ◌≤◌}
use native.Mathlib.Omega.{arith}
use lib.ListN.{length}
use lib.Dec.{ltb}
use Rattle.disc.specs.Ran.{told}
use Rattle.disc.specs.Choice.{pick}
use Rattle.disc.specs.Ask.{Outcome, and_then}
use Rattle.disc.specs.Ask.Outcome.{answered, refused}
use Rattle.disc.specs.Replies.{Replied}
use Rattle.disc.specs.declared.refusals.Refusal.{Refusal}
use Rattle.disc.specs.declared.refusals.Refusal.TheVariants.{Malformed, NoRoom, BadCrc}
use Rattle.disc.specs.declared.replies.Reply.{Reply}
use Rattle.disc.proofs.PickLaws.{not-both}
use Rattle.disc.proofs.ReplyLaws.{replied-one}
use Rattle.names.specs.Names.{pairs, until_zero, surrogate, drop_surrogates, encode, utf8, name_of, written, matched, is_named}
use Rattle.names.proofs.Promises.{same-folded}
use Rattle.crcs.specs.Crcs.{crc_from, crc_of}
use Rattle.tags.specs.Tags.{body_right, with_body, with_id, read_head}
use Rattle.identifiers.specs.declared.FileIdentifierDescriptor.{FileIdentifierDescriptor}
use Rattle.identifiers.proofs.IdentifierLaws.{identifier-refused}
use Rattle.identifiers.specs.Identifiers.{name_at, name_end, recorded_name, next_at, identifier_of, identifier_sized, identifier_named, read_identifier}
use Rattle.listings.specs.Entries.{Entry, entry_in, entry_read, in_front, is_skipped, name_in, entries_from, entries}
use Rattle.listings.specs.Listings.{record_head, entry_record, records, listing, answers_to, first_named, find_in, named_of}
use Rattle.listings.specs.Paths.{front, behind, components_from, components}
use Rattle.listings.specs.declared.finds.Named.{Named}
use Rattle.listings.specs.declared.matchings.Matching.{Matching}
use Rattle.listings.proofs.RecordLaws.{each_read, each_at, name-brief}
use Rattle.disc.specs.Parts.{Bytes}
use Rattle.listings.specs.Matchings.{NoneAnswers}
use Rattle.listings.specs.Example.{entry_of_a, entry_a}

-- ---- the first entry of a name, under a fold

module _ (fold : ℕ → ℕ) where
  -- whatever stands behind it, an entry that answers is taken where none before it does
  pub first-wins : (component : List ℕ) (before : List Entry) (e : Entry) (rest : List Entry) → (NoneAnswers fold) component before → answers_to fold component e ≡ true
      → first_named fold component (before ++ e ∷ rest) ≡ Some e
  unfolding first_named NoneAnswers
  first-wins component [] e rest n h = rw h
  first-wins component (x ∷ more) e rest n h = rw n.0 (first-wins component more e rest n.1 h)

  -- and no entry is found where none answers
  pub none_found : (component : List ℕ) (all : List Entry) → (NoneAnswers fold) component all → first_named fold component all ≡ None
  unfolding first_named NoneAnswers
  none_found component [] n = refl
  none_found component (x ∷ more) n = rw n.0 (none_found component more n.1)

  -- an entry that answers is not skipped, and its name is the component under the fold
  pub answers-folded : (component : List ℕ) (e : Entry) → answers_to fold component e ≡ true → (is_skipped e.identifier ≡ false) × (map fold (name_in e) ≡ map fold component)
  unfolding answers_to is_named name_in
  answers-folded component e h = by (is_skipped e.identifier) (ltb 255 (length e.recorded)) (name_of e.recorded) refl h
    where
      by : (s t : Bool) (o : Outcome (List ℕ)) → is_skipped e.identifier ≡ s → pick s false (pick t false (matched fold o component)) ≡ true
          → (is_skipped e.identifier ≡ false) × (map fold (written o) ≡ map fold component)
      by true t o k h = not-both h
      by false true o k h = not-both h
      by false false (refused why) k h = not-both h
      by false false (answered name) k h = (k, (same-folded fold name component).0 h)

-- ---- a directory is refused by what refuses an entry: every refusal is `Malformed`, or where bodies are checked `BadCrc`

module _ (check : Bool) (P : Refusal → Type 0) (bad : P Malformed) (crc : check ≡ true → P BadCrc) where
  read-refused : (s : List ℕ) {why : Refusal} → entry_read check s ≡ refused why → P why
  unfolding entry_read
  read-refused s {why} e = by (read_identifier check s) refl e
    where
      by : (o : Outcome FileIdentifierDescriptor) → read_identifier check s ≡ o → entry_in s o ≡ refused why → P why
      by (answered f) g k = absurd (let y : ◌≡◌ {A = ℕ} 0 1 = cc in omega arith)
      by (refused w) g k = let z : w ≡ why = cc in identifier-refused check s P bad crc (rw z at g)

  from-refused : (k : ℕ) (s : List ℕ) {why : Refusal} → entries_from check k s ≡ refused why → P why
  unfolding entries_from
  from-refused k [] e = absurd (let z : ◌≡◌ {A = ℕ} 0 1 = cc in omega arith)
  from-refused (suc k) (b ∷ s) e = from-refused k s e
  from-refused zero (b ∷ s) {why} e = by (λ w q. from-refused (next_at (b ∷ s) - 1) s q) (ltb (length (b ∷ s)) 38) (entry_read check (b ∷ s)) refl e
    where
      others : (e : Entry) (o : Outcome (List Entry)) → ((w : Refusal) → o ≡ refused w → P w) → in_front e o ≡ refused why → P why
      others e (answered es) ih q = absurd (let z : ◌≡◌ {A = ℕ} 0 1 = cc in omega arith)
      others e (refused w) ih q = ih why q

      by : ((w : Refusal) → entries_from check (next_at (b ∷ s) - 1) s ≡ refused w → P w) → (t : Bool) (o : Outcome Entry) → entry_read check (b ∷ s) ≡ o
          → pick t (answered []) (and_then o (λ x. in_front x (entries_from check (next_at (b ∷ s) - 1) s))) ≡ refused why → P why
      by ih true o k e = absurd (let z : ◌≡◌ {A = ℕ} 0 1 = cc in omega arith)
      by ih false (answered x) k e = others x (entries_from check (next_at (b ∷ s) - 1) s) ih e
      by ih false (refused w) k e = let z : w ≡ why = cc in read-refused (b ∷ s) (rw z at k)

pub entries-refused : (check : Bool) (s : List ℕ) (P : Refusal → Type 0) → P Malformed → (check ≡ true → P BadCrc) → {why : Refusal} → entries check s ≡ refused why → P why
unfolding entries
entries-refused check s P bad crc e = from-refused check P bad crc 0 s e

-- ---- no name is too long

-- no directory's bytes have an entry whose name exceeds 508 bytes, so its length fits the two bytes of its record (RecordLaws `record-size`)
pub entry-brief : (check : Bool) (s : List ℕ) → Bytes s → (before : List Entry) (e : Entry) (rest : List Entry) → entries check s ≡ answered (before ++ e ∷ rest) → length (name_in e) ≤ 508
entry-brief check s b before e rest h = name-brief (each_at before e rest (each_read check s b h))

-- ---- each contract leaves one result

pub list-one : (check : Bool) (raw : List ℕ) {out a a' : List ℕ} {r r' : Reply} → Replied NoRoom (told (listing check raw)) out a r → Replied NoRoom (told (listing check raw)) out a' r' → (r ≡ r') × (a ≡ a')
list-one check raw p q = replied-one p q

pub find-one : (check : Bool) (m : Matching) (component raw : List ℕ) {r r' : Named} → r ≡ named_of (find_in check m component raw) → r' ≡ named_of (find_in check m component raw) → r ≡ r'
find-one check m component raw p q = p ∙ sym q

-- ---- worked cases

pub one-listed : (check : Bool) → listing check entry_a
    ≡ answered (0x44 ∷ 0x45 ∷ 1 ∷ 0x00 ∷ 0x08 ∷ 0x00 ∷ 0x00 ∷ 0x05 ∷ 0x00 ∷ 0x00 ∷ 0x00 ∷ 0x00 ∷ 0x00 ∷ 0x00 ∷ 0x00 ∷ 0x00 ∷ 0x00 ∷ 0x00 ∷ 0x00 ∷ 1 ∷ 0 ∷ 0x41 ∷ [])
unfolding pairs until_zero surrogate drop_surrogates encode utf8 name_of name_at name_end recorded_name next_at identifier_of identifier_sized identifier_named crc_from crc_of body_right with_body with_id read_head read_identifier entry_read is_skipped name_in entries_from entries record_head entry_record records listing
one-listed true = refl
one-listed false = refl

-- a deleted one with another CRC is passed over, and where bodies are checked refuses the directory all the same
pub deleted-checked : (listing false (entry_of_a 0x05 0x01 0x04) ≡ answered []) × (listing true (entry_of_a 0x05 0x01 0x04) ≡ refused BadCrc)
unfolding pairs until_zero surrogate drop_surrogates encode utf8 name_of name_at name_end recorded_name next_at identifier_of identifier_sized identifier_named crc_from crc_of body_right with_body with_id read_head read_identifier entry_read is_skipped name_in entries_from entries record_head entry_record records listing
deleted-checked = (refl, refl)

-- three bytes hold no entry, and 38 or more that are none refuse the listing
pub none-listed : (check : Bool) → (listing check (0 ∷ 0 ∷ 0 ∷ []) ≡ answered []) × (listing check (0 ∷ entry_a) ≡ refused Malformed)
unfolding pairs until_zero surrogate drop_surrogates encode utf8 name_of name_at name_end recorded_name next_at identifier_of identifier_sized identifier_named with_body with_id read_head read_identifier entry_read is_skipped name_in entries_from entries record_head entry_record records listing
none-listed check = (refl, refl)

-- "/a//b/" has the components "a", at 1, and "b", at 4
pub two-components : components (0x2f ∷ 0x61 ∷ 0x2f ∷ 0x2f ∷ 0x62 ∷ 0x2f ∷ []) ≡ record { bytes = 0x61 ∷ []; at = 1 } ∷ record { bytes = 0x62 ∷ []; at = 4 } ∷ []
unfolding components components_from front behind
two-components = refl

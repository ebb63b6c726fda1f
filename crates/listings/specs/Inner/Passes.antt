-- What the passes over a directory's bytes report.
use Rattle.std.specs.Prelude.{ℕ, ◌+◌, ◌-◌, ◌/◌, ◌%◌, ◌≤◌, ◌≡◌, Bool, true, false, ◌||◌, not, List, [], ◌∷◌, ◌++◌, length, take, drop, eqb, ltb, Result, Ok, Err}
use Rattle.disc.specs.Choice.{pick}
use Rattle.disc.specs.Refusals.{number}
use Rattle.disc.specs.Ask.{Outcome}
use Rattle.disc.specs.Ask.Outcome.{answered, refused}
use Rattle.disc.specs.declared.refusals.Refusal.{Refusal}
use Rattle.disc.specs.declared.refusals.Refusal.TheVariants.{Ambiguous}
use Rattle.records.specs.Bytes.{byte, six, le16}
use Rattle.names.specs.Names.{Wrote}
use Rattle.identifiers.specs.Identifiers.{name_at, name_end, next_at, bit, is_directory}
use Rattle.identifiers.specs.Inner.Wholes.{Whole}
use Rattle.identifiers.specs.declared.FileIdentifierDescriptor.{FileIdentifierDescriptor}
use Rattle.listings.specs.Entries.{Entry, entry_of, entry_read, in_front, entries}
use Rattle.listings.specs.Listings.{entry_record, records, fold_in, answers_to, unnamed}
use Rattle.listings.specs.declared.directory_entries.EntrySeen.{EntrySeen}
use Rattle.listings.specs.declared.directory_entries.Put.{Put}
use Rattle.listings.specs.declared.finds.Named.{Named}
use Rattle.listings.specs.declared.matchings.Matching.{Matching}
use Rattle.listings.specs.declared.matchings.Matching.TheVariants.{CaseIgnored, AsWritten, Unambiguous}

-- ---- the entry at a place, with its body checked or not

-- the bytes from there on
abbrev pub tail : List ℕ → ℕ → List ℕ
tail raw at = take (length raw - at) (drop at raw)

-- it is good, with its identifier f: the next one starts at most three bytes past the end
pub record GoodAt (check : Bool) (raw : List ℕ) (at : ℕ) (f : FileIdentifierDescriptor) : Type 0 where
  pub is : entries check (drop at raw) ≡ in_front (entry_of (tail raw at) f) (entries check (drop (at + f.total_size) raw))
  pub whole : Whole (tail raw at) f
  pub inside : at + (f.name_at + f.name_length) ≤ length raw
  pub near : at + f.total_size ≤ length raw + 3

-- it is good, or it is bad and so are all entries from there on
abbrev pub Comes : Bool → List ℕ → ℕ → Result FileIdentifierDescriptor Refusal → Type 0
Comes check raw at (Ok f) = GoodAt check raw at f
Comes check raw at (Err why) = entries check (drop at raw) ≡ refused why

-- ---- the entry at the front of s, looked at without checking it again

-- one whose name ends past the bytes is skipped, and behind it there is none
unfoldable pub seen_of : List ℕ → EntrySeen
seen_of s =
    pick (ltb (length s) (name_end s)) (record { skipped = true; marks = byte s 18; from = 0; end = 0; next = length s })
    (record { skipped = bit 4 (byte s 18) || bit 8 (byte s 18); marks = byte s 18; from = name_at s; end = name_end s; next = next_at s })

-- ---- a record

-- its head: the ICB's bytes as they are recorded, the name's length n
abbrev pub icb_in : List ℕ → List ℕ
icb_in s = six s 20 ++ six s 26 ++ byte s 32 ∷ byte s 33 ∷ byte s 34 ∷ byte s 35 ∷ []

unfoldable pub head_in : ℕ → List ℕ → ℕ → List ℕ
head_in directory s n = 0x44 ∷ 0x45 ∷ directory ∷ (icb_in s ++ le16 n)

-- the whole record, by the entry's characteristics and a name in UTF-8
unfoldable pub record_in : ℕ → List ℕ → List ℕ → List ℕ
record_in marks s name = head_in (marks / 2 % 2) s (length name) ++ name

-- what writing a record reports: no more is written than there is room for, and it is the record where that fits
pub record Recorded (marks : ℕ) (s name before after : List ℕ) (r : ℕ) : Type 0 where
  pub inside : r ≤ length before
  pub wrote : 21 + length name ≤ length before → Wrote (record_in marks s name) before after r

-- what writing an entry reports, whatever bytes s has: no more is written than there is room for, and the next entry starts further on, at most three
-- bytes past the end. Nothing is checked again: an entry that was read with its body checked is read the same without
pub record Puts (s before after : List ℕ) (r : Put) : Type 0 where
  pub inside : r.wrote ≤ length before
  pub further : 1 ≤ r.next
  pub near : r.next ≤ length s + 3
  pub next : (e : Entry) → entry_read false s ≡ answered e → r.next ≡ next_at s
  pub wrote : (e : Entry) → entry_read false s ≡ answered e → length (entry_record e) ≤ length before → Wrote (entry_record e) before after r.wrote

-- ---- all entries

-- what measuring a directory's entries reports
abbrev pub size_of_listing : Outcome (List Entry) → Result ℕ Refusal
size_of_listing (answered es) = Ok (length (records es))
size_of_listing (refused why) = Err why

-- no further entry can change what was found: a first match or, if it must be unambiguous, a second one
abbrev pub settled : Matching → Named → Bool
settled CaseIgnored found = found.found
settled AsWritten found = found.found
settled Unambiguous found = not (eqb found.answer 0)

-- what is found with one more entry that matches
abbrev pub joined_of : Named → FileIdentifierDescriptor → Named
joined_of found f = pick found.found (unnamed (number Ambiguous)) (record { answer = 0; found = true; icb = f.icb; directory = is_directory f })

-- what is found with one more entry
unfoldable pub noted_of : Matching → Named → List ℕ → Entry → Named
noted_of m found component e = pick (settled m found) found (pick (answers_to (fold_in m) component e) (joined_of found e.identifier) found)

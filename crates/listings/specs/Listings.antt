-- What a directory's bytes list, and which entry has a name, by a choice of matching: RULES 8.7 to 8.10, 8.15 and 8.22 to 8.24.
use Rattle.std.specs.Prelude.{ℕ, Bool, true, false, List, [], ◌∷◌, ◌++◌, length, eqb, Option, Some, None}
use Rattle.disc.specs.Choice.{pick}
use Rattle.disc.specs.Refusals.{number}
use Rattle.disc.specs.Ask.{Outcome, and_then}
use Rattle.disc.specs.Ask.Outcome.{answered, refused}
use Rattle.records.specs.Bytes.{le16}
use Rattle.records.specs.Allocations.{encode_long, no_long}
use Rattle.records.specs.declared.allocations.LongAd.{LongAd}
use Rattle.disc.specs.declared.refusals.Refusal.TheVariants.{Ambiguous}
use Rattle.names.specs.Names.{fold_of, is_named}
use Rattle.names.specs.declared.matching.Fold.{Fold}
use Rattle.names.specs.declared.matching.Fold.TheVariants.{Lower, AsIs}
use Rattle.identifiers.specs.Identifiers.{is_directory}
use Rattle.listings.specs.Entries.{Entry, is_skipped, name_in, entries}
use Rattle.listings.specs.declared.finds.Named.{Named}
use Rattle.listings.specs.declared.matchings.Matching.{Matching}
use Rattle.listings.specs.declared.matchings.Matching.TheVariants.{CaseIgnored, AsWritten, Unambiguous}

-- ---- the listing

-- the head of a record: mark, 1 for a directory, the ICB's 16 bytes, the name's length; the name follows
unfoldable pub record_head : Bool → LongAd → ℕ → List ℕ
record_head directory icb n = 0x44 ∷ 0x45 ∷ pick directory 1 0 ∷ (encode_long icb ++ le16 n)

-- the record of an entry: none for deleted and parent entries
unfoldable pub entry_record : Entry → List ℕ
entry_record e =
    pick (is_skipped e.identifier) []
    (record_head (is_directory e.identifier) e.identifier.icb (length (name_in e)) ++ name_in e)

unfoldable pub records : List Entry → List ℕ
records [] = []
records (e ∷ es) = entry_record e ++ records es

-- the listing: a bad entry refuses it
unfoldable pub listing : Bool → List ℕ → Outcome (List ℕ)
listing check s = and_then (entries check s) (λ es. answered (records es))

-- ---- the entries of a name

-- the fold of a choice of matching, for the bytes of a name and of a component
abbrev pub fold_for : Matching → Fold
fold_for CaseIgnored = Lower
fold_for AsWritten = AsIs
fold_for Unambiguous = Lower

abbrev pub fold_in : Matching → ℕ → ℕ
fold_in m = fold_of (fold_for m)

-- the choice with this number, for C and Rust; any other number is the choice that refuses most
unfoldable pub matching_of : ℕ → Matching
matching_of n = pick (eqb n 0) CaseIgnored (pick (eqb n 1) AsWritten Unambiguous)

-- an entry that isn't skipped, and has the component's name under a fold
unfoldable pub answers_to : (ℕ → ℕ) → List ℕ → Entry → Bool
answers_to fold component e = pick (is_skipped e.identifier) false (is_named fold e.recorded component)

-- all of these, in order
unfoldable pub all_named : (ℕ → ℕ) → List ℕ → List Entry → List Entry
all_named fold component [] = []
all_named fold component (e ∷ es) = pick (answers_to fold component e) (e ∷ all_named fold component es) (all_named fold component es)

-- which matching entry is taken: none if there is none, the only one, and of two or more the first, or a refusal
unfoldable pub chosen : Matching → List Entry → Outcome (Option Entry)
chosen m [] = answered None
chosen m (e ∷ []) = answered (Some e)
chosen CaseIgnored (e ∷ f ∷ es) = answered (Some e)
chosen AsWritten (e ∷ f ∷ es) = answered (Some e)
chosen Unambiguous (e ∷ f ∷ es) = refused Ambiguous

-- the whole directory is parsed before a name is matched
unfoldable pub find_in : Bool → Matching → List ℕ → List ℕ → Outcome (Option Entry)
find_in check m component s = and_then (entries check s) (λ es. chosen m (all_named (fold_in m) component es))

-- the first of the entries that match: what the first two choices take
unfoldable pub first_named : (ℕ → ℕ) → List ℕ → List Entry → Option Entry
first_named fold component [] = None
first_named fold component (e ∷ es) = pick (answers_to fold component e) (Some e) (first_named fold component es)

-- the same as the code reports it
abbrev pub unnamed : ℕ → Named
unnamed n = record { answer = n; found = false; icb = no_long; directory = false }

abbrev pub named_to : Option Entry → Named
named_to None = unnamed 0
named_to (Some e) = record { answer = 0; found = true; icb = e.identifier.icb; directory = is_directory e.identifier }

abbrev pub named_of : Outcome (Option Entry) → Named
named_of (answered o) = named_to o
named_of (refused r) = unnamed (number r)

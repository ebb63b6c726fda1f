-- A directory's bytes: its file identifiers (ECMA-167 4/14.4) one after another. RULES 8.2 to 8.8.
use Rattle.std.specs.Prelude.{ℕ, zero, suc, ◌-◌, Bool, ◌||◌, List, [], ◌∷◌, length, ltb}
use Rattle.disc.specs.Choice.{pick}
use Rattle.disc.specs.Ask.{Outcome, and_then}
use Rattle.disc.specs.Ask.Outcome.{answered}
use Rattle.names.specs.Names.{name_of, written}
use Rattle.identifiers.specs.declared.FileIdentifierDescriptor.{FileIdentifierDescriptor}
use Rattle.identifiers.specs.Identifiers.{read_identifier, recorded_name, next_at, is_deleted, is_parent}

-- ---- one entry

-- an entry: its file identifier, and its name as it is recorded, a d-string
pub record Entry : Type 0 where
  pub identifier : FileIdentifierDescriptor
  pub recorded : List ℕ

-- the entry of an identifier at the front of s
abbrev pub entry_of : List ℕ → FileIdentifierDescriptor → Entry
entry_of s f = record { identifier = f; recorded = recorded_name s }

-- reading it: a refused identifier refuses the entry; a body is checked in all the bytes from the entry on
abbrev pub entry_in : List ℕ → Outcome FileIdentifierDescriptor → Outcome Entry
entry_in s o = and_then o (λ f. answered (entry_of s f))

unfoldable pub entry_read : Bool → List ℕ → Outcome Entry
entry_read check s = entry_in s (read_identifier check s)

-- a deleted entry, or that of the parent (4/14.4.3)
unfoldable pub is_skipped : FileIdentifierDescriptor → Bool
is_skipped f = is_deleted f || is_parent f

-- its name as UTF-8
unfoldable pub name_in : Entry → List ℕ
name_in e = written (name_of e.recorded)

-- ---- all entries

-- an entry in front of the others
abbrev pub in_front : Entry → Outcome (List Entry) → Outcome (List Entry)
in_front e others = and_then others (λ es. answered (e ∷ es))

-- the entries of s behind its first k bytes: one is read while 38 bytes remain, and a bad one, deleted or not, refuses the directory
unfoldable pub entries_from : Bool → ℕ → List ℕ → Outcome (List Entry)
entries_from check k [] = answered []
entries_from check (suc k) (b ∷ s) = entries_from check k s
entries_from check zero (b ∷ s) =
    pick (ltb (length (b ∷ s)) 38) (answered [])
    (and_then (entry_read check (b ∷ s)) (λ e. in_front e (entries_from check (next_at (b ∷ s) - 1) s)))

unfoldable pub entries : Bool → List ℕ → Outcome (List Entry)
entries check s = entries_from check 0 s

-- When identifiers stand one after another in a directory's bytes, stated without reading them all: RULES 8.2, 8.5 and 8.8.
use Rattle.std.specs.Prelude.{ℕ, ◌<◌, ◌≤◌, ◌≡◌, Bool, List, [], ◌∷◌, length, drop}
use Rattle.disc.specs.Ask.{Outcome}
use Rattle.disc.specs.Ask.Outcome.{answered, refused}
use Rattle.disc.specs.declared.refusals.Refusal.{Refusal}
use Rattle.identifiers.specs.Identifiers.{next_at}
use Rattle.listings.specs.Entries.{Entry, entry_read}

-- at least 38 bytes, with the entry e at the front; `others` holds for the bytes from the next one on
pub record First (check : Bool) (s : List ℕ) (e : Entry) (others : List ℕ → Type 0) : Type 0 where
  pub long : 38 ≤ length s
  pub read : entry_read check s ≡ answered e
  pub on : others (drop (next_at s) s)

-- a row of entries, each where the one before it ends, and the bytes after the last
unfoldable pub RowTo : Bool → List ℕ → List Entry → List ℕ → Type 0
RowTo check s [] rest = s ≡ rest
RowTo check s (e ∷ es) rest = First check s e (λ t. RowTo check t es rest)

-- es are all entries of s: fewer than 38 bytes remain
pub record Ends (check : Bool) (s : List ℕ) (es : List Entry) : Type 0 where
  pub rest : List ℕ
  pub row : RowTo check s es rest
  pub short : length rest < 38

-- after some entries, none or more, there are 38 bytes or more whose entry is refused
pub record Fails (check : Bool) (s : List ℕ) (why : Refusal) : Type 0 where
  pub before : List Entry
  pub rest : List ℕ
  pub row : RowTo check s before rest
  pub long : 38 ≤ length rest
  pub bad : entry_read check rest ≡ refused why

-- all entries are good, or one is refused
abbrev pub Told : Bool → List ℕ → Outcome (List Entry) → Type 0
Told check s (answered es) = Ends check s es
Told check s (refused why) = Fails check s why

-- Entries that answer to a name, and names that differ.
use Rattle.std.specs.Prelude.{true, false, Bool, List, ◌∷◌, map, [], ◌++◌, ◌≡◌, ℕ}
use Rattle.disc.specs.Ask.Outcome.{answered}
use Rattle.disc.specs.Parts.{Bytes}
use Rattle.names.specs.Names.{lower}
use Rattle.listings.specs.Entries.{Entry, is_skipped, name_in, entry_read}
use Rattle.listings.specs.Listings.{answers_to}
use Rattle.listings.specs.Paths.{Component}
use Rattle.listings.specs.declared.matchings.Matching.{Matching}
use Rattle.listings.specs.declared.matchings.Matching.TheVariants.{CaseIgnored, Unambiguous, AsWritten}

-- the choices that take the first of several
abbrev pub takes_first : Matching → Bool
takes_first CaseIgnored = true
takes_first AsWritten = true
takes_first Unambiguous = false

-- two or more entries: what a refusal by 9 is for
pub record Several (xs : List Entry) : Type 0 where
  pub one : Entry
  pub other : Entry
  pub more : List Entry
  pub are : xs ≡ one ∷ other ∷ more

-- if e is listed, no listed entry of the others has its name, with ASCII case ignored
unfoldable pub NoneAlike : Entry → List Entry → Type 0
NoneAlike e [] = Unit {0}
NoneAlike e (f ∷ fs) = (is_skipped e.identifier ≡ false → is_skipped f.identifier ≡ false → map lower (name_in e) ≡ map lower (name_in f) → ⊥) × NoneAlike e fs

-- no two listed entries have the same name, with ASCII case ignored
unfoldable pub Apart : List Entry → Type 0
Apart [] = Unit {0}
Apart (e ∷ es) = NoneAlike e es × Apart es

-- none of them answers to the component
unfoldable pub NoneAnswers : (ℕ → ℕ) → List ℕ → List Entry → Type 0
NoneAnswers fold component [] = Unit {0}
NoneAnswers fold component (e ∷ more) = (answers_to fold component e ≡ false) × NoneAnswers fold component more

-- e is the only entry of its directory that answers: none before it does, and none after it
pub record Only (fold : ℕ → ℕ) (c : List ℕ) (es : List Entry) (e : Entry) : Type 0 where
  pub before : List Entry
  pub rest : List Entry
  pub parts : es ≡ before ++ e ∷ rest
  pub none_before : NoneAnswers fold c before
  pub answers : answers_to fold c e ≡ true
  pub none-behind : NoneAnswers fold c rest

-- an entry that was read from bytes
pub record WasRead (e : Entry) : Type 0 where
  pub check : Bool
  pub raw : List ℕ
  pub are : Bytes raw
  pub is : entry_read check raw ≡ answered e

-- a component's bytes under the fold, without its place
abbrev pub folded : (ℕ → ℕ) → Component → List ℕ
folded fold c = map fold c.bytes

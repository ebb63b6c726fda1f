-- Which names an entry that was read answers to, and what its record in a listing says. Assumes nothing.
use Rattle.std.specs.Prelude.{Some, Ok}
use mathlib.Core.Path.{◌≡◌, refl, sym, ap, ◌∙◌}
use mathlib.Core.Bool.{Bool, true, false}
use mathlib.Core.List.{List, [], ◌∷◌, ◌++◌, map, append_assoc}
use Prim.Native.Nat.{ℕ, zero, suc, ◌-◌, ◌≤◌}
use native.Mathlib.Omega.{arith}
use lib.ListN.{length, drop, length-take}
use lib.Dec.{ltb}
use borrow.Author.Tests.{le-ltb}
use Rattle.disc.specs.Choice.{pick}
use Rattle.disc.specs.Ask.{Outcome, and_then}
use Rattle.disc.specs.Ask.Outcome.{answered, refused}
use Rattle.disc.proofs.RanLaws.{never}
use Rattle.records.specs.Bytes.{u16at}
use Rattle.records.specs.Allocations.{long_of}
use Rattle.records.proofs.Numbers.{u16-le16}
use Rattle.names.specs.Names.{name_of, written, size_of, same_name, matched, is_named}
use Rattle.names.proofs.Promises.{same-folded}
use Rattle.identifiers.specs.Identifiers.{recorded_name, next_at}
use Rattle.listings.specs.Entries.{Entry, entry_read, in_front, is_skipped, name_in, entries_from, entries}
use Rattle.listings.specs.Listings.{record_head, entry_record, records, listing, answers_to, all_named, first_named}
use Rattle.listings.specs.Paths.{Component}
use Rattle.listings.proofs.EntryLaws.{Known, known, size_is, icb-recorded}
use Rattle.disc.specs.Parts.{Bytes}
use Rattle.listings.specs.Matchings.{WasRead, folded}

-- ---- every entry of a directory stands at the front of some bytes, and was read there with its body checked or without

unfoldable pub EachRead : List Entry → Type 0
EachRead [] = Unit {0}
EachRead (e ∷ es) = WasRead e × EachRead es

each_from : (check : Bool) (k : ℕ) (s : List ℕ) → Bytes s → {es : List Entry} → entries_from check k s ≡ answered es → EachRead es
unfolding entries_from EachRead
each_from check k [] b {es} h = let z : es ≡ [] = cc in rw z tt
each_from check (suc k) (x ∷ s) b h = each_from check k s (λ i. b (suc i)) h
each_from check zero (x ∷ s) b {es} h = by (λ fs q. each_from check (next_at (x ∷ s) - 1) s (λ i. b (suc i)) q) (ltb (length (x ∷ s)) 38) (entry_read check (x ∷ s)) refl h
  where
    others : (e : Entry) → WasRead e → (o : Outcome (List Entry)) → ((fs : List Entry) → o ≡ answered fs → EachRead fs) → in_front e o ≡ answered es → EachRead es
    others e w (answered fs) ih q = let z : es ≡ e ∷ fs = cc in rw z (w, ih fs refl)
    others e w (refused why) ih q = never q

    by : ((fs : List Entry) → entries_from check (next_at (x ∷ s) - 1) s ≡ answered fs → EachRead fs) → (t : Bool) (o : Outcome Entry) → entry_read check (x ∷ s) ≡ o
        → pick t (answered []) (and_then o (λ e. in_front e (entries_from check (next_at (x ∷ s) - 1) s))) ≡ answered es → EachRead es
    by ih true o k q = let z : es ≡ [] = cc in rw z tt
    by ih false (answered e) k q = others e (record { check = check; raw = x ∷ s; are = b; is = k }) (entries_from check (next_at (x ∷ s) - 1) s) ih q
    by ih false (refused why) k q = never q

pub each_read : (check : Bool) (s : List ℕ) → Bytes s → {es : List Entry} → entries check s ≡ answered es → EachRead es
unfolding entries
each_read check s b h = each_from check 0 s b h

pub each_at : (before : List Entry) (e : Entry) (rest : List Entry) → EachRead (before ++ e ∷ rest) → WasRead e
unfolding EachRead
each_at [] e rest w = w.0
each_at (x ∷ before) e rest w = each_at before e rest w.1

-- ---- one that was read

module _ {e : Entry} (w : WasRead e) where
  stands : Known w.raw e
  stands = known w.check w.raw w.are w.is

  recorded-there : e.recorded ≡ recorded_name w.raw
  recorded-there = ap (λ (x : Entry). x.recorded) stands.is

  -- its name has at most 508 bytes
  pub name-brief : length (name_in e) ≤ 508
  name-brief =
      let z : length (name_in e) ≡ e.identifier.name_size = ap (λ (x : Entry). length (name_in x)) stands.is ∙ size_is stands.whole in
      omega (arith, z, stands.whole.brief)

  module _ (s : is_skipped e.identifier ≡ false) where
    -- and it answers to that name, under each fold
    pub named-answers : (fold : ℕ → ℕ) (c : List ℕ) → map fold (name_in e) ≡ map fold c → answers_to fold c e ≡ true
    unfolding answers_to is_named name_in recorded_name
    named-answers fold c h = rw (s, le-ltb 255 (length e.recorded) few) (by (name_of e.recorded) {n = e.identifier.name_size} (rw recorded-there stands.whole.named) h)
      where
        few : length e.recorded ≤ 255
        few = rw (recorded-there, length-take) (omega (arith, stands.whole.few, stands.whole.recorded))

        by : (o : Outcome (List ℕ)) {n : ℕ} → size_of o ≡ Ok n → map fold (written o) ≡ map fold c → matched fold o c ≡ true
        by (answered name) z h = (same-folded fold name c).1 h
        by (refused why) z h = absurd (let y : ◌≡◌ {A = ℕ} 0 1 = cc in omega arith)

    -- its record in a listing has its ICB behind the mark and the flag,
    pub record-icb : (more : List ℕ) → long_of (entry_record e ++ more) 3 ≡ e.identifier.icb
    unfolding entry_record record_head
    record-icb more = rw s (rw stands.whole.icb (ap (λ (x : List ℕ). long_of x 0) (icb-recorded w.raw w.are)))

    -- then the length of its name, which two bytes hold,
    pub record-size : (more : List ℕ) → u16at (entry_record e ++ more) 19 ≡ length (name_in e)
    unfolding entry_record record_head
    record-size more = rw s (u16-le16 (length (name_in e)) (omega (arith, name-brief)))

    -- and then the name
    pub record-name : (more : List ℕ) → drop 21 (entry_record e ++ more) ≡ name_in e ++ more
    unfolding entry_record record_head
    record-name more = rw s refl

-- ---- the entry of a name

module _ (fold : ℕ → ℕ) where
  -- an entry that is found answers to its name
  pub found-answers : (c : List ℕ) (es : List Entry) {e : Entry} → first_named fold c es ≡ Some e → answers_to fold c e ≡ true
  unfolding first_named
  found-answers c [] q = absurd (let z : ◌≡◌ {A = ℕ} 0 1 = cc in omega arith)
  found-answers c (x ∷ es) {e} q = by (answers_to fold c x) refl (λ r. found-answers c es r) q
    where
      by : (t : Bool) → answers_to fold c x ≡ t → (first_named fold c es ≡ Some e → answers_to fold c e ≡ true) → pick t (Some x) (first_named fold c es) ≡ Some e → answers_to fold c e ≡ true
      by true k f q = let z : x ≡ e = cc in rw z at k
      by false k f q = f q

  -- ---- what differs under no fold is told apart by none

  both : (a b : Bool) → (a ≡ true → b ≡ true) → (b ≡ true → a ≡ true) → a ≡ b
  both true b f g = sym (f refl)
  both false true f g = g refl
  both false false f g = refl

  same-matched : (o : Outcome (List ℕ)) (c c' : List ℕ) → map fold c ≡ map fold c' → matched fold o c ≡ matched fold o c'
  same-matched (refused why) c c' h = refl
  same-matched (answered name) c c' h =
      both (same_name fold name c) (same_name fold name c')
      (λ e. (same-folded fold name c').1 ((same-folded fold name c).0 e ∙ h))
      (λ e. (same-folded fold name c).1 ((same-folded fold name c').0 e ∙ sym h))

  same-answers : (c c' : List ℕ) → map fold c ≡ map fold c' → (e : Entry) → answers_to fold c e ≡ answers_to fold c' e
  unfolding answers_to is_named
  same-answers c c' h e = ap (λ t. pick (is_skipped e.identifier) false (pick (ltb 255 (length e.recorded)) false t)) (same-matched (name_of e.recorded) c c' h)

  -- components that are equal once folded have the same entries, and the same first
  pub same-all : (c c' : Component) → (folded fold) c ≡ (folded fold) c' → (es : List Entry) → all_named fold c.bytes es ≡ all_named fold c'.bytes es
  unfolding all_named
  same-all c c' h [] = refl
  same-all c c' h (e ∷ es) = rw (same-answers c.bytes c'.bytes h e, same-all c c' h es)

  pub same_first : (c c' : Component) → (folded fold) c ≡ (folded fold) c' → (es : List Entry) → first_named fold c.bytes es ≡ first_named fold c'.bytes es
  unfolding first_named
  same_first c c' h [] = refl
  same_first c c' h (e ∷ es) = rw (same-answers c.bytes c'.bytes h e, same_first c c' h es)

-- ---- a listing has the records of its entries one behind the other

pub records-joined : (before after : List Entry) → records (before ++ after) ≡ records before ++ records after
unfolding records
records-joined [] after = refl
records-joined (e ∷ before) after = rw (records-joined before after, append_assoc)

pub all_listed : (check : Bool) (s : List ℕ) {es : List Entry} → entries check s ≡ answered es → listing check s ≡ answered (records es)
unfolding listing
all_listed check s h = rw h

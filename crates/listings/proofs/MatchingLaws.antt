-- What is proved of the choices of matching over a directory's entries: what each takes, how they agree, and that names which differ in a
-- byte are told apart by the second. Assumes nothing.
use Rattle.std.specs.Prelude.{Option, Some, None}
use mathlib.Core.Path.{◌≡◌, refl, sym, ap, ◌∙◌}
use mathlib.Core.Bool.{Bool, true, false}
use mathlib.Core.List.{List, [], ◌∷◌, ◌++◌}
use Prim.Native.Nat.{ℕ}
use native.Mathlib.Omega.{arith}
use lib.ListN.{length}
use lib.Dec.{ltb}
use Rattle.disc.specs.Choice.{pick}
use Rattle.disc.specs.Ask.{Outcome}
use Rattle.disc.specs.Ask.Outcome.{answered, refused}
use Rattle.disc.specs.declared.refusals.Refusal.{Refusal}
use Rattle.disc.specs.declared.refusals.Refusal.TheVariants.{Ambiguous}
use Rattle.disc.proofs.PickLaws.{not-both}
use Rattle.names.specs.Names.{name_of, lower, as_is, matched, is_named}
use Rattle.names.proofs.Promises.{same-folded, same-as-is, same-lower}
use Rattle.listings.specs.Entries.{Entry, is_skipped, name_in}
use Rattle.listings.specs.Listings.{answers_to, all_named, chosen, first_named}
use Rattle.listings.specs.declared.matchings.Matching.{Matching}
use Rattle.listings.specs.declared.matchings.Matching.TheVariants.{CaseIgnored, AsWritten, Unambiguous}
use Rattle.listings.proofs.Promises.{answers-folded}
use Rattle.listings.specs.Matchings.{NoneAnswers, takes_first, Several, Only, NoneAlike, Apart}

none-some : {A B : Type 0} {a : A} → ◌≡◌ {A = Option A} None (Some a) → B
none-some e = absurd (let z : ◌≡◌ {A = ℕ} 0 1 = cc in omega arith)

-- ---- what is done with the entries that match

-- the first of them
abbrev pub first_of : List Entry → Option Entry
first_of [] = None
first_of (e ∷ es) = Some e

pub all_first : (fold : ℕ → ℕ) (c : List ℕ) (es : List Entry) → first_of (all_named fold c es) ≡ first_named fold c es
unfolding all_named first_named
all_first fold c [] = refl
all_first fold c (e ∷ es) = by (answers_to fold c e) (all_first fold c es)
  where
    by : (t : Bool) → first_of (all_named fold c es) ≡ first_named fold c es → first_of (pick t (e ∷ all_named fold c es) (all_named fold c es)) ≡ pick t (Some e) (first_named fold c es)
    by true h = refl
    by false h = h

chosen-head : (m : Matching) → takes_first m ≡ true → (xs : List Entry) → chosen m xs ≡ answered (first_of xs)
unfolding chosen
chosen-head m h [] = refl
chosen-head m h (e ∷ []) = refl
chosen-head CaseIgnored h (e ∷ f ∷ es) = refl
chosen-head AsWritten h (e ∷ f ∷ es) = refl
chosen-head Unambiguous h (e ∷ f ∷ es) = not-both h

-- the first two choices take the first entry of the name
pub chosen-first : (m : Matching) → takes_first m ≡ true → (fold : ℕ → ℕ) (c : List ℕ) (es : List Entry) → chosen m (all_named fold c es) ≡ answered (first_named fold c es)
chosen-first m h fold c es = chosen-head m h (all_named fold c es) ∙ ap answered (all_first fold c es)

-- whatever a choice answers is the first
chosen-some : (m : Matching) (xs : List Entry) {o : Option Entry} → chosen m xs ≡ answered o → first_of xs ≡ o
unfolding chosen
chosen-some m [] h = cc
chosen-some m (e ∷ []) h = cc
chosen-some CaseIgnored (e ∷ f ∷ es) h = cc
chosen-some AsWritten (e ∷ f ∷ es) h = cc
chosen-some Unambiguous (e ∷ f ∷ es) h = absurd (let z : ◌≡◌ {A = ℕ} 0 1 = cc in omega arith)

pub chosen-is-first : (m : Matching) (fold : ℕ → ℕ) (c : List ℕ) (es : List Entry) {o : Option Entry} → chosen m (all_named fold c es) ≡ answered o → first_named fold c es ≡ o
chosen-is-first m fold c es h = sym (all_first fold c es) ∙ chosen-some m (all_named fold c es) h

-- a choice refuses by 9, the third alone, where two or more entries match
pub chosen-refused : (m : Matching) (xs : List Entry) {why : Refusal} → chosen m xs ≡ refused why → (m ≡ Unambiguous) × (why ≡ Ambiguous)
unfolding chosen
chosen-refused m [] h = absurd (let z : ◌≡◌ {A = ℕ} 0 1 = cc in omega arith)
chosen-refused m (e ∷ []) h = absurd (let z : ◌≡◌ {A = ℕ} 0 1 = cc in omega arith)
chosen-refused CaseIgnored (e ∷ f ∷ es) h = absurd (let z : ◌≡◌ {A = ℕ} 0 1 = cc in omega arith)
chosen-refused AsWritten (e ∷ f ∷ es) h = absurd (let z : ◌≡◌ {A = ℕ} 0 1 = cc in omega arith)
chosen-refused Unambiguous (e ∷ f ∷ es) h = (refl, cc)

pub refused-several : (m : Matching) (xs : List Entry) {why : Refusal} → chosen m xs ≡ refused why → Several xs
unfolding chosen
refused-several m [] h = absurd (let z : ◌≡◌ {A = ℕ} 0 1 = cc in omega arith)
refused-several m (e ∷ []) h = absurd (let z : ◌≡◌ {A = ℕ} 0 1 = cc in omega arith)
refused-several m (e ∷ f ∷ es) h = record { one = e; other = f; more = es; are = refl }

pub several-refused : (xs : List Entry) → Several xs → chosen Unambiguous xs ≡ refused Ambiguous
unfolding chosen
several-refused xs s = rw s.are refl

module _ (fold : ℕ → ℕ) (c : List ℕ) where
  all-joined : (es fs : List Entry) → all_named fold c (es ++ fs) ≡ all_named fold c es ++ all_named fold c fs
  unfolding all_named
  all-joined [] fs = refl
  all-joined (e ∷ es) fs = by (answers_to fold c e) (all-joined es fs)
    where
      by : (t : Bool) → all_named fold c (es ++ fs) ≡ all_named fold c es ++ all_named fold c fs
          → pick t (e ∷ all_named fold c (es ++ fs)) (all_named fold c (es ++ fs)) ≡ pick t (e ∷ all_named fold c es) (all_named fold c es) ++ all_named fold c fs
      by true h = ap (λ (l : List Entry). e ∷ l) h
      by false h = h

  -- two entries that answer, wherever they stand, are several
  pub two-several : (before : List Entry) (e : Entry) (between : List Entry) (f : Entry) (rest : List Entry) → answers_to fold c e ≡ true → answers_to fold c f ≡ true
      → Several (all_named fold c (before ++ e ∷ (between ++ f ∷ rest)))
  unfolding all_named
  two-several before e between f rest h k =
      rw (all-joined before (e ∷ (between ++ f ∷ rest)), h, all-joined between (f ∷ rest), k) (by (all_named fold c before) (all_named fold c between) (all_named fold c rest))
    where
      by : (xs ys zs : List Entry) → Several (xs ++ e ∷ (ys ++ f ∷ zs))
      by [] [] zs = record { one = e; other = f; more = zs; are = refl }
      by [] (y ∷ ys) zs = record { one = e; other = y; more = ys ++ f ∷ zs; are = refl }
      by (x ∷ []) ys zs = record { one = x; other = e; more = ys ++ f ∷ zs; are = refl }
      by (x ∷ x' ∷ xs) ys zs = record { one = x; other = x'; more = xs ++ e ∷ (ys ++ f ∷ zs); are = refl }

-- ---- the only entry

-- what the third choice answers is the only entry that matches
pub only-answers : (xs : List Entry) {e : Entry} → chosen Unambiguous xs ≡ answered (Some e) → xs ≡ e ∷ []
unfolding chosen
only-answers [] h = absurd (let z : ◌≡◌ {A = ℕ} 0 1 = cc in omega arith)
only-answers (x ∷ []) h = cc
only-answers (x ∷ y ∷ xs) h = absurd (let z : ◌≡◌ {A = ℕ} 0 1 = cc in omega arith)

module _ (fold : ℕ → ℕ) (c : List ℕ) where
  none_named : (es : List Entry) → NoneAnswers fold c es → all_named fold c es ≡ []
  unfolding all_named NoneAnswers
  none_named [] n = refl
  none_named (e ∷ es) n = rw n.0 (none_named es n.1)

  -- where one entry answers, and none before or behind it, it is the only one,
  pub only-named : (before : List Entry) (e : Entry) (rest : List Entry) → NoneAnswers fold c before → answers_to fold c e ≡ true → NoneAnswers fold c rest
      → all_named fold c (before ++ e ∷ rest) ≡ e ∷ []
  unfolding all_named NoneAnswers
  only-named [] e rest n h k = rw (h, none_named rest k)
  only-named (x ∷ before) e rest n h k = rw n.0 (only-named before e rest n.1 h k)

  -- and every choice takes it
  pub only-wins : (m : Matching) (before : List Entry) (e : Entry) (rest : List Entry) → NoneAnswers fold c before → answers_to fold c e ≡ true → NoneAnswers fold c rest
      → chosen m (all_named fold c (before ++ e ∷ rest)) ≡ answered (Some e)
  unfolding chosen
  only-wins m before e rest n h k = rw (only-named before e rest n h k) refl

module _ (fold : ℕ → ℕ) (c : List ℕ) where
  none_answers : (es : List Entry) → all_named fold c es ≡ [] → NoneAnswers fold c es
  unfolding all_named NoneAnswers
  none_answers [] h = tt
  none_answers (e ∷ es) h = by (none_answers es) (answers_to fold c e) refl h
    where
      by : (all_named fold c es ≡ [] → NoneAnswers fold c es) → (t : Bool) → answers_to fold c e ≡ t → pick t (e ∷ all_named fold c es) (all_named fold c es) ≡ [] → (answers_to fold c e ≡ false) × NoneAnswers fold c es
      by ih true k q = absurd (let z : ◌≡◌ {A = ℕ} 0 1 = cc in omega arith)
      by ih false k q = (k, ih q)

  one_only : (es : List Entry) {e : Entry} → all_named fold c es ≡ e ∷ [] → Only fold c es e
  unfolding all_named NoneAnswers
  one_only [] h = absurd (let z : ◌≡◌ {A = ℕ} 0 1 = cc in omega arith)
  one_only (x ∷ es) {e} h = by (λ q. one_only es q) (answers_to fold c x) refl h
    where
      by : (all_named fold c es ≡ e ∷ [] → Only fold c es e) → (t : Bool) → answers_to fold c x ≡ t → pick t (x ∷ all_named fold c es) (all_named fold c es) ≡ e ∷ [] → Only fold c (x ∷ es) e
      by ih true k q =
          let y : x ≡ e = cc in
          let z : all_named fold c es ≡ [] = cc in
          record { before = []; rest = es; parts = ap (λ (u : Entry). u ∷ es) y; none_before = tt; answers = rw y at k; none-behind = none_answers es z }
      by ih false k q =
          let o = ih q in
          record {
            before = x ∷ o.before;
            rest = o.rest;
            parts = ap (λ (u : List Entry). x ∷ u) o.parts;
            none_before = (k, o.none_before);
            answers = o.answers;
            none-behind = o.none-behind;
          }

-- so an answer of the third choice is the only entry of its directory that matches
pub chosen-only : (c : List ℕ) (es : List Entry) {e : Entry} → chosen Unambiguous (all_named lower c es) ≡ answered (Some e) → Only lower c es e
chosen-only c es h = one_only lower c es (only-answers (all_named lower c es) h)

-- and wherever it answers, the first choice answers the same
pub only-first : (xs : List Entry) {o : Option Entry} → chosen Unambiguous xs ≡ answered o → chosen CaseIgnored xs ≡ answered o
only-first xs h = chosen-head CaseIgnored refl xs ∙ ap answered (chosen-some Unambiguous xs h)

-- ---- as written

-- an entry that answers byte for byte has exactly the component's bytes as its name,
pub answers-written : (c : List ℕ) (e : Entry) → answers_to as_is c e ≡ true → name_in e ≡ c
answers-written c e h = (same-as-is (name_in e) c).0 ((same-folded as_is (name_in e) c).1 (answers-folded as_is c e h).1)

-- so different bytes never name one entry,
pub told-apart : (c c' : List ℕ) (e : Entry) → answers_to as_is c e ≡ true → answers_to as_is c' e ≡ true → c ≡ c'
told-apart c c' e h k = sym (answers-written c e h) ∙ answers-written c' e k

-- and it answers with ASCII case ignored too
pub answers-lower : (c : List ℕ) (e : Entry) → answers_to as_is c e ≡ true → answers_to lower c e ≡ true
unfolding answers_to is_named
answers-lower c e h = by (is_skipped e.identifier) (ltb 255 (length e.recorded)) (name_of e.recorded) h
  where
    by : (s t : Bool) (o : Outcome (List ℕ)) → pick s false (pick t false (matched as_is o c)) ≡ true → pick s false (pick t false (matched lower o c)) ≡ true
    by true t o h = not-both h
    by false true o h = not-both h
    by false false (refused why) h = not-both h
    by false false (answered name) h = same-lower name c h

-- the first entry of exactly a name is among those that match with case ignored
written-among : (c : List ℕ) (es : List Entry) {e : Entry} → first_named as_is c es ≡ Some e → all_named lower c es ≡ [] → ⊥
unfolding first_named all_named
written-among c [] h k = none-some h
written-among c (x ∷ es) {e} h k = by (λ p q. written-among c es p q) (answers_to as_is c x) (answers_to lower c x) refl refl h k
  where
    by : (first_named as_is c es ≡ Some e → all_named lower c es ≡ [] → ⊥) → (s t : Bool) → answers_to as_is c x ≡ s → answers_to lower c x ≡ t → pick s (Some x) (first_named as_is c es) ≡ Some e → pick t (x ∷ all_named lower c es) (all_named lower c es) ≡ [] → ⊥
    by ih s true p q h k = absurd (let z : ◌≡◌ {A = ℕ} 0 1 = cc in omega arith)
    by ih true false p q h k = not-both (sym q ∙ answers-lower c x p)
    by ih false false p q h k = ih h k

written-only : (c : List ℕ) (es : List Entry) {e f : Entry} → first_named as_is c es ≡ Some e → all_named lower c es ≡ f ∷ [] → e ≡ f
unfolding first_named all_named
written-only c [] h k = none-some h
written-only c (x ∷ es) {e} {f} h k = by (λ p q. written-only c es p q) (answers_to as_is c x) (answers_to lower c x) refl refl h k
  where
    by : (first_named as_is c es ≡ Some e → all_named lower c es ≡ f ∷ [] → e ≡ f) → (s t : Bool) → answers_to as_is c x ≡ s → answers_to lower c x ≡ t → pick s (Some x) (first_named as_is c es) ≡ Some e → pick t (x ∷ all_named lower c es) (all_named lower c es) ≡ f ∷ [] → e ≡ f
    by ih true true p q h k = cc
    by ih true false p q h k = not-both (sym q ∙ answers-lower c x p)
    by ih false true p q h k = absurd (written-among c es h (let z : all_named lower c es ≡ [] = cc in z))
    by ih false false p q h k = ih h k

-- a component that is answered by the second choice and by the third has one entry
pub written-agrees : (c : List ℕ) (es : List Entry) {e f : Entry} → chosen AsWritten (all_named as_is c es) ≡ answered (Some e) → chosen Unambiguous (all_named lower c es) ≡ answered (Some f) → e ≡ f
written-agrees c es h k = written-only c es (chosen-is-first AsWritten as_is c es h) (only-answers (all_named lower c es) k)

-- ---- where no two listed names are equal with case ignored

alone : (c : List ℕ) (e : Entry) → answers_to lower c e ≡ true → (es : List Entry) → NoneAlike e es → all_named lower c es ≡ []
unfolding all_named NoneAlike
alone c e h [] n = refl
alone c e h (f ∷ es) n = by (alone c e h es n.1) (answers_to lower c f) refl
  where
    by : all_named lower c es ≡ [] → (t : Bool) → answers_to lower c f ≡ t → pick t (f ∷ all_named lower c es) (all_named lower c es) ≡ []
    by ih true k =
        let p = answers-folded lower c e h in
        let q = answers-folded lower c f k in
        absurd (n.0 p.0 q.0 (p.1 ∙ sym q.1))
    by ih false k = ih

-- then the first choice and the third come to the same,
pub apart-agree : (c : List ℕ) (es : List Entry) → Apart es → chosen Unambiguous (all_named lower c es) ≡ chosen CaseIgnored (all_named lower c es)
unfolding all_named chosen Apart
apart-agree c [] a = refl
apart-agree c (e ∷ es) a = by (apart-agree c es a.1) (answers_to lower c e) refl
  where
    by : chosen Unambiguous (all_named lower c es) ≡ chosen CaseIgnored (all_named lower c es) → (t : Bool) → answers_to lower c e ≡ t → chosen Unambiguous (pick t (e ∷ all_named lower c es) (all_named lower c es)) ≡ chosen CaseIgnored (pick t (e ∷ all_named lower c es) (all_named lower c es))
    by ih true k = rw (alone c e k es a.0) refl
    by ih false k = ih

-- and so does the second, wherever it finds an entry
pub apart-written : (c : List ℕ) (es : List Entry) → Apart es → {e : Entry} → chosen AsWritten (all_named as_is c es) ≡ answered (Some e) → chosen CaseIgnored (all_named lower c es) ≡ answered (Some e)
apart-written c es a {e} h = by (chosen Unambiguous (all_named lower c es)) refl
  where
    by : (o : Outcome (Option Entry)) → chosen Unambiguous (all_named lower c es) ≡ o → chosen CaseIgnored (all_named lower c es) ≡ answered (Some e)
    by (answered (Some f)) k = let z : e ≡ f = written-agrees c es h k in only-first (all_named lower c es) k ∙ rw z refl
    by (answered None) k = absurd (written-among c es (chosen-is-first AsWritten as_is c es h) (by-none (all_named lower c es) k))
      where
        by-none : (xs : List Entry) → chosen Unambiguous xs ≡ answered None → xs ≡ []
        by-none xs q = none_left xs (chosen-some Unambiguous xs q)
          where
            none_left : (xs : List Entry) → first_of xs ≡ None → xs ≡ []
            none_left [] p = refl
            none_left (x ∷ xs) p = none-some (sym p)
    by (refused why) k = absurd (let z = sym (apart-agree c es a) ∙ k in let y = chosen-refused CaseIgnored (all_named lower c es) z in let x : ◌≡◌ {A = ℕ} 0 1 = cc in omega arith)

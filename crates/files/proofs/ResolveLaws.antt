-- Finding a file's entry, and resolving its chain, leave one result each: by number and sectors what the run of the tree comes to. Assumes nothing.
use Rattle.std.specs.Prelude.{Result, Ok, Err}
use mathlib.Core.Path.{◌≡◌, ap, sym, ◌∙◌}
use mathlib.Core.List.{List}
use Prim.Native.Nat.{ℕ, ◌*◌}
use native.Mathlib.Omega.{arith}
use Rattle.disc.specs.Ask.{Outcome}
use Rattle.disc.specs.Ran.{Ran, ran}
use Rattle.disc.specs.Images.{disc}
use Rattle.disc.specs.Replies.{answer_of}
use Rattle.disc.specs.declared.places.Mount.{Mount}
use Rattle.records.specs.declared.allocations.LongAd.{LongAd}
use Rattle.files.specs.Files.{Located, entry_at, file_at}
use Rattle.files.specs.Inner.Places.{place_at}
use Rattle.files.specs.Inner.Wholes.{Locates, Resolves}
use Rattle.files.specs.Inner.Answers.{place_answer, resolved_answer}
use Rattle.files.specs.declared.icbs.FilePlace.{FilePlace}
use Rattle.disc.specs.declared.refusals.CountedRefusal.{CountedRefusal}
use Rattle.files.specs.declared.resolves.Resolved.TheVariants.{Embedded, Chained}
use Rattle.files.specs.declared.resolves.Resolved.{Resolved}

module _ (image : List ℕ) (m : Mount) (icb : LongAd) where
  pub locate-answers : (r : Result FilePlace CountedRefusal) → Locates image m icb r
      → ((place_answer r).number ≡ answer_of (ran (disc image) (entry_at m icb)).outcome)
      × ((place_answer r).value.sectors ≡ (ran (disc image) (entry_at m icb)).count)
  locate-answers (Ok p) q = (rw q.runs, rw q.runs)
  locate-answers (Err e) q = (rw q, rw q)

  pub resolve-answers : (r : Result Resolved CountedRefusal) → Resolves image m icb r
      → ((resolved_answer r).number ≡ answer_of (ran (disc image) (file_at m icb)).outcome)
      × ((resolved_answer r).value.sectors ≡ (ran (disc image) (file_at m icb)).count)
  resolve-answers (Ok (Embedded p)) q = (rw q.runs, rw q.runs)
  resolve-answers (Ok (Chained p n)) q = (rw q.runs, rw q.runs)
  resolve-answers (Err e) q = (rw q.runs, rw q.runs)

-- two runs that are one run come to one outcome, after one count
outcomes : {A : Type 0} {o o' : Outcome A} {n n' : ℕ} → ◌≡◌ {A = Ran A} (record { outcome = o; count = n }) (record { outcome = o'; count = n' }) → o ≡ o'
outcomes {A} e = ap (λ (r : Ran A). r.outcome) e

counts : {A : Type 0} {o o' : Outcome A} {n n' : ℕ} → ◌≡◌ {A = Ran A} (record { outcome = o; count = n }) (record { outcome = o'; count = n' }) → n ≡ n'
counts {A} e = ap (λ (r : Ran A). r.count) e

module _ (image : List ℕ) (m : Mount) (icb : LongAd) where
  pub resolve-one : (r r' : Result Resolved CountedRefusal) → Resolves image m icb r → Resolves image m icb r' → r ≡ r'
  resolve-one (Ok (Embedded p)) (Ok (Embedded p')) q q' =
      let e = outcomes (sym q.runs ∙ q'.runs) in
      let same : q.entry ≡ q'.entry = cc in
      ap (λ p. Ok (Embedded p)) (q.is ∙ ap (λ (x : Located). place_at (2048 * x.at) x.entry) same ∙ sym q'.is)
  resolve-one (Ok (Embedded p)) (Ok (Chained p' n')) q q' = let e = outcomes (sym q.runs ∙ q'.runs) in absurd (let z : ◌≡◌ {A = ℕ} 0 1 = cc in omega arith)
  resolve-one (Ok (Embedded p)) (Err e') q q' = let e = outcomes (sym q.runs ∙ q'.runs) in absurd (let z : ◌≡◌ {A = ℕ} 0 1 = cc in omega arith)
  resolve-one (Ok (Chained p n)) (Ok (Embedded p')) q q' = let e = outcomes (sym q.runs ∙ q'.runs) in absurd (let z : ◌≡◌ {A = ℕ} 0 1 = cc in omega arith)
  resolve-one (Ok (Chained p n)) (Ok (Chained p' n')) q q' =
      let e = outcomes (sym q.runs ∙ q'.runs) in
      let same : q.entry ≡ q'.entry = cc in
      let place : p ≡ p' = q.is ∙ ap (λ (x : Located). place_at (2048 * x.at) x.entry) same ∙ sym q'.is in
      let k : n ≡ n' = counts (sym q.runs ∙ q'.runs) in
      rw (place, k)
  resolve-one (Ok (Chained p n)) (Err e') q q' = let e = outcomes (sym q.runs ∙ q'.runs) in absurd (let z : ◌≡◌ {A = ℕ} 0 1 = cc in omega arith)
  resolve-one (Err e') (Ok (Embedded p')) q q' = let e = outcomes (sym q.runs ∙ q'.runs) in absurd (let z : ◌≡◌ {A = ℕ} 0 1 = cc in omega arith)
  resolve-one (Err e') (Ok (Chained p' n')) q q' = let e = outcomes (sym q.runs ∙ q'.runs) in absurd (let z : ◌≡◌ {A = ℕ} 0 1 = cc in omega arith)
  resolve-one (Err e') (Err e'') q q' =
      let e = outcomes (sym q.runs ∙ q'.runs) in
      let w : e'.why ≡ e''.why = cc in
      let k : e'.count ≡ e''.count = counts (sym q.runs ∙ q'.runs) in
      rw (w, k)

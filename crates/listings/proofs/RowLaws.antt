-- A directory's entries are all that stand one behind the other, and it is refused exactly where one on the way is. Assumes nothing.
use mathlib.Core.Path.{◌≡◌, refl, sym, ap, ◌∙◌}
use mathlib.Core.Bool.{Bool, true, false}
use mathlib.Core.List.{List, [], ◌∷◌}
use Prim.Native.Nat.{ℕ, zero, suc, ◌-◌, ◌<◌, ◌≤◌}
use native.Mathlib.Omega.{arith}
use lib.ListN.{length, drop}
use lib.Dec.{ltb}
use borrow.Author.Tests.{lt-ltb, le-ltb, ltb-true, ltb-false}
use Rattle.disc.specs.Choice.{pick}
use Rattle.disc.specs.Ask.{Outcome, and_then}
use Rattle.disc.specs.Ask.Outcome.{answered, refused}
use Rattle.disc.specs.declared.refusals.Refusal.{Refusal}
use Rattle.identifiers.specs.Identifiers.{name_at, name_end, next_at}
use Rattle.listings.specs.Entries.{Entry, entry_read, in_front, entries_from, entries}
use Rattle.listings.specs.Rows.{RowTo, Ends, Fails, Told}

-- ---- the next identifier

next-some : (s : List ℕ) → next_at s ≡ suc (next_at s - 1)
unfolding next_at name_end name_at
next-some s = omega arith

drop-next : (b : ℕ) (s : List ℕ) → drop (next_at (b ∷ s)) (b ∷ s) ≡ drop (next_at (b ∷ s) - 1) s
drop-next b s = ap (λ n. drop n (b ∷ s)) (next-some (b ∷ s))

module _ (check : Bool) where
  skips : (k : ℕ) (s : List ℕ) → entries_from check k s ≡ entries check (drop k s)
  unfolding entries entries_from
  skips zero s = refl
  skips (suc k) [] = refl
  skips (suc k) (b ∷ s) = skips k s

  -- ---- what stands in the bytes, from what is read of them

  ahead : (s : List ℕ) {e : Entry} → 38 ≤ length s → entry_read check s ≡ answered e → (o : Outcome (List Entry)) → Told check (drop (next_at s) s) o → Told check s (in_front e o)
  unfolding RowTo
  ahead s {e} h g (answered es) k = record { rest = k.rest; row = record { long = h; read = g; on = k.row }; short = k.short }
  ahead s {e} h g (refused why) k = record { before = e ∷ k.before; rest = k.rest; row = record { long = h; read = g; on = k.row }; long = k.long; bad = k.bad }

  told-from : (k : ℕ) (s : List ℕ) → Told check (drop k s) (entries_from check k s)
  unfolding entries_from RowTo
  told-from zero [] = record { rest = []; row = refl; short = omega arith }
  told-from (suc k) [] = record { rest = []; row = refl; short = omega arith }
  told-from (suc k) (b ∷ s) = told-from k s
  told-from zero (b ∷ s) = by (ltb (length (b ∷ s)) 38) refl (entry_read check (b ∷ s)) refl (told-from (next_at (b ∷ s) - 1) s)
    where
      by : (t : Bool) → ltb (length (b ∷ s)) 38 ≡ t → (o : Outcome Entry) → entry_read check (b ∷ s) ≡ o → Told check (drop (next_at (b ∷ s) - 1) s) (entries_from check (next_at (b ∷ s) - 1) s)
          → Told check (b ∷ s) (pick t (answered []) (and_then o (λ e. in_front e (entries_from check (next_at (b ∷ s) - 1) s))))
      by true l o g ih = record { rest = b ∷ s; row = refl; short = ltb-true (length (b ∷ s)) 38 l }
      by false l (refused why) g ih = record { before = []; rest = b ∷ s; row = refl; long = ltb-false (length (b ∷ s)) 38 l; bad = g }
      by false l (answered e) g ih = ahead (b ∷ s) (ltb-false (length (b ∷ s)) 38 l) g (entries_from check (next_at (b ∷ s) - 1) s) (rw (drop-next b s) ih)

  pub entries-told : (s : List ℕ) → Told check s (entries check s)
  unfolding entries
  entries-told s = told-from 0 s

  -- ---- and the other way

  front-next : (s : List ℕ) → 38 ≤ length s → {e : Entry} → entry_read check s ≡ answered e → entries check s ≡ in_front e (entries check (drop (next_at s) s))
  unfolding entries entries_from
  front-next [] h g = absurd (omega arith)
  front-next (b ∷ s) h {e} g = simp (le-ltb _ _ h, g) (ap (in_front e) (skips (next_at (b ∷ s) - 1) s ∙ ap (entries check) (sym (drop-next b s))))

  front-bad : (s : List ℕ) → 38 ≤ length s → {why : Refusal} → entry_read check s ≡ refused why → entries check s ≡ refused why
  unfolding entries entries_from
  front-bad [] h g = absurd (omega arith)
  front-bad (b ∷ s) h g = simp (le-ltb _ _ h, g)

  front-end : (s : List ℕ) → length s < 38 → entries check s ≡ answered []
  unfolding entries entries_from
  front-end [] h = refl
  front-end (b ∷ s) h = simp (lt-ltb _ _ h)

  row_ends : (es : List Entry) (s rest : List ℕ) → RowTo check s es rest → length rest < 38 → entries check s ≡ answered es
  unfolding RowTo
  row_ends [] s rest r h = ap (entries check) r ∙ front-end rest h
  row_ends (e ∷ es) s rest r h = front-next s r.long r.read ∙ ap (in_front e) (row_ends es (drop (next_at s) s) rest r.on h)

  row-fails : (es : List Entry) (s rest : List ℕ) {why : Refusal} → RowTo check s es rest → 38 ≤ length rest → entry_read check rest ≡ refused why → entries check s ≡ refused why
  unfolding RowTo
  row-fails [] s rest r h g = ap (entries check) r ∙ front-bad rest h g
  row-fails (e ∷ es) s rest r h g = front-next s r.long r.read ∙ ap (in_front e) (row-fails es (drop (next_at s) s) rest r.on h g)

  -- ---- exactly then

  -- the entries of a directory are a row behind which fewer than 38 bytes remain
  pub entries-end : (s : List ℕ) (es : List Entry) → (entries check s ≡ answered es → Ends check s es) × (Ends check s es → entries check s ≡ answered es)
  entries-end s es = (λ e. rw e at (entries-told s), λ r. row_ends es s r.rest r.row r.short)

  -- and it is refused where an identifier on the way is, by that one's number
  pub entries-fail : (s : List ℕ) (why : Refusal) → (entries check s ≡ refused why → Fails check s why) × (Fails check s why → entries check s ≡ refused why)
  entries-fail s why = (λ e. rw e at (entries-told s), λ r. row-fails r.before s r.rest r.row r.long r.bad)

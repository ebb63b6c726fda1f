-- Laws of the scan of a volume descriptor sequence, as the code's loop asks for them. Assumes nothing.
use Rattle.std.specs.Prelude.{true, false, Result, Ok, Err}
use mathlib.Core.Path.{◌≡◌, refl, ap, sym, ◌∙◌}
use mathlib.Core.Bool.{Bool}
use mathlib.Core.List.{List, ◌∷◌}
use Prim.Native.Nat.{ℕ, suc, ◌+◌, ◌-◌, ◌*◌, ◌/◌, ◌<◌, ◌≤◌}
use native.Mathlib.Nat.{add-zero}
use native.Mathlib.Omega.{arith}
use lib.ListN.{length, take, drop}
use Rattle.disc.specs.Ask.{Disc, Ask, Outcome, bytes_in, then}
use Rattle.disc.specs.Ask.Ask.{done}
use Rattle.disc.specs.Ask.Outcome.{answered, refused}
use Rattle.disc.specs.Ran.{Ran, ran, after, onward}
use Rattle.disc.specs.Images.{disc, held_from}
use Rattle.disc.proofs.RanLaws.{ran-done, ran-refuse, ran-there, ran-missing, ran_then}
use Rattle.disc.proofs.ImageLaws.{held, missing}
use Rattle.disc.specs.declared.refusals.Refusal.{Refusal}
use Rattle.disc.specs.declared.refusals.Refusal.TheVariants.{Io}
use Rattle.volumes.specs.Sequences.{nothing, Parsed, Order, order_of, wanted_of, prevailing, kept_of, Says, says_in, go_on, scan, turned_on, turn_of, scanned_by, scanned_of}
use Rattle.volumes.specs.Sequences.Says.{found, passed, over, fails}
use Rattle.volumes.specs.declared.sequences.Kept.{Kept}
use Rattle.volumes.specs.declared.sequences.Wanted.{Wanted}
use Rattle.volumes.specs.declared.sequences.SectorTurn.TheVariants.{GoesOn, Over, Fails}
use Rattle.volumes.specs.declared.openings.How.{How}

-- ---- one sector

-- what was found is kept, and what is found behind it is kept after it
found-keeps : (o : Order) (w : ℕ → Bool) (d : Disc) (k : Kept) (p : Parsed) (n : ℕ) (rest : Ask (List Parsed))
    → scanned_of o w k (after n (ran d (then rest (λ ps. done (p ∷ ps))))) ≡ scanned_of o w (prevailing o w k p) (after n (ran d rest))
unfolding kept_of
found-keeps o w d k p n rest = rw ran_then (by (ran d rest).outcome (ran d rest).count)
  where
    by : (x : Outcome (List Parsed)) (c : ℕ) → scanned_of o w k (after n (onward x c (λ ps. ran d (done (p ∷ ps))))) ≡ scanned_of o w (prevailing o w k p) (after n (record { outcome = x; count = c }))
    by (answered ps) c = rw ran-done (ap (λ j. record { count = n + j; kept = Ok (kept_of o w (prevailing o w k p) ps) }) (add-zero c))
    by (refused r) c = refl

module _ (o : Order) (w : ℕ → Bool) (d : Disc) (k : Kept) where
  going_on : {l : Kept} (x : Says) (rest : Ask (List Parsed)) (n : ℕ) → GoesOn l ≡ turn_of o w k x → scanned_of o w k (after n (ran d (go_on x rest))) ≡ scanned_of o w l (after n (ran d rest))
  going_on {l} (found p) rest n e = let z : l ≡ prevailing o w k p = cc in rw z (found-keeps o w d k p n rest)
  going_on {l} passed rest n e = let z : l ≡ k = cc in rw z
  going_on over rest n e = absurd (cc)
  going_on (fails r) rest n e = absurd (cc)

  over_at : {l : Kept} (x : Says) (rest : Ask (List Parsed)) (n : ℕ) → Over l ≡ turn_of o w k x → scanned_of o w k (after n (ran d (go_on x rest))) ≡ record { count = n; kept = Ok l }
  unfolding kept_of
  over_at (found p) rest n e = absurd (cc)
  over_at passed rest n e = absurd (cc)
  over_at {l} over rest n e = let z : l ≡ k = cc in rw (ran-done, add-zero, z)
  over_at (fails r) rest n e = absurd (cc)

  fails_at : {why : Refusal} (x : Says) (rest : Ask (List Parsed)) (n : ℕ) → Fails why ≡ turn_of o w k x → scanned_of o w k (after n (ran d (go_on x rest))) ≡ record { count = n; kept = Err why }
  fails_at (found p) rest n e = absurd (cc)
  fails_at passed rest n e = absurd (cc)
  fails_at over rest n e = absurd (cc)
  fails_at {why} (fails r) rest n e = let z : why ≡ r = cc in rw (ran-refuse, add-zero, z)

-- sectors that were asked for before
scanned-twice : (o : Order) (w : ℕ → Bool) (k : Kept) (i : ℕ) (r : Ran (List Parsed)) → scanned_of o w k (after i (after 1 r)) ≡ scanned_of o w k (after (i + 1) r)
scanned-twice o w k i r = ap (scanned_by o w k r.outcome) (omega arith)

-- ---- the loop has come to i of n sectors

pub record Scanning (image : List ℕ) (how : How) (wanted : Wanted) (first n : ℕ) (kept : Kept) (i : ℕ) : Type 0 where
  pub within : i ≤ n
  pub rest : scanned_of (order_of how) (wanted_of wanted) nothing (ran (disc image) (scan how.checked n first)) ≡ scanned_of (order_of how) (wanted_of wanted) kept (after i (ran (disc image) (scan how.checked (n - i) (first + i))))

module _ {image : List ℕ} {how : How} {wanted : Wanted} {first n i : ℕ} {kept : Kept} (p : Scanning image how wanted first n kept i) (h : i < n) where
  one_more : n - i ≡ suc (n - (i + 1))
  one_more = omega arith

  -- the sector is there
  module _ {m : ℕ} (s : m ≡ held_from image (first + i)) (z : m ≡ 0 → ⊥) where
    there : 2048 * (first + i) + 2048 ≤ length image
    there = here (length image) (first + i) s
      where
        here : (l a : ℕ) → m ≡ l / 2048 - a → 2048 * a + 2048 ≤ l
        here l a e = omega (arith, z)

    abbrev sector : List ℕ
    sector = take 2048 (drop (2048 * (first + i)) image)

    sector-is : bytes_in (disc image (first + i)) ≡ sector
    sector-is = rw (held image (first + i) there)

    abbrev behind : Ask (List Parsed)
    behind = scan how.checked (n - (i + 1)) (first + i + 1)

    turn-rest : scanned_of (order_of how) (wanted_of wanted) nothing (ran (disc image) (scan how.checked n first)) ≡ scanned_of (order_of how) (wanted_of wanted) kept (after (i + 1) (ran (disc image) (go_on (says_in how.checked sector) behind)))
    unfolding scan
    turn-rest =
        p.rest
        ∙ rw (one_more, ran-there (disc image) (first + i) _ sector (held image (first + i) there)) (scanned-twice (order_of how) (wanted_of wanted) kept i (ran (disc image) (go_on (says_in how.checked sector) behind)))

    module _ {b : List ℕ} {r : Result Bool Refusal} (l : Kept) (g : b ≡ bytes_in (disc image (first + i))) (e : turned_on r l ≡ turn_of (order_of how) (wanted_of wanted) kept (says_in how.checked b)) where
      told : {q : Result Bool Refusal} → r ≡ q → turned_on q l ≡ turn_of (order_of how) (wanted_of wanted) kept (says_in how.checked sector)
      told y = ap (λ x. turned_on x l) (sym y) ∙ e ∙ ap (λ x. turn_of (order_of how) (wanted_of wanted) kept (says_in how.checked x)) (g ∙ sector-is)

      pub scan-next : r ≡ Ok true → Scanning image how wanted first n l (i + 1)
      scan-next y =
          let a : first + i + 1 ≡ first + (i + 1) = omega arith in
          record {
            within = omega arith;
            rest = rw (← a) (turn-rest ∙ going_on (order_of how) (wanted_of wanted) (disc image) kept (says_in how.checked sector) behind (i + 1) (told y));
          }

      pub scan-over : r ≡ Ok false → record { count = i + 1; kept = Ok l } ≡ scanned_of (order_of how) (wanted_of wanted) nothing (ran (disc image) (scan how.checked n first))
      scan-over y = sym (turn-rest ∙ over_at (order_of how) (wanted_of wanted) (disc image) kept (says_in how.checked sector) behind (i + 1) (told y))

      pub scan-fails : {why : Refusal} → r ≡ Err why → record { count = i + 1; kept = Err why } ≡ scanned_of (order_of how) (wanted_of wanted) nothing (ran (disc image) (scan how.checked n first))
      scan-fails y = sym (turn-rest ∙ fails_at (order_of how) (wanted_of wanted) (disc image) kept (says_in how.checked sector) behind (i + 1) (told y))

  -- it isn't
  pub scan-gone : {m : ℕ} → m ≡ held_from image (first + i) → m ≡ 0 → record { count = i + 1; kept = Err Io } ≡ scanned_of (order_of how) (wanted_of wanted) nothing (ran (disc image) (scan how.checked n first))
  unfolding scan
  scan-gone {m} s z = rw (p.rest, one_more, ran-missing (disc image) (first + i) _ (missing image (first + i) (gone (length image) (first + i) s)))
    where
      gone : (l a : ℕ) → m ≡ l / 2048 - a → l < 2048 * a + 2048
      gone l a e = omega arith

pub scan-ends : {image : List ℕ} {how : How} {wanted : Wanted} {first n i : ℕ} {kept : Kept} → Scanning image how wanted first n kept i → n ≤ i
    → record { count = n; kept = Ok kept } ≡ scanned_of (order_of how) (wanted_of wanted) nothing (ran (disc image) (scan how.checked n first))
unfolding scan kept_of
scan-ends {image} {how} {wanted} {first} {n} {i} {kept} p h =
    let z : n - i ≡ 0 = omega arith in
    let e : i + 0 ≡ n = let w = p.within in omega arith in
    rw (p.rest, z, ran-done, e)

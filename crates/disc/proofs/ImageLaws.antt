-- Laws of the disc that an image is: which sectors are there, that it grows with the image, and what a run of sectors comes to.
-- Assumes nothing.
use mathlib.Core.Path.{◌≡◌, refl, ap, sym, ◌∙◌}
use mathlib.Core.Bool.{Bool, true, false}
use mathlib.Core.List.{List, [], ◌++◌}
use mathlib.Core.Logic.{◌⊎◌, inl, inr, ⊎_elim}
use Prim.Native.Nat.{ℕ, zero, suc, ◌+◌, ◌-◌, ◌*◌, ◌/◌, ◌≤◌, ◌<◌}
use native.Mathlib.Nat.{add-sub_cancel_left}
use native.Mathlib.Omega.{arith}
use lib.ListN.{length, take, drop, length-append, length-drop}
use lib.Seq.{take-add, drop-drop, take-append-le, drop-append-le}
use lib.Dec.{leb}
use borrow.Author.Tests.{leb-true, leb-false, le-leb, lt-leb}
use Rattle.disc.specs.declared.refusals.Refusal.TheVariants.{Io}
use Rattle.disc.specs.Choice.{pick}
use Rattle.disc.specs.Ask.{Held, Disc, bytes_in, outcome, Grown}
use Rattle.disc.specs.Ask.Held.{holds, lacks}
use Rattle.disc.specs.Ask.Ask.{done}
use Rattle.disc.specs.Ask.Outcome.{answered, refused}
use Rattle.disc.specs.Ran.{Ran, ran, after, followed}
use Rattle.disc.specs.Images.{disc, sectors, held_from, bytes_of}
use Rattle.disc.proofs.RanLaws.{ran-done, ran-there, ran-missing, ran_then}
use Rattle.disc.specs.Lists.{sectors_run}

-- either order holds
pub split : (a b : ℕ) → (a ≤ b) ⊎ (b < a)
split a b = told (leb a b) refl
  where
    told : (t : Bool) → leb a b ≡ t → (a ≤ b) ⊎ (b < a)
    told true e = inl (leb-true a b e)
    told false e = inr (leb-false a b e)

-- ---- one sector

pub held : (image : List ℕ) (s : ℕ) → 2048 * s + 2048 ≤ length image → disc image s ≡ holds (take 2048 (drop (2048 * s) image))
unfolding disc
held image s h = rw (le-leb _ _ h)

pub missing : (image : List ℕ) (s : ℕ) → length image < 2048 * s + 2048 → disc image s ≡ lacks
unfolding disc
missing image s h = rw (lt-leb _ _ h)

-- a sector's bytes as the code has them
pub sector-missing : (image : List ℕ) (s : ℕ) → length image / 2048 ≤ s → [] ≡ bytes_in (disc image s)
sector-missing image s h = rw (missing image s (omega arith))

pub sector-there : (image : List ℕ) (s : ℕ) → s < length image / 2048
    → take (s * 2048 + 2048 - s * 2048) (drop (s * 2048) image) ≡ bytes_in (disc image s)
sector-there image s h =
    let e : s * 2048 ≡ 2048 * s = omega arith in
    rw (held image s (omega arith), add-sub_cancel_left, e)

-- bytes added at the end of an image take no sector away and change none
pub image-grown : (image more : List ℕ) → Grown (disc image) (disc (image ++ more))
unfolding Grown
image-grown image more s b h = ⊎_elim
    (λ (k : 2048 * s + 2048 ≤ length image). held (image ++ more) s (rw length-append (omega arith)) ∙ rw (same k) (sym (held image s k) ∙ h))
    (λ (k : length image < 2048 * s + 2048). never (sym (missing image s k) ∙ h))
    (split (2048 * s + 2048) (length image))
  where
    never : {x : Held} → lacks ≡ holds b → x ≡ holds b
    never e = let z : ◌≡◌ {A = ℕ} 0 1 = cc in absurd (omega arith)

    same : 2048 * s + 2048 ≤ length image → take 2048 (drop (2048 * s) (image ++ more)) ≡ take 2048 (drop (2048 * s) image)
    same k =
        rw (drop-append-le (2048 * s) image more (omega arith))
        (take-append-le 2048 (drop (2048 * s) image) more (rw length-drop (omega arith)))

-- ---- a run of sectors: all are there exactly when the last one is, and else the first missing one is known by a division

-- one more equation between answers, by their parts
pub same_answer : {a b : List ℕ} {m n : ℕ} → a ≡ b → m ≡ n
    → ◌≡◌ {A = Ran (List ℕ)} (record { outcome = answered a; count = m }) (record { outcome = answered b; count = n })
same_answer p q = rw (p, q)

-- a sector's bytes with what was read behind it
pub one-behind : (d : Disc) (b r w : List ℕ) → b ++ r ≡ w → (p q : ℕ) → q ≡ 1 + p → (k h : ℕ) → h ≡ 1 + k
    → after 1 (followed (pick (leb p k) (record { outcome = answered r; count = p }) (record { outcome = refused Io; count = k + 1 })) (λ rest. ran d (done (b ++ rest))))
    ≡ pick (leb q h) (record { outcome = answered w; count = q }) (record { outcome = refused Io; count = h + 1 })
one-behind d b r w e p q f k h g = ⊎_elim
    (λ (t : p ≤ k). rw (le-leb p k t, le-leb q h (omega arith), ran-done) (same_answer e (omega arith)))
    (λ (t : k < p). rw (lt-leb p k t, lt-leb q h (omega arith)) (ap (λ n. record { outcome = refused Io; count = n }) (omega arith)))
    (split p k)

pub sectors-run : (image : List ℕ) (n at : ℕ) → ran (disc image) (sectors n at) ≡ sectors_run image n at
unfolding sectors
sectors-run image zero at = rw (le-leb 0 (held_from image at) (omega arith)) (ran-done (disc image) [])
sectors-run image (suc n) at = ⊎_elim
    (λ (h : held_from image at ≤ 0). let z : held_from image at ≡ 0 = omega arith in
    rw (lt-leb (suc n) (held_from image at) (omega arith), z) (ran-missing (disc image) at _ (missing image at (omega arith))))
    (λ (h : 0 < held_from image at). ran-there (disc image) at _ _ (held image at (omega arith))
    ∙ rw (ran_then, sectors-run image n (at + 1)) (one-behind (disc image) (take 2048 (drop (2048 * at) image)) (take (2048 * n) (drop (2048 * (at + 1)) image)) _ (parts image n at) n (suc n) (omega arith) (held_from image (at + 1)) (held_from image at) (omega arith)))
    (split (held_from image at) 0)
  where
    parts : (image : List ℕ) (n at : ℕ) → take 2048 (drop (2048 * at) image) ++ take (2048 * n) (drop (2048 * (at + 1)) image) ≡ take (2048 * suc n) (drop (2048 * at) image)
    parts image n at =
        let e : 2048 * suc n ≡ 2048 + 2048 * n = omega arith in
        let f : 2048 * (at + 1) ≡ 2048 * at + 2048 = omega arith in
        rw (e, f, take-add, drop-drop)

-- the answers of the code, k being how many sectors the image has from `at` on
module _ (image : List ℕ) (n at k : ℕ) (e : k ≡ held_from image at) where
  run-bytes : (p : Ran (List ℕ)) → ran (disc image) (sectors n at) ≡ p → bytes_of (outcome (disc image) (sectors n at)) ≡ bytes_of p.outcome
  unfolding ran
  run-bytes p q = ap (λ (r : Ran (List ℕ)). bytes_of r.outcome) q

  pub part-short : k < n → [] ≡ bytes_of (outcome (disc image) (sectors n at))
  part-short h = sym (run-bytes _ (sectors-run image n at) ∙ rw (← e, lt-leb n k h))

  pub part-whole : n ≤ k → take (at * 2048 + n * 2048 - at * 2048) (drop (at * 2048) image) ≡ bytes_of (outcome (disc image) (sectors n at))
  part-whole h =
      let f : at * 2048 ≡ 2048 * at = omega arith in
      let g : n * 2048 ≡ 2048 * n = omega arith in
      rw (add-sub_cancel_left, f, g) (sym (run-bytes _ (sectors-run image n at) ∙ rw (← e, le-leb n k h)))

  pub part_none : n ≡ 0 → [] ≡ bytes_of (outcome (disc image) (sectors n at))
  unfolding sectors outcome
  part_none z = rw z

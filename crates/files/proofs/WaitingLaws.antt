-- RULES 2.11 to 2.13, of a read of extents that waits for its image: which sector it waits for, and by which refusals it can end. Assumes nothing.
use Rattle.std.specs.Prelude.{Option, Some, None}
use mathlib.Core.Path.{◌≡◌, refl, ap, sym, ◌∙◌}
use mathlib.Core.Bool.{Bool, true, false}
use mathlib.Core.List.{List, [], ◌∷◌, ◌++◌}
use mathlib.Core.Logic.{⊎_elim}
use Prim.Native.Nat.{ℕ, zero, suc, ◌+◌, ◌-◌, ◌*◌, ◌/◌, ◌≤◌, ◌<◌, min}
use native.Mathlib.Nat.{zero-add, add-zero}
use native.Mathlib.Omega.{arith}
use lib.ListN.{length}
use lib.Dec.{eqb}
use borrow.Author.Tests.{eqb-true, eqb-false, le-leb, lt-leb, le-ltb}
use Rattle.disc.specs.Ask.{Outcome}
use Rattle.disc.specs.Ask.Outcome.{answered, refused}
use Rattle.disc.specs.Images.{disc, held_from, sectors_for}
use Rattle.disc.specs.Places.{placed}
use Rattle.disc.specs.declared.places.Mount.{Mount}
use Rattle.disc.specs.declared.refusals.Refusal.TheVariants.{Io, Unsupported}
use Rattle.disc.proofs.ImageLaws.{split}
use Rattle.disc.proofs.RanLaws.{ran-done}
use Rattle.disc.proofs.GrownLaws.{waits-first, waits-behind}
use Rattle.areas.specs.declared.AllocExtent.{AllocExtent}
use Rattle.files.specs.Reads.{extents_bytes}
use Rattle.files.specs.ExtentSectors.{run, extent_sectors}
use Rattle.files.specs.Inner.Pieces.{sectors_read, before_outcome, joined, rest_of}
use Rattle.files.proofs.PieceLaws.{weigh-type, weigh-nowhere, weigh-missing, weigh-held}
use Rattle.disc.specs.Refusing.{is_io}
use Rattle.disc.specs.Lists.{any_missing, Waits}

-- ---- a run of sectors

run_long : (n at : ℕ) → length (run n at) ≡ n
unfolding run
run_long zero at = refl
run_long (suc n) at = ap suc (run_long n (at + 1))

-- a run that is inside the image lacks no sector
run-there : (image : List ℕ) (n at : ℕ) → n ≤ held_from image at → any_missing image (run n at) ≡ false
unfolding run any_missing
run-there image zero at h = refl
run-there image (suc n) at h = rw (le-ltb (length image) (2048 * (at + 1)) (omega arith)) (run-there image n (at + 1) (omega arith))

-- a run in two parts
run_join : (h k at : ℕ) (list : List ℕ) → run (h + k) at ++ list ≡ run h at ++ (run k (at + h) ++ list)
unfolding run
run_join zero k at list = rw (zero-add, add-zero)
run_join (suc h) k at list = rw (more h k, onward at h) (ap (λ l. at ∷ l) (run_join h k (at + 1) list))
  where
    more : (h k : ℕ) → suc h + k ≡ suc (h + k)
    more h k = omega arith

    onward : (at h : ℕ) → at + suc h ≡ at + 1 + h
    onward at h = omega arith

-- of a longer one the first that is missing is known by a division: all before it are there, and the rest of the run begins with it
run-first : (image : List ℕ) (n at : ℕ) (list : List ℕ) → length image < 2048 * (at + 1) → Waits image (run (suc n) at ++ list) 1
unfolding run
run-first image n at list h = waits-first image at (run n (at + 1) ++ list) h

run-from : (image : List ℕ) (h n at : ℕ) (list : List ℕ) → h ≤ held_from image at → length image < 2048 * (at + h + 1) → Waits image (run (h + suc n) at ++ list) (h + 1)
run-from image h n at list k gone =
    rw (run_join h (suc n) at list) (rw (run_long h at) at (waits-behind image (run h at) (run (suc n) (at + h) ++ list) 1 (run-there image h at k) (run-first image n (at + h) list gone)))

run-waits : (image : List ℕ) (n at : ℕ) (list : List ℕ) → held_from image at < n → Waits image (run n at ++ list) (held_from image at + 1)
run-waits image n at list h =
    let z : n ≡ held_from image at + suc (n - held_from image at - 1) = cut (held_from image at) n h in
    rw z (run-from image (held_from image at) (n - held_from image at - 1) at list (self (held_from image at)) (past (length image) at))
  where
    cut : (h n : ℕ) → h < n → n ≡ h + suc (n - h - 1)
    cut h n k = omega arith

    self : (h : ℕ) → h ≤ h
    self h = omega arith

    past : (size at : ℕ) → size < 2048 * (at + (size / 2048 - at) + 1)
    past size at = omega arith

-- ---- an extent is refused by 4, missing or held

-- what a read of extents can come to
pub data Ended : Outcome (List ℕ) → Type 0 where
  bytes : (b : List ℕ) → Ended (answered b)
  missing : Ended (refused Io)
  unsupported : Ended (refused Unsupported)

module _ (image : List ℕ) (m : Mount) where
  data Weight (e : AllocExtent) (want : ℕ) : Type 0 where
    off : ((es : List AllocExtent) → rest_of image m (e ∷ es) want ≡ record { outcome = refused Unsupported; count = 0 }) → Weight e want
    gone : (at : ℕ) → placed m e.partition_ref e.block.0 ≡ Some at → held_from image at < sectors_read e.length want
        → ((es : List AllocExtent) → rest_of image m (e ∷ es) want ≡ record { outcome = refused Io; count = held_from image at + 1 }) → Weight e want
    there : (at : ℕ) → placed m e.partition_ref e.block.0 ≡ Some at → sectors_read e.length want ≤ held_from image at → (b : List ℕ)
        → ((es : List AllocExtent) → rest_of image m (e ∷ es) want ≡ joined b (sectors_read e.length want) (min e.length want) want (rest_of image m es (want - min e.length want))) → Weight e want

  weight : (e : AllocExtent) (want : ℕ) → Weight e want
  weight e want = typed (eqb e.extent_type 0) refl
    where
      typed : (t : Bool) → eqb e.extent_type 0 ≡ t → Weight e want
      typed false p = off (weigh-type image m e want (eqb-false _ _ p))
      typed true p = in_place (placed m e.partition_ref e.block.0) refl
        where
          in_place : (o : Option ℕ) → placed m e.partition_ref e.block.0 ≡ o → Weight e want
          in_place None g = off (weigh-nowhere image m e want (eqb-true _ _ p) g)
          in_place (Some at) g = ⊎_elim
              (λ (h : sectors_read e.length want ≤ held_from image at). there at g h _ (weigh-held image m e want (eqb-true _ _ p) g h).runs)
              (λ (h : held_from image at < sectors_read e.length want). gone at g h (weigh-missing image m e want (eqb-true _ _ p) g h))
              (split (sectors_read e.length want) (held_from image at))

  front-io : (b : List ℕ) (o : Outcome (List ℕ)) → is_io (before_outcome b o) ≡ is_io o
  front-io b (answered more) = refl
  front-io b (refused why) = refl

  -- ---- a read of extents that is refused by 1 waits for the sector at its count

  no_more : (size want : ℕ) → sectors_read size want ≤ sectors_for size
  no_more size want = omega arith

  whole : (size want : ℕ) → min size want < want → sectors_read size want ≡ sectors_for size
  whole size want h = omega arith

  pub extents-wait : (es : List AllocExtent) (want : ℕ) → is_io (rest_of image m es want).outcome ≡ true → Waits image (extent_sectors m es) (rest_of image m es want).count
  unfolding extents_bytes extent_sectors
  extents-wait [] want h = absurd (let z = rw (ran-done {A = List ℕ} (disc image) []) at h in let w : ◌≡◌ {A = ℕ} 0 1 = cc in omega arith)
  extents-wait (e ∷ es) want h = by (weight e want) (λ w k. extents-wait es w k)
    where
      by : Weight e want → ((w : ℕ) → is_io (rest_of image m es w).outcome ≡ true → Waits image (extent_sectors m es) (rest_of image m es w).count)
          → Waits image (extent_sectors m (e ∷ es)) (rest_of image m (e ∷ es) want).count
      by (off runs) ih = absurd (let z = rw (runs es) at h in let w : ◌≡◌ {A = ℕ} 0 1 = cc in omega arith)
      by (gone at g k runs) ih = rw (runs es, g) (run-waits image (sectors_for e.length) at (extent_sectors m es) (omega (arith, no_more e.length want)))
      by (there at g k b runs) ih = ⊎_elim
          (λ (t : want ≤ min e.length want). absurd (let z = rw (runs es, le-leb want (min e.length want) t) at h in let w : ◌≡◌ {A = ℕ} 0 1 = cc in omega arith))
          (λ (t : min e.length want < want).
          let n : sectors_read e.length want ≡ sectors_for e.length = whole e.length want t in
          let z = ih (want - min e.length want) (sym (front-io b (rest_of image m es (want - min e.length want)).outcome) ∙ rw (runs es, lt-leb want (min e.length want) t) at h) in
          rw (runs es, lt-leb want (min e.length want) t, g, n) (rw (run_long (sectors_for e.length) at) at (waits-behind image (run (sectors_for e.length) at) (extent_sectors m es) _ (run-there image (sectors_for e.length) at (omega arith)) z)))
          (split want (min e.length want))

  -- ---- and a read of extents is refused by 1 or by 4 alone

  front_ends : (b : List ℕ) (o : Outcome (List ℕ)) → Ended o → Ended (before_outcome b o)
  front_ends b o (bytes c) = bytes (b ++ c)
  front_ends b o missing = missing
  front_ends b o unsupported = unsupported

  pub extents-end : (es : List AllocExtent) (want : ℕ) → Ended (rest_of image m es want).outcome
  unfolding extents_bytes
  extents-end [] want = rw (ran-done {A = List ℕ} (disc image) []) (bytes [])
  extents-end (e ∷ es) want = by (weight e want) (λ w. extents-end es w)
    where
      by : Weight e want → ((w : ℕ) → Ended (rest_of image m es w).outcome) → Ended (rest_of image m (e ∷ es) want).outcome
      by (off runs) ih = rw (runs es) unsupported
      by (gone at g k runs) ih = rw (runs es) missing
      by (there at g k b runs) ih = ⊎_elim
          (λ (t : want ≤ min e.length want). rw (runs es, le-leb want (min e.length want) t) (bytes b))
          (λ (t : min e.length want < want). rw (runs es, lt-leb want (min e.length want) t) (front_ends b _ (ih (want - min e.length want))))
          (split want (min e.length want))

-- The number of extents that a read visits is the number that it begins, and no other number is. Assumes nothing.
use mathlib.Core.Path.{◌≡◌, refl, ap, sym, ◌∙◌}
use mathlib.Core.List.{List, [], ◌∷◌, ◌++◌}
use mathlib.Core.Logic.{◌⊎◌, inl, inr, ⊎_elim}
use Prim.Native.Nat.{ℕ, zero, suc, ◌+◌, ◌-◌, ◌*◌, ◌≤◌, ◌<◌, min}
use native.Mathlib.Omega.{arith}
use lib.ListN.{length, take, drop, length-append}
use lib.Dec.{leb}
use borrow.Author.Tests.{le-leb, lt-leb}
use Rattle.disc.specs.Choice.{pick}
use Rattle.disc.specs.Ask.{Outcome}
use Rattle.disc.specs.Ask.Ask.{done}
use Rattle.disc.specs.Ask.Outcome.{answered, refused}
use Rattle.disc.specs.Ran.{Ran, ran}
use Rattle.disc.specs.Images.{disc}
use Rattle.disc.specs.declared.places.Mount.{Mount}
use Rattle.disc.proofs.RanLaws.{ran-done, ran_then, never}
use Rattle.disc.proofs.ImageLaws.{split}
use Rattle.records.specs.declared.allocations.LongAd.{LongAd}
use Rattle.areas.specs.declared.AllocExtent.{AllocExtent}
use Rattle.files.specs.Reads.{extents_bytes, visited}
use Rattle.files.specs.Files.{Located, entry_mount, File, file_at, visits_of, file_visited, visits_in}
use Rattle.files.specs.Files.File.{embedded, chained}
use Rattle.files.specs.Begun.{Begins}
use Rattle.files.specs.Inner.Pieces.{sectors_read, before_outcome, rest_of, There}
use Rattle.files.proofs.PieceLaws.{part-long}
use Rattle.files.proofs.BoundLaws.{Off, on, weighs}

take_next : (n : ℕ) (e : AllocExtent) (es : List AllocExtent) → take (1 + n) (e ∷ es) ≡ e ∷ take n es
take_next n e es = let z : 1 + n ≡ suc n = omega arith in rw z

module _ (image : List ℕ) (m : Mount) where
  -- of an extent that is there: its bytes, and what comes behind it
  module _ (e : AllocExtent) (want : ℕ) (y : There image m e want) where
    abbrev part : List ℕ
    part = take (min e.length want) (drop (2048 * y.at) image)

    part-size : length part ≡ min e.length want
    part-size = part-long image (2048 * y.at) (min e.length want) want (on image m e want y).lies

    -- it has all that is wanted
    last-run : want ≤ e.length → (es : List AllocExtent) → rest_of image m (e ∷ es) want ≡ record { outcome = answered part; count = sectors_read e.length want }
    last-run h es = (on image m e want y).runs es ∙ rw (le-leb want (min e.length want) (omega arith))

    -- or it doesn't
    more-run : e.length < want → (es : List AllocExtent)
        → rest_of image m (e ∷ es) want ≡ record { outcome = before_outcome part (rest_of image m es (want - e.length)).outcome; count = sectors_read e.length want + (rest_of image m es (want - e.length)).count }
    more-run h es =
        let k : want - min e.length want ≡ want - e.length = omega arith in
        (on image m e want y).runs es ∙ rw (lt-leb want (min e.length want) (omega arith), k)

  -- ---- the read of the extents that are visited is the same run

  visits-alone : (es : List AllocExtent) (want : ℕ) → rest_of image m (take (visited es want) es) want ≡ rest_of image m es want
  unfolding visited
  visits-alone [] want = refl
  visits-alone (e ∷ es) want = rw (take_next (pick (leb want e.length) 0 (visited es (want - e.length))) e es) (⊎_elim
      (λ (y : There image m e want). ⊎_elim
      (λ (h : want ≤ e.length). last-run e want y h _ ∙ sym (last-run e want y h es))
      (λ (h : e.length < want). rw (lt-leb want e.length h) (more-run e want y h (take (visited es (want - e.length)) es) ∙ rw (visits-alone es (want - e.length)) (sym (more-run e want y h es))))
      (split want e.length))
      (λ (y : Off image m e want). y.runs _ ∙ sym (y.runs es))
      (weighs image m e want))

  -- ---- with fewer of them the bytes aren't there yet

  front-short : (b : List ℕ) (n want : ℕ) → length b ≡ n → n < want → (o : Outcome (List ℕ)) → ((c : List ℕ) → o ≡ answered c → length c < want - n)
      → (x : List ℕ) → before_outcome b o ≡ answered x → length x < want
  front-short b n want l h (answered c) ih x q =
      let z : x ≡ b ++ c = cc in
      rw (z, length-append, l) (omega (arith, ih c refl))
  front-short b n want l h (refused r) ih x q = never q

  visits-needed : (es : List AllocExtent) (want : ℕ) → 0 < want → (k : ℕ) → k < visited es want → (b : List ℕ) → (rest_of image m (take k es) want).outcome ≡ answered b → length b < want
  unfolding visited extents_bytes
  visits-needed [] want w k h b q = absurd (omega arith)
  visits-needed (e ∷ es) want w zero h b q =
      let c : answered [] ≡ answered b = sym (ap (λ (x : Ran (List ℕ)). x.outcome) (ran-done (disc image) [])) ∙ q in
      let g : b ≡ [] = cc in
      rw g w
  visits-needed (e ∷ es) want w (suc j) h b q = ⊎_elim
      (λ (y : There image m e want). ⊎_elim
      (λ (g : want ≤ e.length). absurd (let z = rw (le-leb want e.length g) at h in omega arith))
      (λ (g : e.length < want).
      let z : suc j < 1 + visited es (want - e.length) = rw (lt-leb want e.length g) at h in
      let l : length (part e want y) ≡ e.length = part-size e want y ∙ omega arith in
      front-short (part e want y) e.length want l g (rest_of image m (take j es) (want - e.length)).outcome
      (λ c p. visits-needed es (want - e.length) (omega arith) j (omega arith) c p) b (sym (ap (λ x. x.outcome) (more-run e want y g (take j es))) ∙ q))
      (split want e.length))
      (λ (y : Off image m e want). never (sym (ap (λ x. x.outcome) (y.runs (take j es))) ∙ q))
      (weighs image m e want)

  -- ---- with all of them they are, or there are no more extents

  front-stops : (b : List ℕ) (n want : ℕ) → length b ≡ n → n < want → {i j : ℕ} (o : Outcome (List ℕ)) → ((c : List ℕ) → o ≡ answered c → (length c ≡ want - n) ⊎ (i ≡ j))
      → (x : List ℕ) → before_outcome b o ≡ answered x → (length x ≡ want) ⊎ (1 + i ≡ suc j)
  front-stops b n want l h {i} {j} (answered c) ih x q =
      let z : x ≡ b ++ c = cc in ⊎_elim
      (λ (g : length c ≡ want - n). inl (rw (z, length-append, l) (omega arith)))
      (λ (g : i ≡ j). inr (omega arith))
      (ih c refl)
  front-stops b n want l h (refused r) ih x q = never q

  visits-stop : (es : List AllocExtent) (want : ℕ) (b : List ℕ) → (rest_of image m es want).outcome ≡ answered b → (length b ≡ want) ⊎ (visited es want ≡ length es)
  unfolding visited
  visits-stop [] want b q = inr refl
  visits-stop (e ∷ es) want b q = ⊎_elim
      (λ (y : There image m e want). ⊎_elim
      (λ (g : want ≤ e.length).
      let c : answered (part e want y) ≡ answered b = sym (ap (λ x. x.outcome) (last-run e want y g es)) ∙ q in
      let z : b ≡ part e want y = cc in
      inl (rw z (part-size e want y ∙ omega arith)))
      (λ (g : e.length < want).
      let l : length (part e want y) ≡ e.length = part-size e want y ∙ omega arith in
      rw (lt-leb want e.length g) (front-stops (part e want y) e.length want l g (rest_of image m es (want - e.length)).outcome (visits-stop es (want - e.length)) b (sym (ap (λ x. x.outcome) (more-run e want y g es)) ∙ q)))
      (split want e.length))
      (λ (y : Off image m e want). never (sym (ap (λ x. x.outcome) (y.runs es)) ∙ q))
      (weighs image m e want)

-- ---- how many they are

visits-few : (es : List AllocExtent) (want : ℕ) → visited es want ≤ length es
unfolding visited
visits-few [] want = omega arith
visits-few (e ∷ es) want = ⊎_elim
    (λ (g : want ≤ e.length). rw (le-leb want e.length g) (omega arith))
    (λ (g : e.length < want). rw (lt-leb want e.length g) (omega (arith, visits-few es (want - e.length))))
    (split want e.length)

visits-first : (es : List AllocExtent) (want : ℕ) → want ≡ 0 → visited es want ≡ min 1 (length es)
unfolding visited
visits-first [] want z = refl
visits-first (e ∷ es) want z = rw (le-leb want e.length (omega arith)) (omega arith)

-- ---- so it is the number of extents that a read begins

module _ (image : List ℕ) (m : Mount) (es : List AllocExtent) (want : ℕ) where
  pub visits-begin : Begins image m es want (visited es want)
  visits-begin = record {
    alone = visits-alone image m es want;
    needed = visits-needed image m es want;
    stops = visits-stop image m es want;
    first = visits-first es want;
    few = visits-few es want;
  }

  -- of a read that is answered no smaller number of extents is, and so no larger one
  module _ {b : List ℕ} (q : (rest_of image m es want).outcome ≡ answered b) where
    no_more : {n k : ℕ} → Begins image m es want n → Begins image m es want k → k ≤ n
    no_more {n} {k} p r = ⊎_elim
        (λ (h : k ≤ n). h)
        (λ (h : n < k). ⊎_elim
        (λ (g : want ≤ 0). omega (arith, p.first (omega arith), r.first (omega arith)))
        (λ (g : 0 < want).
        let s = r.needed g n h b (ap (λ x. x.outcome) p.alone ∙ q) in ⊎_elim
        (λ (t : length b ≡ want). absurd (omega arith))
        (λ (t : n ≡ length es). absurd (omega (arith, r.few)))
        (p.stops b q))
        (split want 0))
        (split k n)

    pub begins-one : {n k : ℕ} → Begins image m es want n → Begins image m es want k → n ≡ k
    begins-one p r = omega (arith, no_more p r, no_more r p)

-- ---- of a file: the E of the bound

module _ (image : List ℕ) (m : Mount) (icb : LongAd) where
  file-visits : {f : File} → (ran (disc image) (file_at m icb)).outcome ≡ answered f → visits_in (ran (disc image) (file_visited m icb)).outcome ≡ visits_of f
  unfolding file_visited
  file-visits {f} h = rw (ran_then (disc image) (file_at m icb) (λ g. done (visits_of g)), h, ran-done)

  -- a chained file's is the number of extents that its read begins
  pub file-begins : {x : Located} {es : List AllocExtent} → (ran (disc image) (file_at m icb)).outcome ≡ answered (chained x es)
      → Begins image (entry_mount m icb) es x.entry.information_length (visits_in (ran (disc image) (file_visited m icb)).outcome)
  file-begins {x} {es} h = rw (file-visits h) (visits-begin image (entry_mount m icb) es x.entry.information_length)

  -- an embedded one begins none
  pub embedded-begins : {x : Located} → (ran (disc image) (file_at m icb)).outcome ≡ answered (embedded x) → visits_in (ran (disc image) (file_visited m icb)).outcome ≡ 0
  embedded-begins h = file-visits h

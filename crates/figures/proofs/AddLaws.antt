-- What a directory, a file and an image add to the figures of a place, and what they leave of any numbers. Assumes nothing.
use mathlib.Core.Path.{◌≡◌, refl, ap, sym, ◌∙◌}
use mathlib.Core.List.{List}
use Prim.Native.Nat.{ℕ, ◌+◌, ◌*◌, ◌<◌, ◌≤◌, ◌^◌, max}
use native.Mathlib.Nat.{add-zero}
use native.Mathlib.Omega.{arith}
use lib.ListN.{length, get_or, set}
use lib.Seq.{sets}
use borrow.Author.Tests.{eq-eqb, ne_eqb}
use Rattle.disc.specs.Counts.{reported}
use Rattle.figures.specs.Figures.{Figures, Wide, Adds, added, one_directory, one_file, one_image, one_at, each_added, summed, greater, most, over, pairs, numbers, row}
use Rattle.figures.specs.Placed.{summed_at, greater_at, in_place, filed, with_directory, with_file, with_image}
use Rattle.figures.proofs.PairLaws.{reported-within, over-within}
use Rattle.figures.proofs.RowLaws.{each_long, each_none, each-one, sum-at, longer-at, laid, laid-long, first-list, first-set, second-list, second-set, last-number, last_set}
use Rattle.figures.proofs.FigureLaws.{added-wide, numbers-long, holds-long}

max-zero : (n : ℕ) → max n 0 ≡ n
max-zero n = omega arith

-- ---- a directory

directory-numbers : (f : Figures) → set (numbers f) 1 (get_or (numbers f) 1 0 + 1) ≡ numbers (added f one_directory)
directory-numbers f =
    rw (add-zero f.files, add-zero f.bytes, add-zero f.extents, add-zero f.sectors, each_none f.by_files 17, each_none f.by_images 17, max-zero f.chain)

directory-added : {s t : List ℕ} → t ≡ sets s 2 (summed (get_or s 2 0) (get_or s 3 0) (reported 1) (over 1)) → Adds one_directory s t
unfolding row
directory-added e f h =
    let l = numbers-long h.wide in
    record {
      wide = added-wide one_directory h.wide;
      is = sum-at (numbers f) 2 1 1 h.is refl (omega arith) e ∙ ap pairs (directory-numbers f);
    }

-- ---- an image

image-numbers : (f : Figures) (k : ℕ) → Wide f → k ≤ 16 → set (numbers f) (22 + k) (get_or (numbers f) (22 + k) 0 + 1) ≡ numbers (added f (one_image k))
image-numbers f k w h =
    let e = second-list f.files f.directories f.bytes f.extents f.sectors f.by_files f.by_images f.chain w.files-wide w.images-wide k h in
    let g = second-set f.files f.directories f.bytes f.extents f.sectors f.by_files f.by_images f.chain w.files-wide w.images-wide k h in
    rw e (g (get_or f.by_images k 0 + 1)
    ∙ rw (add-zero f.files, add-zero f.directories, add-zero f.bytes, add-zero f.extents, add-zero f.sectors, each_none f.by_files 17, each-one f.by_images k w.images-wide h, max-zero f.chain))

image-added : {s t : List ℕ} (k : ℕ) → k ≤ 16 → t ≡ sets s (44 + 2 * k) (summed (get_or s (44 + 2 * k) 0) (get_or s (44 + 2 * k + 1) 0) (reported 1) (over 1)) → Adds (one_image k) s t
unfolding row
image-added k x e f h =
    let l = numbers-long h.wide in
    record {
      wide = added-wide (one_image k) h.wide;
      is = sum-at (numbers f) (44 + 2 * k) (22 + k) 1 h.is (omega arith) (omega arith) e ∙ ap pairs (image-numbers f k h.wide x);
    }

-- ---- a file: six figures, one behind another

module _ (f : Figures) (w : Wide f) where
  -- the place with other numbers for files, bytes, extents and sectors
  abbrev so_far : ℕ → ℕ → ℕ → ℕ → List ℕ
  so_far n m o p = laid n f.directories m o p f.by_files f.by_images f.chain

  -- and with one more under an answer number
  abbrev answered : ℕ → ℕ → ℕ → ℕ → ℕ → List ℕ
  answered n m o p k = laid n f.directories m o p (each_added f.by_files (one_at k)) f.by_images f.chain

  long : (n m o p : ℕ) → length (so_far n m o p) ≡ 40
  long n m o p = laid-long n f.directories m o p f.by_files f.by_images f.chain w.files-wide w.images-wide

  module _ (n m o p : ℕ) {s t : List ℕ} (e : s ≡ pairs (so_far n m o p)) where
    file-counts : t ≡ sets s 0 (summed (get_or s 0 0) (get_or s 1 0) (reported 1) (over 1)) → t ≡ pairs (so_far (n + 1) m o p)
    file-counts g = sum-at (so_far n m o p) 0 0 1 e refl (omega (arith, long n m o p)) g

    module _ (b : ℕ) where
      bytes_count : t ≡ sets s 4 (summed (get_or s 4 0) (get_or s 5 0) (reported b) (over b)) → t ≡ pairs (so_far n (m + b) o p)
      bytes_count g = sum-at (so_far n m o p) 4 2 b e refl (omega (arith, long n m o p)) g

      extents-count : t ≡ sets s 6 (summed (get_or s 6 0) (get_or s 7 0) (reported b) (over b)) → t ≡ pairs (so_far n m (o + b) p)
      extents-count g = sum-at (so_far n m o p) 6 3 b e refl (omega (arith, long n m o p)) g

      sectors-count : t ≡ sets s 8 (summed (get_or s 8 0) (get_or s 9 0) (reported b) (over b)) → t ≡ pairs (so_far n m o (p + b))
      sectors-count g = sum-at (so_far n m o p) 8 4 b e refl (omega (arith, long n m o p)) g

    module _ (k : ℕ) (h : k ≤ 16) where
      answer-counts : t ≡ sets s (10 + 2 * k) (summed (get_or s (10 + 2 * k) 0) (get_or s (10 + 2 * k + 1) 0) (reported 1) (over 1)) → t ≡ pairs (answered n m o p k)
      answer-counts g =
          let l = long n m o p in
          let v : ℕ = get_or f.by_files k 0 + 1 in
          let r = first-list n f.directories m o p f.by_files f.by_images f.chain w.files-wide w.images-wide k h in
          let q = first-set n f.directories m o p f.by_files f.by_images f.chain w.files-wide w.images-wide k h v in
          sum-at (so_far n m o p) (10 + 2 * k) (5 + k) 1 e (omega arith) (omega arith) g
          ∙ ap pairs (rw (r, each-one f.by_files k w.files-wide h) q)

  -- and with the longer chain
  chain-counts : (n m o p k c : ℕ) {s t : List ℕ} → s ≡ pairs (answered n m o p k)
      → t ≡ sets s 78 (greater (get_or s 78 0) (get_or s 79 0) (reported c) (over c))
      → t ≡ pairs (laid n f.directories m o p (each_added f.by_files (one_at k)) f.by_images (max f.chain c))
  chain-counts n m o p k c e g =
      let x : length (each_added f.by_files (one_at k)) ≡ 17 = each_long f.by_files (one_at k) ∙ w.files-wide in
      let l = laid-long n f.directories m o p (each_added f.by_files (one_at k)) f.by_images f.chain x w.images-wide in
      let r = last-number n f.directories m o p (each_added f.by_files (one_at k)) f.by_images f.chain x w.images-wide in
      let q = last_set n f.directories m o p (each_added f.by_files (one_at k)) f.by_images f.chain x w.images-wide (max f.chain c) in
      longer-at (answered n m o p k) 78 39 c e refl (omega arith) g
      ∙ ap pairs (rw r q)

file-added : (k b x y c : ℕ) {s s₁ s₂ s₃ s₄ s₅ t : List ℕ} → k ≤ 16
    → s₁ ≡ sets s 0 (summed (get_or s 0 0) (get_or s 1 0) (reported 1) (over 1))
    → s₂ ≡ sets s₁ 4 (summed (get_or s₁ 4 0) (get_or s₁ 5 0) (reported b) (over b))
    → s₃ ≡ sets s₂ 6 (summed (get_or s₂ 6 0) (get_or s₂ 7 0) (reported x) (over x))
    → s₄ ≡ sets s₃ 8 (summed (get_or s₃ 8 0) (get_or s₃ 9 0) (reported y) (over y))
    → s₅ ≡ sets s₄ (10 + 2 * k) (summed (get_or s₄ (10 + 2 * k) 0) (get_or s₄ (10 + 2 * k + 1) 0) (reported 1) (over 1))
    → t ≡ sets s₅ 78 (greater (get_or s₅ 78 0) (get_or s₅ 79 0) (reported c) (over c))
    → Adds (one_file k b x y c) s t
unfolding row
file-added k b x y c hk a₁ a₂ a₃ a₄ a₅ a₆ f h =
    let w = h.wide in
    let e₁ = file-counts f w f.files f.bytes f.extents f.sectors h.is a₁ in
    let e₂ = bytes_count f w (f.files + 1) f.bytes f.extents f.sectors e₁ b a₂ in
    let e₃ = extents-count f w (f.files + 1) (f.bytes + b) f.extents f.sectors e₂ x a₃ in
    let e₄ = sectors-count f w (f.files + 1) (f.bytes + b) (f.extents + x) f.sectors e₃ y a₄ in
    let e₅ = answer-counts f w (f.files + 1) (f.bytes + b) (f.extents + x) (f.sectors + y) e₄ k hk a₅ in
    let e₆ = chain-counts f w (f.files + 1) (f.bytes + b) (f.extents + x) (f.sectors + y) k c e₅ a₆ in
    record { wide = added-wide (one_file k b x y c) w; is = e₆ ∙ ap pairs (rw (add-zero f.directories, each_none f.by_images 17)) }

-- ---- in a place, as it stands

in_place_lem : (put : List ℕ → List ℕ) (s : List ℕ) → length s ≡ 80 → in_place put s ≡ put s
in_place_lem put s h = rw (eq-eqb (length s) 80 h)

pub directory-adds : (s : List ℕ) → Adds one_directory s (with_directory s)
unfolding with_directory
directory-adds s f h = directory-added (in_place_lem (summed_at 2 1) s (holds-long h)) f h

pub image-adds : (k : ℕ) → k ≤ 16 → (s : List ℕ) → Adds (one_image k) s (with_image k s)
unfolding with_image
image-adds k l s f h = image-added k l (in_place_lem (summed_at (44 + 2 * k) 1) s (holds-long h)) f h

pub file-adds : (k b x y c : ℕ) → k ≤ 16 → (s : List ℕ) → Adds (one_file k b x y c) s (with_file k b x y c s)
unfolding with_file
file-adds k b x y c l s f h = file-added k b x y c {s = s} l refl refl refl refl refl (in_place_lem (filed k b x y c) s (holds-long h)) f h

-- ---- what the functions leave

-- a slice of another length stays as it came
module _ {s : List ℕ} (h : length s ≡ 80 → ⊥) where
  pub no-directory : s ≡ with_directory s
  unfolding with_directory
  no-directory = rw (ne_eqb (length s) 80 h)

  pub no-file : (k b x y c : ℕ) → s ≡ with_file k b x y c s
  unfolding with_file
  no-file k b x y c = rw (ne_eqb (length s) 80 h)

  pub no-image : (k : ℕ) → s ≡ with_image k s
  unfolding with_image
  no-image k = rw (ne_eqb (length s) 80 h)

module _ (n : ℕ) (h : n ≤ most) (at : ℕ) (s : List ℕ) where
  summed-small : sets s at (summed (get_or s at 0) (get_or s (at + 1) 0) n 0) ≡ summed_at at n s
  summed-small = rw (reported-within n h, over-within n h)

  greater-small : sets s at (greater (get_or s at 0) (get_or s (at + 1) 0) n 0) ≡ greater_at at n s
  greater-small = rw (reported-within n h, over-within n h)

pub directory-placed : (s : List ℕ) {t : List ℕ} → length s ≡ 80 → t ≡ sets s 2 (summed (get_or s 2 0) (get_or s 3 0) 1 0) → t ≡ with_directory s
unfolding with_directory
directory-placed s h e = e ∙ sym (in_place_lem (summed_at 2 1) s h)

pub image-placed : (k : ℕ) (s : List ℕ) {t : List ℕ} → length s ≡ 80 → t ≡ sets s (44 + 2 * k) (summed (get_or s (44 + 2 * k) 0) (get_or s (44 + 2 * k + 1) 0) 1 0) → t ≡ with_image k s
unfolding with_image
image-placed k s h e = e ∙ sym (in_place_lem (summed_at (44 + 2 * k) 1) s h)

pub file-placed : (k b x y c : ℕ) (s : List ℕ) {s₁ s₂ s₃ s₄ s₅ t : List ℕ} → length s ≡ 80 → b < 2 ^ 64 → x < 2 ^ 64 → y < 2 ^ 64 → c < 2 ^ 64
    → s₁ ≡ sets s 0 (summed (get_or s 0 0) (get_or s 1 0) 1 0)
    → s₂ ≡ sets s₁ 4 (summed (get_or s₁ 4 0) (get_or s₁ 5 0) b 0)
    → s₃ ≡ sets s₂ 6 (summed (get_or s₂ 6 0) (get_or s₂ 7 0) x 0)
    → s₄ ≡ sets s₃ 8 (summed (get_or s₃ 8 0) (get_or s₃ 9 0) y 0)
    → s₅ ≡ sets s₄ (10 + 2 * k) (summed (get_or s₄ (10 + 2 * k) 0) (get_or s₄ (10 + 2 * k + 1) 0) 1 0)
    → t ≡ sets s₅ 78 (greater (get_or s₅ 78 0) (get_or s₅ 79 0) c 0)
    → t ≡ with_file k b x y c s
unfolding with_file
file-placed k b x y c s {s₁} {s₂} {s₃} {s₄} {s₅} h hb hx hy hc a₁ a₂ a₃ a₄ a₅ a₆ =
    let e₂ : s₂ ≡ summed_at 4 b s₁ = a₂ ∙ summed-small b (omega arith) 4 s₁ in
    let e₃ : s₃ ≡ summed_at 6 x s₂ = a₃ ∙ summed-small x (omega arith) 6 s₂ in
    let e₄ : s₄ ≡ summed_at 8 y s₃ = a₄ ∙ summed-small y (omega arith) 8 s₃ in
    a₆
    ∙ greater-small c (omega arith) 78 s₅
    ∙ ap (greater_at 78 c) (a₅ ∙ ap (summed_at (10 + 2 * k) 1) (e₄ ∙ ap (summed_at 8 y) (e₃ ∙ ap (summed_at 6 x) (e₂ ∙ ap (summed_at 4 b) a₁))))
    ∙ sym (in_place_lem (filed k b x y c) s h)
